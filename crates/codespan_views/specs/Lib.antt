-- the calls that render a diagnostic
pub mod EmitErrors
pub mod Output
pub mod WriteCalls
pub mod Views
-- definitions that private calls and proofs use
pub mod Private
-- all of their names
unfoldable pub use Rattle.codespan_views.specs.EmitErrors.*
unfoldable pub use Rattle.codespan_views.specs.Output.*
unfoldable pub use Rattle.codespan_views.specs.WriteCalls.*
unfoldable pub use Rattle.codespan_views.specs.Views.*
