-- Definitions that private calls and proofs use: a reader of the public contracts needs none of
-- them.
pub mod RemainingMetrics
pub mod CursorStates
pub mod CachedMetrics
pub mod RowWriters
pub mod PreferredStyles
pub mod LabelCursors
-- all of their names
unfoldable pub use Rattle.codespan_renderer.specs.Private.RemainingMetrics.*
unfoldable pub use Rattle.codespan_renderer.specs.Private.CursorStates.*
unfoldable pub use Rattle.codespan_renderer.specs.Private.CachedMetrics.*
unfoldable pub use Rattle.codespan_renderer.specs.Private.RowWriters.*
unfoldable pub use Rattle.codespan_renderer.specs.Private.PreferredStyles.*
unfoldable pub use Rattle.codespan_renderer.specs.Private.LabelCursors.*
