-- Definitions that private calls and proofs use: a reader of the public contracts needs none of
-- them.
-- the Rust types that definitions name
pub mod Types
-- what is looked up in a file, and what a label does on a line
pub mod SourceFiles
pub mod Loci
pub mod LabeledFiles
pub mod Annotations
-- what is collected of labels
pub mod LabelAnnotations
pub mod LabelsToCollect
pub mod Collections
-- what is looked up before the header
pub mod SnippetLines
pub mod EarlyLookups
-- what is rendered
pub mod LookupsWhileRendering
pub mod Rendering
-- all of their names
unfoldable pub use Rattle.codespan_views.specs.Private.Types.*
unfoldable pub use Rattle.codespan_views.specs.Private.SourceFiles.*
unfoldable pub use Rattle.codespan_views.specs.Private.Loci.*
unfoldable pub use Rattle.codespan_views.specs.Private.LabeledFiles.*
unfoldable pub use Rattle.codespan_views.specs.Private.Annotations.*
unfoldable pub use Rattle.codespan_views.specs.Private.LabelAnnotations.*
unfoldable pub use Rattle.codespan_views.specs.Private.LabelsToCollect.*
unfoldable pub use Rattle.codespan_views.specs.Private.Collections.*
unfoldable pub use Rattle.codespan_views.specs.Private.SnippetLines.*
unfoldable pub use Rattle.codespan_views.specs.Private.EarlyLookups.*
unfoldable pub use Rattle.codespan_views.specs.Private.LookupsWhileRendering.*
unfoldable pub use Rattle.codespan_views.specs.Private.Rendering.*
