-- Definitions for proofs, and for the contracts of calls that users do not name, here and in the
-- crates above: a reader of the contracts of what users name needs none of them.
pub mod LineViews
pub mod LabelIndices
pub mod LineRows
pub mod LocusBytes
pub mod WrittenParts
pub mod CharCursors
pub mod PointerLists
pub mod LineCharacters
pub mod RemainingLaneMarks
pub mod PrimaryCover
pub mod Runs
pub mod RowLabels
pub mod Underlines
-- all of their names
unfoldable pub use Rattle.codespan_output.specs.Private.LineViews.*
unfoldable pub use Rattle.codespan_output.specs.Private.LabelIndices.*
unfoldable pub use Rattle.codespan_output.specs.Private.LineRows.*
unfoldable pub use Rattle.codespan_output.specs.Private.LocusBytes.*
unfoldable pub use Rattle.codespan_output.specs.Private.WrittenParts.*
unfoldable pub use Rattle.codespan_output.specs.Private.CharCursors.*
unfoldable pub use Rattle.codespan_output.specs.Private.PointerLists.*
unfoldable pub use Rattle.codespan_output.specs.Private.LineCharacters.*
unfoldable pub use Rattle.codespan_output.specs.Private.RemainingLaneMarks.*
unfoldable pub use Rattle.codespan_output.specs.Private.PrimaryCover.*
unfoldable pub use Rattle.codespan_output.specs.Private.Runs.*
unfoldable pub use Rattle.codespan_output.specs.Private.RowLabels.*
unfoldable pub use Rattle.codespan_output.specs.Private.Underlines.*
