-- the Rust types that definitions name
pub mod Types
-- a line: its characters, carets and lanes
pub mod CharMetrics
pub mod Carets
pub mod Lanes
-- rows and their streams
pub mod Rows
pub mod RowParts
pub mod RowStreams
pub mod RowDefinitions
-- lines that fit a width
pub mod FittedParts
pub mod FittedLines
-- the output
pub mod Lines
pub mod Sequences
pub mod Snippets
pub mod Padding
pub mod OutputStreams
pub mod Picture
pub mod Lookups
-- labels, lane marks and loci as calls take them
pub mod Arguments
-- what an output means
pub mod CaretLaws
pub mod LaneLaws
pub mod LineLaws
pub mod MessageLaws
pub mod RowLaws
pub mod SortLaws
pub mod Utf8Laws
pub mod TrailingLaws
pub mod FittedLineLaws
pub mod StatedNames
pub mod RichLaws
pub mod FittingLaws
-- what each call of `Renderer` renders
pub mod RenderedRows
-- definitions for proofs, and for the contracts of calls that users do not name
pub mod Private
-- all of their names
unfoldable pub use Rattle.codespan_output.specs.Types.*
unfoldable pub use Rattle.codespan_output.specs.CharMetrics.*
unfoldable pub use Rattle.codespan_output.specs.Carets.*
unfoldable pub use Rattle.codespan_output.specs.Lanes.*
unfoldable pub use Rattle.codespan_output.specs.Rows.*
unfoldable pub use Rattle.codespan_output.specs.RowParts.*
unfoldable pub use Rattle.codespan_output.specs.RowStreams.*
unfoldable pub use Rattle.codespan_output.specs.RowDefinitions.*
unfoldable pub use Rattle.codespan_output.specs.FittedParts.*
unfoldable pub use Rattle.codespan_output.specs.FittedLines.*
unfoldable pub use Rattle.codespan_output.specs.Lines.*
unfoldable pub use Rattle.codespan_output.specs.Sequences.*
unfoldable pub use Rattle.codespan_output.specs.Snippets.*
unfoldable pub use Rattle.codespan_output.specs.Padding.*
unfoldable pub use Rattle.codespan_output.specs.OutputStreams.*
unfoldable pub use Rattle.codespan_output.specs.Picture.*
unfoldable pub use Rattle.codespan_output.specs.Lookups.*
unfoldable pub use Rattle.codespan_output.specs.Arguments.*
unfoldable pub use Rattle.codespan_output.specs.CaretLaws.*
unfoldable pub use Rattle.codespan_output.specs.LaneLaws.*
unfoldable pub use Rattle.codespan_output.specs.LineLaws.*
unfoldable pub use Rattle.codespan_output.specs.MessageLaws.*
unfoldable pub use Rattle.codespan_output.specs.RowLaws.*
unfoldable pub use Rattle.codespan_output.specs.SortLaws.*
unfoldable pub use Rattle.codespan_output.specs.Utf8Laws.*
unfoldable pub use Rattle.codespan_output.specs.TrailingLaws.*
unfoldable pub use Rattle.codespan_output.specs.FittedLineLaws.*
unfoldable pub use Rattle.codespan_output.specs.StatedNames.*
unfoldable pub use Rattle.codespan_output.specs.RichLaws.*
unfoldable pub use Rattle.codespan_output.specs.FittingLaws.*
unfoldable pub use Rattle.codespan_output.specs.RenderedRows.*
