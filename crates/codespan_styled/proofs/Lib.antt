-- documents that are appended piece by piece
pub mod Appending
-- which characters are shown, and their columns
pub mod Shown
pub mod UnsafeCells
-- HTML: what is written, what a reader finds in it, and that elements are closed
pub mod HtmlWriting
pub mod HtmlReading
pub mod HtmlBalance
pub mod StyleSheets
-- SVG: characters in their cells, and the texts of the document
pub mod Glyphs
pub mod SvgPieces
pub mod SvgCells
pub mod SvgReading
pub mod SvgElements
pub mod SvgWhiteSpace
pub mod SvgColumns
pub mod SvgOrder
-- text for a terminal
mod SafeTexts
mod Sequences
mod TerminalStates
mod TerminalRuns
mod AnsiStreams
-- an output that is kept as runs
pub mod Bytes
pub mod Decoding
pub mod Recording
pub mod Received
pub mod Rendering
