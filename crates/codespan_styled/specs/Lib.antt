-- text in runs, and the writer that keeps it
pub mod Runs
pub mod Recorders
-- the cells of characters, and which characters are shown
pub mod Cells
pub mod SafeText
-- HTML: the element, what a reader finds in it, and its style sheet
pub mod Html
pub mod HtmlReading
pub mod StyleSheet
-- SVG: inks, characters in their cells, the document, and what a reader finds in it
pub mod Inks
pub mod Glyphs
pub mod Svg
pub mod SvgReading
-- text for a terminal
pub mod Terminal
-- the runs of a diagnostic
pub mod Outputs
