-- the characters of a line, one after another
pub mod Steps
pub mod Consecutive
pub mod ScanState
pub mod Widths
pub mod PlainText
pub mod TextRuns
pub mod Styled
