-- the line numbers of `MappedFile`
pub mod SetLineNumbers
pub mod NumbersCountOn
-- laws of lines, line starts and columns
pub mod LineCuts
pub mod LineCounts
pub mod LineStartsEnd
-- re-exports for custom writers, and the bytes of colors
pub mod StyleMarks
pub mod AppendsBytes
pub mod AnsiLemmas
