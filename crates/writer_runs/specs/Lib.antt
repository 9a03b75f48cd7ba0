-- the writer of styles that stops at a style mark
pub mod Spellings
