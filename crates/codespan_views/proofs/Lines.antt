-- the lines of a snippet and their numbers
pub mod FilledNumbers
pub mod Rendered
pub mod NumbersFound
pub mod RangeMaps
pub mod SnippetLineRows
pub mod SnippetLineViews
pub mod SpannedPadding
pub mod Fitted
