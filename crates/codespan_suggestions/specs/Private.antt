-- definitions that only contracts of this crate cite
pub mod Spans
pub mod FileViews
