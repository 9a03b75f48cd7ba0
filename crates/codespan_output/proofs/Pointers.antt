-- pointers of hanging labels
pub mod Cells
pub mod Texts
pub mod Before
pub mod Spaced
pub mod HangingStarts
pub mod Forms
