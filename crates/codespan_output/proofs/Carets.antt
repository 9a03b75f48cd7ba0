-- carets and their cells
pub mod Ends
pub mod Cells
pub mod Runs
pub mod SkippedCells
