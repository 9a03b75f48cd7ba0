-- the cells of a line at a wider radius
pub mod Gaps
pub mod Parts
