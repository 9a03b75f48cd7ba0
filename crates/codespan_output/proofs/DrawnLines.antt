-- which lines are drawn, breaks and the padding
pub mod Breaks
pub mod Filled
pub mod Filling
pub mod Padding
pub mod Counts
pub mod RowBounds
pub mod Greatest
pub mod Digits
