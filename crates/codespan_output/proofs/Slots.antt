-- slots, and the labels with their slots filled
pub mod Files
pub mod Lines
pub mod Parts
pub mod Rows
pub mod Sums
pub mod Once
pub mod RefilledLabels
pub mod RefilledLanes
pub mod RefilledLines
pub mod RefilledLine
pub mod RefilledOutput
pub mod RefilledRows
pub mod RefilledFitting
pub mod FittedSlots
