-- lemmas by subject
pub mod Carets
pub mod Characters
pub mod Pointers
pub mod Messages
pub mod Lanes
pub mod Slots
pub mod DrawnLines
pub mod Order
pub mod Utf8
pub mod Outputs
pub mod Fitting
pub mod WiderRadius
