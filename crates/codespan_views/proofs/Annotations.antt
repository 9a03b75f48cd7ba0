-- annotations, and the lines that they make
pub mod Groups
pub mod Lines
pub mod Order
pub mod Output
pub mod OfGroup
pub mod OfLabel
pub mod KeptElements
pub mod IndexedElements
pub mod LaneMarks
pub mod SingleLabelOrder
