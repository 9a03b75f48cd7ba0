-- outputs are texts
pub mod DrawnLines
pub mod Lanes
pub mod OutputRows
pub mod Outputs
pub mod Rows
pub mod Streams
pub mod Texts
pub mod ListElements
pub mod Sequences
pub mod FittedRows
