-- the files of an output
pub mod Indices
pub mod Lengths
pub mod Slices
pub mod Turns
pub mod InOrder
pub mod Collected
pub mod LociFound
pub mod SnippetStarts
