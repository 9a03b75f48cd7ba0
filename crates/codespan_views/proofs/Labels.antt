-- labels, collected one after another
pub mod OfFiles
pub mod Indexing
pub mod Collected
pub mod TheirLines
pub mod LocusBytes
pub mod OfFile
pub mod Collecting
pub mod Contexts
