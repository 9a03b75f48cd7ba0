-- what proofs take of std
pub mod Std
-- texts and lists of diagnostics
pub mod TextLemmas
-- line starts, columns, and lines past the end
pub mod NewlineLemmas
pub mod ColumnLemmas
pub mod PastLastLineFailures
-- what writers write
pub mod KnownBytes
pub mod Writes
pub mod Put
pub mod Loops
pub mod Chains
pub mod Repeats
pub mod StyleMarks
pub mod AppendsBytes
