-- edits and their order
pub mod Edits
-- what is wrong with a list of edits
pub mod Faults
pub mod ErrorText
-- the diff
pub mod Diffs
pub mod Numbers
pub mod DrawnRows
pub mod RowViews
-- laws of edits
pub mod EditLaws
pub mod DiffLaws
pub mod Patches
pub mod HunkLaws
-- of this crate alone
pub mod Private
