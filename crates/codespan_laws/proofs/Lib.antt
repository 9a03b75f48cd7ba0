-- colors
pub mod ColorLemmas
-- the order of labels
pub mod OrderMembers
pub mod OrderPictures
-- lanes, characters and resets of rows
pub mod LaneWidths
pub mod CharacterLemmas
pub mod ResetLemmas
pub mod RowResets
