-- suggestions and errors
pub mod Views
pub mod Errors
-- what a suggestion makes, and what is wrong with it
pub mod EditedFiles
pub mod Faults
-- names of files, and what is written of edits
pub mod NamedFiles
pub mod Escapes
pub mod LineColumns
pub mod FixIts
pub mod UnifiedDiffs
pub mod CodeActions
-- the output
pub mod DrawnText
pub mod DrawnFiles
pub mod SuggestionRows
pub mod SuggestionOutput
-- the output as it is read
pub mod ReadOutput
pub mod ReadableChars
pub mod ReadPatches
-- laws
pub mod SuggestionLaws
pub mod RenderingLaws
pub mod WrittenLaws
pub mod ReadingLaws
pub mod PatchLaws
pub mod BorderLaws
pub mod ActionLaws
-- of this crate alone
pub mod Private
