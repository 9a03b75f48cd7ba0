-- Lemmas by which `NativeFiles` proves the law of `Files`. A reader may skip them: no clause names
-- what is defined here.
pub mod SourceTexts
pub mod NativeFiles
