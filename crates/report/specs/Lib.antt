-- what the arguments request
pub mod Requests
-- scripts: their lines, their words, their errors, and what they state
pub mod ScriptLines
pub mod ScriptWords
pub mod ScriptFaults
pub mod Suggestions
pub mod Scripts
-- what scripts are written from, and their laws
pub mod Statements
pub mod ScriptLaws
-- the diagnostics of label requests and of scripts' errors
pub mod ReportDiagnostics
-- what is rendered, and the errors of a run
pub mod RenderedTexts
pub mod ReportErrors
