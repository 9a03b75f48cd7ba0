-- numbers in decimal digits, and what the arguments request
pub mod Numbers
pub mod Arguments
-- a text, cut into lines
pub mod ScriptCuts
-- where the errors of an input are
pub mod TextsInInput
pub mod LinesInInput
pub mod LineFaultRanges
pub mod FaultRanges
-- a script that is written out from its statements: its lines, and what is read of them
pub mod WrittenScripts
pub mod ReadLines
pub mod ReadSuggestions
pub mod NoLineFaults
pub mod ReadBack
-- the diagnostic of a label request
pub mod LabelRequestDiagnostics
-- the output of a diagnostic
pub mod Rendered
-- what the outcome of a run says
pub mod Outcomes
-- the source of a script after its edits, the diff of these, and the output of a suggestion
pub mod AppliedSources
pub mod OneFile
pub mod ScriptDiffs
pub mod SuggestionTexts
-- edits that cannot be made
pub mod FaultyEdits
