-- the last case, and cases parsed line by line
pub mod LastCase
pub mod LineByLine
-- a line that lacks a number
pub mod WrongLines
-- outputs that are appended one by one
pub mod CaseByCase
-- what holds over the file database of a case
pub mod OneFile
-- the outputs of suggestions, and the runs of a case are those of its output
pub mod SuggestionOutputs
pub mod Runs
-- what the outcome of a run says
pub mod Outcomes
