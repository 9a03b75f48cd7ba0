-- What an error displays, and what an error of edits is as an error of a suggestion.
use Rattle.std.specs.Prelude.{ℕ, List, Option, Some}
use Rattle.codespan_core.specs.declared.files.error.Error.TheVariants as of_files
use Rattle.codespan_core.specs.ErrorText as texts_of_files
use Rattle.codespan_edits.specs.declared.error.EditError.{EditError}
use Rattle.codespan_edits.specs.declared.error.EditError.TheVariants.{OutOfMemory}
use Rattle.codespan_edits.specs.ErrorText as texts_of_edits
use Rattle.codespan_suggestions.specs.declared.error.SuggestionError.{SuggestionError}
use Rattle.codespan_suggestions.specs.declared.error.SuggestionError.TheVariants.{Edit, Files}

-- the text of an error, if it is stated
abbrev pub error_text : SuggestionError → Option (List ℕ)
error_text (Edit e) = Some (texts_of_edits.error_text e)
error_text (Files e) = texts_of_files.error_text e

-- an error of edits; out of memory is an error of files
abbrev pub error_of_edits : EditError → SuggestionError
error_of_edits OutOfMemory = Files of_files.OutOfMemory
error_of_edits e = Edit e
