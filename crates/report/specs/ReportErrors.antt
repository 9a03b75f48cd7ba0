-- The errors of a run.
use Rattle.std.specs.Prelude.{◌≡◌, ◌⊎◌, ℕ, List, ◌++◌, Option, Some, Result, Ok}
use Rattle.std.specs.Prelude.{Err, codes, string_bytes}
use Rattle.std.specs.Global.{Global}
use Rattle.std.specs.Option.{option_map}
use Rattle.std.specs.declared.string.String.{String}
use Rattle.std.specs.Str.{IsUtf8}
use Rattle.codespan_core.specs.ErrorText.{error_text}
use Rattle.codespan_core.specs.declared.files.error.Error.{Error}
use Rattle.codespan_core.specs.declared.files.error.Error.TheVariants as of_files
use Rattle.codespan_suggestions.specs.declared.error.SuggestionError.{SuggestionError}
use Rattle.codespan_suggestions.specs.declared.error.SuggestionError.TheVariants as of_suggestions
use Rattle.program_io.specs.Output.{AppendsPrefix}
use Rattle.program_io.specs.RunErrors.{IsStatusOf, failed_output_line}
use Rattle.program_io.specs.declared.run_error.RunError.{RunError}
use Rattle.program_io.specs.declared.run_error.RunError.TheVariants.{WrongArguments}
use Rattle.program_io.specs.declared.run_error.RunError.TheVariants.{CannotReadInput, NotUtf8}
use Rattle.program_io.specs.declared.run_error.RunError.TheVariants.{OutOfMemory, CannotWriteOutput}
use Rattle.program_io.specs.declared.run_error.RunError.TheVariants.{Program}
use Rattle.report.specs.declared.report_error.ReportError.{ReportError}
use Rattle.report.specs.declared.report_error.ReportError.TheVariants.{CannotRender, BadScript}
use Rattle.report.specs.RenderedTexts.{IsRenderError, rendering_of}
use Rattle.report.specs.Requests.{RequestView}

-- the error of a suggestion whose edits can be made: that of a lookup, or of memory
abbrev pub lookup_error : SuggestionError → Error
lookup_error (of_suggestions.Files error) = error
lookup_error (of_suggestions.Edit error) = of_files.OutOfMemory

-- the program's status: that of any program, or 3 for a script's error
abbrev pub IsReportStatusOf : Result (Unit {0}) (RunError ReportError) → ℕ → Type 0
IsReportStatusOf outcome status =
    IsStatusOf outcome status
    ⊎ ((status ≡ 3) × ((text : String Global) × (outcome ≡ Err (Program (BadScript text)))))

-- what the `Display` of an error that only `report` has writes: a line without its newline, or the
-- rendered diagnostic of a script's error
abbrev pub displayed_report_error : ReportError → Option (List ℕ)
displayed_report_error (CannotRender error) =
    option_map (λ text. codes "report: " ++ text) (error_text error)
displayed_report_error (BadScript text) = Some (string_bytes text)

-- what an error says of the request and of the input
abbrev pub IsRunError : RunError ReportError → RequestView → List ℕ → Type 0
IsRunError WrongArguments request input = ⊥
IsRunError CannotReadInput request input = Unit {0}
IsRunError NotUtf8 request input = ¬ (IsUtf8 input)
IsRunError OutOfMemory request input = Unit {0}
IsRunError CannotWriteOutput request input =
    IsUtf8 input × ((text : List ℕ) × (rendering_of request input ≡ Ok text))
IsRunError (Program error) request input = IsRenderError (rendering_of request input) error

-- the fact holds of the diagnostic, where the error is that of a script
abbrev pub IfBadScript : RunError ReportError → (String Global → Type 0) → Type 0
IfBadScript (Program (BadScript text)) P = P text
IfBadScript _ P = Unit {0}

-- the output is unchanged, or all of it was rendered: the status is 0, or it is 1 and what
-- `stderr` has received is a prefix of the line of a failed output
abbrev pub UnchangedUnlessRendered : Type 0 → ℕ → Option (List ℕ) → Option (List ℕ)
    → Type 0
UnchangedUnlessRendered is_unchanged status old new =
    is_unchanged ⊎ ((status ≡ 0)
    ⊎ ((status ≡ 1) × AppendsPrefix old new (failed_output_line (codes "report"))))
