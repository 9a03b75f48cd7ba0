-- For the clause of `laws::edits_can_be_made`: edits that cannot be made are found.
use Rattle.codespan_core.proofs.Std.{◌≡◌, ◌≢◌, ◌<◌, ℕ, zero, suc, Bool, true}
use Rattle.codespan_core.proofs.Std.{false, List, [], ◌∷◌, length, map, Option, Some, None}
use Rattle.codespan_core.proofs.Std.{IfOk, refl, ap, ◌∙◌, arith, All, AllByRecursion}
use Rattle.codespan_core.proofs.Std.{All-from_recursion, bytes_eq, codes, if◌then◌else◌}
use Rattle.codespan_core.proofs.Std.{length-map, option_map}
use Rattle.std.proofs.Common.{option_and_then}
use Rattle.codespan_edits.specs.Faults.{fault}
use Rattle.codespan_edits.specs.declared.error.EditError.{EditError}
use Rattle.codespan_edits.specs.declared.error.EditError.TheVariants as edit_errors
use Rattle.codespan_suggestions.specs.Faults.{NamesEdits}
use Rattle.codespan_suggestions.proofs.NamedEdits.{fault-names}
use Rattle.report.specs.declared.script.BadEdit.{BadEdit}
use Rattle.report.specs.declared.script.BadEdit.TheVariants as reasons
use Rattle.report.specs.declared.script.Fault.{Fault}
use Rattle.report.specs.ScriptFaults.{fault_from, or_fault}
use Rattle.report.specs.ScriptLaws.{EditsCanBeMade}
use Rattle.report.specs.ScriptLines.{ScriptLineView, body, script_lines, script_source, rest_of}
use Rattle.report.specs.ScriptLines.{word_of}
use Rattle.report.specs.Scripts.{parsed_lines, parsed_script, parsed_statements}
use Rattle.report.specs.Statements.{CanBeMade}
use Rattle.report.specs.Suggestions.{bad_edit, edit_lines, edits_fault, fault_of_edits, parsed_edit}
use Rattle.report.specs.Suggestions.{parsed_suggestion, parsed_suggestions, range_of_edit}
use Rattle.report.specs.Suggestions.{suggestions_fault}
use Rattle.report.proofs.ReadSuggestions.{edits_of_file}

-- an edit that there is has a range
range_found : (lines : List ScriptLineView) (i : ℕ) → i < length lines
    → range_of_edit lines i ≢ None
range_found [] i below is = absurd (omega (arith, below))
range_found (line ∷ lines) zero below is = absurd (cc is)
range_found (line ∷ lines) (suc i) below is = range_found lines i (omega (arith, below)) is

-- what is made of something is something
made_found : {X Y : Type 0} (f : X → Y) (o : Option X) → o ≢ None → option_map f o ≢ None
made_found f None found is = found refl
made_found f (Some x) found is = absurd (cc is)

bad_found : (lines : List ScriptLineView) (i : ℕ) (reason : BadEdit) → i < length lines
    → bad_edit lines i reason ≢ None
bad_found lines i reason below =
    made_found _ (range_of_edit lines i) (range_found lines i below)

-- an error that names edits is one of the script
error_found : (lines : List ScriptLineView) (e : EditError) → NamesEdits (length lines) e
    → fault_of_edits lines e ≢ None
error_found lines (edit_errors.Reversed i) named = bad_found lines i reasons.Reversed named
error_found lines (edit_errors.PastEnd i len) named =
    bad_found lines i (reasons.PastEnd len) named
error_found lines (edit_errors.NotCharBoundary i byte) named =
    bad_found lines i (reasons.NotCharBoundary byte) named
error_found lines (edit_errors.Overlap i j) named =
    made_found _ (bad_edit lines i reasons.Overlap) (bad_found lines i reasons.Overlap named.0)
error_found lines edit_errors.OutOfMemory named = absurd named

-- where the script has no error of these edits, they have none
none_missed : (source : List ℕ) (lines : List ScriptLineView)
    → edits_fault source lines ≡ None
    → fault source (map parsed_edit lines) ≡ None
none_missed source lines none =
    by (fault source (map parsed_edit lines)) (fault-names source (map parsed_edit lines)) none
  where
    by : (o : Option EditError)
        → ((e : EditError) → o ≡ Some e → NamesEdits (length (map parsed_edit lines)) e)
        → option_and_then (fault_of_edits lines) o ≡ None → o ≡ None
    by None names none = refl
    by (Some e) names none =
        absurd (error_found lines e (rw length-map at (names e refl)) none)

-- of two errors there is neither, where there is not the first one
neither : (first second : Option Fault) → or_fault first second ≡ None
    → (first ≡ None) × (second ≡ None)
neither None second none = (refl, none)
neither (Some fault) second none = absurd (cc none)

-- where the script has no error of its suggestions, their edits can be made
all_made : (source : List ℕ) (lines : List ScriptLineView)
    → suggestions_fault source lines ≡ None
    → AllByRecursion (CanBeMade source) (parsed_suggestions lines)
all_made source [] none = tt
all_made source (line ∷ lines) none =
    by (bytes_eq (word_of line) (codes "suggestion")) (all_made source lines) none
  where
    by : (b : Bool)
        → (suggestions_fault source lines ≡ None
        → AllByRecursion (CanBeMade source) (parsed_suggestions lines))
        → (if b then or_fault (edits_fault source (edit_lines lines))
        (suggestions_fault source lines) else suggestions_fault source lines) ≡ None
        → AllByRecursion (CanBeMade source)
        (if b then parsed_suggestion (rest_of line) (edit_lines lines) ∷ parsed_suggestions lines
        else parsed_suggestions lines)
    by true later none =
        let both = neither (edits_fault source (edit_lines lines)) (suggestions_fault source lines)
        none in (
          ap (fault source) (edits_of_file (map parsed_edit (edit_lines lines)))
              ∙ none_missed source (edit_lines lines) both.0,
          later both.1,
        )
    by false later none = later none

-- what lines and a source state, unless there is an error
stated_made : (source : List ℕ) (lines : List ScriptLineView) (o : Option Fault)
    → suggestions_fault source lines ≡ o
    → IfOk (parsed_statements lines source o)
    (λ script. All (CanBeMade script.source) script.suggestions)
stated_made source lines (Some fault) is = tt
stated_made source lines None is =
    All-from_recursion (CanBeMade source) (parsed_suggestions lines) (all_made source lines is)

lines_made : (input : List ℕ) (lines : List ScriptLineView) (o : Option Fault)
    (source : Option (List ℕ))
    → IfOk (parsed_lines input lines o source)
    (λ script. All (CanBeMade script.source) script.suggestions)
lines_made input lines (Some fault) source = tt
lines_made input lines None None = tt
lines_made input lines None (Some source) =
    stated_made source lines (suggestions_fault source lines) refl

pub can_be_made : (input : List ℕ) → EditsCanBeMade input
unfolding parsed_script
can_be_made input =
    lines_made input (body (script_lines input)) (fault_from [] (body (script_lines input)))
    (script_source input (script_lines input))
