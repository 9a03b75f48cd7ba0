-- For the clause of `laws::faults_lie_inside`: where the errors of an input that is UTF-8 are.
use Rattle.codespan_core.proofs.Std.{ℕ, zero, suc, map, codes, ◌+◌, ◌-◌, ◌≤◌, List}
use Rattle.codespan_core.proofs.Std.{[], ◌∷◌, length, Option, Some, None, IfSome, IfErr}
use Rattle.codespan_core.proofs.Std.{IsUtf8, bytes_eq, sym, arith, if◌then◌else◌, length-drop}
use Rattle.codespan_core.proofs.Std.{AllByRecursion, position_or_len, slice_split, option_map}
use Rattle.std.proofs.Common.{option_and_then}
use Rattle.std.specs.declared.ops.Range.{Range}
use Rattle.std.proofs.lemmas.List.Splits.{join_with_byte-slice_split}
use Rattle.std.proofs.lemmas.Str.{IsCharBoundary-end, IsCharBoundary-start}
use Rattle.program_io.specs.Fields.{is_space, past_space}
use Rattle.report.specs.declared.script.Fault.{Fault}
use Rattle.report.specs.declared.script.FaultKind.TheVariants.{MissingEnd}
use Rattle.report.specs.declared.script.BadEdit.{BadEdit}
use Rattle.report.specs.declared.script.BadEdit.TheVariants as reasons
use Rattle.report.specs.declared.script.FaultKind.TheVariants as kinds
use Rattle.codespan_edits.specs.Faults as of_edits
use Rattle.codespan_edits.specs.declared.error.EditError.{EditError}
use Rattle.codespan_edits.specs.declared.error.EditError.TheVariants as edit_errors
use Rattle.report.specs.ScriptFaults.{fault_at, fault_from, or_fault}
use Rattle.report.specs.ScriptLines.{ends_range, ScriptLineView, body, is_newline}
use Rattle.report.specs.ScriptLines.{script_lines_from, script_lines, rest_of, script_source}
use Rattle.report.specs.ScriptLines.{word_of}
use Rattle.report.specs.Scripts.{parsed_statements, parsed_lines, parsed_script}
use Rattle.report.specs.Suggestions.{edit_lines, edits_fault, fault_of_edits, parsed_edit}
use Rattle.report.specs.Suggestions.{range_of_edit, suggestions_fault}
use Rattle.report.specs.ScriptLaws.{FaultLiesIn, FaultsLieInside, LiesIn}
use Rattle.report.proofs.TextsInInput.{each_if, each_of, some_if, either_fault, lies, IsLineAt}
use Rattle.report.proofs.LinesInInput.{lines_are_at, body_at, past_end, rest_end, field_lies}
use Rattle.report.proofs.LineFaultRanges.{one_range, fault_lies}

module _ (input : List ℕ) (utf8 : IsUtf8 input) where
  -- ---- the errors of edits

  -- the range of the numbers of an edit
  ends_lie : (line : ScriptLineView) → (IsLineAt input utf8) line
      → LiesIn input (ends_range line)
  ends_lie line is_at =
      let rest : List ℕ = rest_of line in
      let end = (rest_end input utf8) line is_at in
      let first = (field_lies input utf8) line rest end in
      let last = (field_lies input utf8) line (past_space rest)
      ((past_end input utf8) line rest end) in
      let short : length (past_space rest) ≤ length rest =
      omega (arith, length-drop (position_or_len is_space rest + 1) rest) in
      record {
        in_order = omega (arith, short);
        within = last.within;
        starts = first.starts;
        ends = last.ends;
      }

  range_lies : (lines : List ScriptLineView) → AllByRecursion (IsLineAt input utf8) lines
      → (i : ℕ)
      → IfSome (range_of_edit lines i) (LiesIn input)
  range_lies [] all i = tt
  range_lies (line ∷ lines) all zero = ends_lie line all.0
  range_lies (line ∷ lines) all (suc i) = range_lies lines all.1 i

  bad_edit_lies : (reason : BadEdit) (range first : Option (Range ℕ))
      → IfSome range (LiesIn input) → IfSome first (LiesIn input)
      → IfSome (option_map (λ (fault : Fault). record fault { first = first })
      (option_map (fault_at (kinds.BadEdit reason)) range)) (FaultLiesIn input)
  bad_edit_lies reason None first lies other = tt
  bad_edit_lies reason (Some range) first lies other = record { inside = lies; first = other }

  -- an edit with one range
  one_edit_lies : (reason : BadEdit) (range : Option (Range ℕ)) → IfSome range (LiesIn input)
      → IfSome (option_map (fault_at (kinds.BadEdit reason)) range) (FaultLiesIn input)
  one_edit_lies reason None lies = tt
  one_edit_lies reason (Some range) lies = record { inside = lies; first = tt }

  fault_of_edits_lies : (lines : List ScriptLineView) → AllByRecursion (IsLineAt input utf8) lines
      → (e : EditError) → IfSome (fault_of_edits lines e) (FaultLiesIn input)
  fault_of_edits_lies lines all (edit_errors.Reversed i) =
      one_edit_lies reasons.Reversed (range_of_edit lines i) (range_lies lines all i)
  fault_of_edits_lies lines all (edit_errors.PastEnd i len) =
      one_edit_lies (reasons.PastEnd len) (range_of_edit lines i) (range_lies lines all i)
  fault_of_edits_lies lines all (edit_errors.NotCharBoundary i byte) =
      one_edit_lies (reasons.NotCharBoundary byte) (range_of_edit lines i) (range_lies lines all i)
  fault_of_edits_lies lines all (edit_errors.Overlap i j) =
      bad_edit_lies reasons.Overlap (range_of_edit lines i) (range_of_edit lines j)
      (range_lies lines all i) (range_lies lines all j)
  fault_of_edits_lies lines all edit_errors.OutOfMemory = tt

  edits_lie : (lines : List ScriptLineView) → AllByRecursion (IsLineAt input utf8) lines
      → (e : Option EditError)
      → IfSome (option_and_then (fault_of_edits lines) e) (FaultLiesIn input)
  edits_lie lines all None = tt
  edits_lie lines all (Some e) = fault_of_edits_lies lines all e

  edit_lines_at : (lines : List ScriptLineView) → AllByRecursion (IsLineAt input utf8) lines
      → AllByRecursion (IsLineAt input utf8) (edit_lines lines)
  edit_lines_at [] all = tt
  edit_lines_at (line ∷ lines) all =
      let later = edit_lines_at lines all.1 in
      each_if (IsLineAt input utf8) (bytes_eq (word_of line) (codes "suggestion"))
      (if bytes_eq (word_of line) (codes "replace") then line ∷ edit_lines lines
      else edit_lines lines)
      (each_of (IsLineAt input utf8) (bytes_eq (word_of line) (codes "replace"))
      (line ∷ edit_lines lines)
      (edit_lines lines) (all.0, later) later)

  suggestions_lie : (source : List ℕ) (lines : List ScriptLineView)
      → AllByRecursion (IsLineAt input utf8) lines
      → IfSome (suggestions_fault source lines) (FaultLiesIn input)
  suggestions_lie source [] all = tt
  suggestions_lie source (line ∷ lines) all =
      let later = suggestions_lie source lines all.1 in
      some_if (FaultLiesIn input) (bytes_eq (word_of line) (codes "suggestion"))
      (or_fault (edits_fault source (edit_lines lines)) (suggestions_fault source lines))
      (suggestions_fault source lines)
      (either_fault (FaultLiesIn input) (edits_fault source (edit_lines lines))
      (suggestions_fault source lines)
      (edits_lie (edit_lines lines) (edit_lines_at lines all.1)
      (of_edits.fault source (map parsed_edit (edit_lines lines)))) later)
      later

  statements_lie : (lines : List ScriptLineView) (source : List ℕ) (fault : Option Fault)
      → IfSome fault (FaultLiesIn input)
      → IfErr (parsed_statements lines source fault) (FaultLiesIn input)
  statements_lie lines source (Some fault) inside = inside
  statements_lie lines source None inside = tt

  -- the error of what is read of lines
  read_lies : (lines : List ScriptLineView) → AllByRecursion (IsLineAt input utf8) lines
      → (fault : Option Fault) (source : Option (List ℕ))
      → IfSome fault (FaultLiesIn input) → IfErr (parsed_lines input lines fault source)
      (FaultLiesIn input)
  read_lies lines all (Some fault) source inside = inside
  read_lies lines all None None inside =
      (one_range input utf8) MissingEnd (record { start = length input; end = length input })
      (record {
        in_order = omega arith;
        within = omega arith;
        starts = IsCharBoundary-end input;
        ends = IsCharBoundary-end input;
      })
  read_lies lines all None (Some source) inside =
      statements_lie lines source (suggestions_fault source lines)
      (suggestions_lie source lines all)

-- the ranges of an error lie inside the input
pub faults_lie : (input : List ℕ) → FaultsLieInside input
unfolding parsed_script script_lines
faults_lie input utf8 =
    let pieces : List (List ℕ) = slice_split is_newline input in
    let all = lines_are_at input utf8 0 pieces (omega arith)
    (IsCharBoundary-start input utf8)
    (sym (join_with_byte-slice_split 10 input)) in
    read_lies input utf8 (body (script_lines_from 0 pieces))
    (body_at input utf8 (script_lines_from 0 pieces) all)
    (fault_from [] (body (script_lines_from 0 pieces)))
    (script_source input (script_lines_from 0 pieces))
    (fault_lies input utf8 [] (body (script_lines_from 0 pieces)) tt
    (body_at input utf8 (script_lines_from 0 pieces) all))
