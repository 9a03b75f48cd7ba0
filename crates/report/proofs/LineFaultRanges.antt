-- For the clause of `laws::faults_lie_inside`: where the errors of lines are.
use Rattle.codespan_core.proofs.Std.{◌≡◌, ℕ, codes, Result, Ok, Err, ◌+◌, ◌-◌}
use Rattle.codespan_core.proofs.Std.{◌<◌, ◌≤◌, List, [], ◌∷◌, ◌++◌, length}
use Rattle.codespan_core.proofs.Std.{get_or, Option, Some, None, IfSome, is_some, IsUtf8, bytes_eq}
use Rattle.codespan_core.proofs.Std.{refl, ap, ◌∙◌, arith, if◌then◌else◌, length-append}
use Rattle.codespan_core.proofs.Std.{AllByRecursion, option_map}
use Rattle.std.specs.declared.ops.Range.{Range}
use Rattle.std.proofs.lemmas.List.{get_or_at}
use Rattle.std.proofs.lemmas.Str.{IsCharBoundary-after_ascii, IsCharBoundary-before_ascii}
use Rattle.program_io.specs.Fields.{field_of, past_space}
use Rattle.program_io.specs.Names.{severity_named}
use Rattle.report.specs.declared.script.Fault.{Fault}
use Rattle.report.specs.declared.script.FaultKind.{FaultKind}
use Rattle.report.specs.declared.script.FaultKind.TheVariants.{UnknownWord, UnknownSeverity}
use Rattle.report.specs.declared.script.FaultKind.TheVariants.{BadNumber, RepeatedWord}
use Rattle.report.specs.declared.script.FaultKind.TheVariants.{NoSuggestion, BadEscape}
use Rattle.report.specs.declared.script.words.Word.{Word}
use Rattle.report.specs.declared.script.words.Word.TheVariants.{Severity, Code, Message, Primary}
use Rattle.report.specs.declared.script.words.Word.TheVariants.{Secondary, Note, Suggestion}
use Rattle.report.specs.declared.script.words.Word.TheVariants.{Replace, Width}
use Rattle.program_io.specs.Escapes.{unescaped}
use Rattle.program_io.proofs.Escaping.{after_backslash}
use Rattle.std.specs.Result.{result_err}
use Rattle.report.specs.ScriptFaults.{escape_fault, replace_fault, fault_at, fault_from}
use Rattle.report.specs.ScriptFaults.{line_of_word, line_fault, number_fault, or_fault, repetition}
use Rattle.report.specs.ScriptFaults.{severity_fault, width_fault, word_fault}
use Rattle.report.specs.ScriptLines.{byte_before, replacement_of, ScriptLineView, is_ignored}
use Rattle.report.specs.ScriptLines.{range_at, rest_of, word_of, word_range}
use Rattle.report.specs.Requests.{number_of}
use Rattle.report.specs.ScriptLaws.{FaultLiesIn, LiesIn}
use Rattle.report.specs.ScriptWords.{script_word_named}
use Rattle.report.proofs.TextsInInput.{each_push, some_if, either_fault, IsLineAt}
use Rattle.report.proofs.LinesInInput.{past_end, rest_end, end_lies, field_lies, word_lies}

module _ (input : List ℕ) (utf8 : IsUtf8 input) where
  -- ---- the errors

  -- an error with one range
  pub one_range : (kind : FaultKind) (range : Range ℕ) → LiesIn input range
      → FaultLiesIn input (fault_at kind range)
  one_range kind range inside = record { inside = inside; first = tt }

  -- the first line of a word is one of the lines
  line_of_word_at : (word : List ℕ) (lines : List ScriptLineView)
      → AllByRecursion (IsLineAt input utf8) lines
      → IfSome (line_of_word word lines) (IsLineAt input utf8)
  line_of_word_at word [] all = tt
  line_of_word_at word (line ∷ lines) all = some_if (IsLineAt input utf8)
      (bytes_eq (word_of line) word)
      (Some line) (line_of_word word lines) all.0 (line_of_word_at word lines all.1)

  repeated_lies : (line : ScriptLineView) → (IsLineAt input utf8) line
      → (first : Option ScriptLineView)
      → IfSome first (IsLineAt input utf8)
      → IfSome (option_map
      (λ first. record {
        kind = RepeatedWord;
        range = word_range line;
        first = Some
            (word_range first);
      }) first) (FaultLiesIn input)
  repeated_lies line is_at None is_line = tt
  repeated_lies line is_at (Some first) is_line = record
      { inside = (word_lies input utf8) line is_at; first = (word_lies input utf8) first is_line }

  repetition_lies : (before : List ScriptLineView) (line : ScriptLineView)
      → AllByRecursion (IsLineAt input utf8) before → (IsLineAt input utf8) line
      → IfSome (repetition before line) (FaultLiesIn input)
  unfolding repetition
  repetition_lies before line all is_at = repeated_lies line is_at
      (line_of_word (word_of line) before) (line_of_word_at (word_of line) before all)

  severity_lies : (line : ScriptLineView) → (IsLineAt input utf8) line
      → IfSome (severity_fault line) (FaultLiesIn input)
  unfolding severity_fault
  severity_lies line is_at =
      some_if (FaultLiesIn input) (is_some (severity_named (rest_of line))) None
      (Some (fault_at UnknownSeverity (range_at line (rest_of line) (rest_of line))))
      tt (one_range UnknownSeverity (range_at line (rest_of line) (rest_of line))
      ((end_lies input utf8) line (rest_of line) ((rest_end input utf8) line is_at)))

  width_lies : (line : ScriptLineView) → (IsLineAt input utf8) line
      → IfSome (width_fault line) (FaultLiesIn input)
  unfolding width_fault
  width_lies line is_at =
      some_if (FaultLiesIn input) (is_some (number_of (rest_of line))) None
      (Some (fault_at BadNumber (range_at line (rest_of line) (rest_of line))))
      tt (one_range BadNumber (range_at line (rest_of line) (rest_of line))
      ((end_lies input utf8) line (rest_of line) ((rest_end input utf8) line is_at)))

  number_lies : (line : ScriptLineView) → (IsLineAt input utf8) line
      → IfSome (number_fault line) (FaultLiesIn input)
  unfolding number_fault
  number_lies line is_at =
      let rest : List ℕ = rest_of line in
      let after : List ℕ = past_space rest in
      let start : Option Fault = Some (fault_at BadNumber (range_at line rest (field_of rest))) in
      let end : Option Fault = Some (fault_at BadNumber (range_at line after (field_of after))) in
      some_if (FaultLiesIn input) (is_some (number_of (field_of rest)))
      (if is_some (number_of (field_of after)) then None else end) start
      (some_if (FaultLiesIn input) (is_some (number_of (field_of after))) None end tt
      (one_range BadNumber (range_at line after (field_of after))
      ((field_lies input utf8) line after
      ((past_end input utf8) line rest ((rest_end input utf8) line is_at)))))
      (one_range BadNumber (range_at line rest (field_of rest))
      ((field_lies input utf8) line rest ((rest_end input utf8) line is_at)))

  -- a backslash in the text of an edit
  backslash_lies : (line : ScriptLineView) → (IsLineAt input utf8) line
      → (plain after : List ℕ)
      → replacement_of line ≡ plain ++ 92 ∷ after → LiesIn input (byte_before line after)
  backslash_lies line is_at plain after is =
      let from : List ℕ = replacement_of line in
      let end = (past_end input utf8) line (past_space (rest_of line))
      ((past_end input utf8) line (rest_of line) ((rest_end input utf8) line is_at)) in
      let at : ℕ = line.start + length line.text - length from + length plain in
      let long : length from ≡ length plain + length (92 ∷ after) = ap length is
      ∙ length-append plain (92 ∷ after) in
      let fits : length from ≤ length line.text = end.fits in
      let within : line.start + length line.text ≤ length input = is_at.ends.0 in
      let backslash : get_or input at 0 ≡ 92 =
      end.is_at.same (length plain) (omega (arith, long))
      ∙ ap (λ text. get_or text (length plain) 0) is
      ∙ get_or_at plain 92 after 0 (length plain) refl in
      let inside : at < length input = omega (arith, long, fits, within) in
      let starts : line.start + length line.text - length after - 1 ≡ at =
      omega (arith, long, fits) in
      let ends : line.start + length line.text - length after ≡ at + 1 =
      omega (arith, long, fits) in
      record {
        in_order = omega (arith, starts, ends);
        within = omega (arith, ends, inside);
        starts = rw starts (IsCharBoundary-before_ascii input at inside (omega (arith, backslash)));
        ends = rw ends
            (IsCharBoundary-after_ascii input at utf8 inside (omega (arith, backslash)));
      }

  escape_lies : (line : ScriptLineView) → (IsLineAt input utf8) line
      → IfSome (escape_fault line) (FaultLiesIn input)
  unfolding escape_fault
  escape_lies line is_at = by (unescaped (replacement_of line)) refl
    where
      by : (r : Result (List ℕ) (List ℕ)) → unescaped (replacement_of line) ≡ r
          → IfSome (option_map (λ after. fault_at BadEscape (byte_before line after))
          (result_err r)) (FaultLiesIn input)
      by (Ok text) is = tt
      by (Err after) is =
          let found = after_backslash (replacement_of line) after 0 is in
          one_range BadEscape (byte_before line after)
          (backslash_lies line is_at found.0 after found.1)

  replace_lies : (before : List ScriptLineView) (line : ScriptLineView)
      → (IsLineAt input utf8) line
      → IfSome (replace_fault before line) (FaultLiesIn input)
  unfolding replace_fault
  replace_lies before line is_at =
      some_if (FaultLiesIn input) (is_some (line_of_word (codes "suggestion") before))
      (or_fault (number_fault line) (escape_fault line))
      (Some (fault_at NoSuggestion (word_range line)))
      (either_fault (FaultLiesIn input) (number_fault line) (escape_fault line)
      (number_lies line is_at) (escape_lies line is_at))
      (one_range NoSuggestion (word_range line) ((word_lies input utf8) line is_at))

  word_fault_lies : (before : List ScriptLineView) (line : ScriptLineView)
      → AllByRecursion (IsLineAt input utf8) before → (IsLineAt input utf8) line
      → (word : Option Word)
      → IfSome (word_fault before line word) (FaultLiesIn input)
  word_fault_lies before line all is_at None = one_range UnknownWord (word_range line)
      ((word_lies input utf8) line is_at)
  word_fault_lies before line all is_at (Some Severity) =
      either_fault (FaultLiesIn input) (repetition before line) (severity_fault line)
      (repetition_lies before line all is_at) (severity_lies line is_at)
  word_fault_lies before line all is_at (Some Code) = repetition_lies before line all is_at
  word_fault_lies before line all is_at (Some Message) = repetition_lies before line all is_at
  word_fault_lies before line all is_at (Some Width) =
      either_fault (FaultLiesIn input) (repetition before line) (width_fault line)
      (repetition_lies before line all is_at) (width_lies line is_at)
  word_fault_lies before line all is_at (Some Primary) = number_lies line is_at
  word_fault_lies before line all is_at (Some Secondary) = number_lies line is_at
  word_fault_lies before line all is_at (Some Note) = tt
  word_fault_lies before line all is_at (Some Suggestion) = tt
  word_fault_lies before line all is_at (Some Replace) = replace_lies before line is_at

  pub fault_lies : (before lines : List ScriptLineView)
      → AllByRecursion (IsLineAt input utf8) before
      → AllByRecursion (IsLineAt input utf8) lines
      → IfSome (fault_from before lines) (FaultLiesIn input)
  fault_lies before [] earlier later = tt
  fault_lies before (line ∷ lines) earlier later =
      either_fault (FaultLiesIn input) (line_fault before line)
      (fault_from (before ++ line ∷ []) lines)
      (some_if (FaultLiesIn input) (is_ignored line) None
      (word_fault before line (script_word_named (word_of line))) tt
      (word_fault_lies before line earlier later.0 (script_word_named (word_of line))))
      (fault_lies (before ++ line ∷ []) lines
      (each_push (IsLineAt input utf8) before line earlier later.0)
      later.1)
