-- For the clause of `laws::faults_lie_inside`: where the lines of the input are, and their fields.
use Rattle.codespan_core.proofs.Std.{◌≡◌, ℕ, ◌+◌, ◌-◌, ◌<◌, ◌≤◌, ◌==◌}
use Rattle.codespan_core.proofs.Std.{Bool, true, false, List, [], ◌∷◌, ◌++◌, length}
use Rattle.codespan_core.proofs.Std.{get_or, take, drop, IsCharBoundary, IsUtf8, refl, sym, ap}
use Rattle.codespan_core.proofs.Std.{◌∙◌, arith, if◌then◌else◌, eqb-true, length-drop}
use Rattle.codespan_core.proofs.Std.{length-take-le, get_or-drop, AllByRecursion, position_or_len}
use Rattle.std.proofs.Common.{get_or-take}
use Rattle.std.specs.List.{join_with_byte}
use Rattle.std.specs.Str.Lines.{strip_carriage_return}
use Rattle.std.proofs.lemmas.List.{get_or_append_left}
use Rattle.std.proofs.lemmas.Str.{IsCharBoundary-after_ascii, IsCharBoundary-before_ascii}
use Rattle.std.proofs.lemmas.Str.{IsCharBoundary-end}
use Rattle.program_io.specs.Fields.{field_of, is_space, past_space}
use Rattle.report.proofs.ScriptCuts.{left_after}
use Rattle.report.specs.ScriptLines.{ScriptLineView, body, is_end, script_lines_from, range_at}
use Rattle.report.specs.ScriptLines.{rest_of, word_range}
use Rattle.report.specs.ScriptLaws.{LiesIn}
use Rattle.report.proofs.TextsInInput.{each_if, IsTextAt, IsEndOf, lies, field_at, has_last}
use Rattle.report.proofs.TextsInInput.{goes_past, newline_after, IsLineAt, past_at}

module _ (input : List ℕ) (utf8 : IsUtf8 input) where
  -- ---- the lines

  -- a piece without the carriage return at its end
  stripped_at : (at : ℕ) (piece : List ℕ) → IsTextAt input at piece
      → IsTextAt input at (strip_carriage_return piece)
  stripped_at at piece is_at = by_last (get_or piece (length piece - 1) 0 == 13) refl
    where
      by_last : (b : Bool) → (get_or piece (length piece - 1) 0 == 13) ≡ b
          → IsTextAt input at (if b then take (length piece - 1) piece else piece)
      by_last false is = is_at
      by_last true is =
          let last : get_or piece (length piece - 1) 0
          ≡ 13 = eqb-true (get_or piece (length piece - 1) 0) 13 is in
          let some : 0 < length piece = has_last piece last in
          let long : length (take (length piece - 1) piece) ≡ length piece
          - 1 = length-take-le (length piece - 1) piece (omega arith) in
          let return : get_or input (at + (length piece - 1)) 0
          ≡ 13 = is_at.same (length piece - 1)
          (omega arith) ∙ last in
          let within : at + length piece ≤ length input = is_at.ends.0 in
          record {
            starts = is_at.starts;
            ends = rw long (IsCharBoundary-before_ascii input (at + (length piece - 1))
                (omega arith) (omega arith));
            same = λ k below. is_at.same k (omega (arith, long))
                ∙ sym (get_or-take (length piece - 1) piece k 0 (omega (arith, long)));
          }

  -- a piece that ends at a newline
  piece_at : (start : ℕ) (piece rest : List ℕ) → IsCharBoundary input start
      → drop start input ≡ piece ++ 10 ∷ rest → IsTextAt input start piece
  piece_at start piece rest cut is =
      let newline : get_or input (start + length piece) 0 ≡ 10 = newline_after input start piece
      rest is in
      record {
        starts = cut;
        ends = IsCharBoundary-before_ascii input (start + length piece)
            (goes_past input start piece rest is) (omega arith);
        same = λ k below. sym (get_or-drop start input k 0) ∙ ap (λ xs. get_or xs k 0) is
            ∙ get_or_append_left piece (10 ∷ rest) 0 k below;
      }

  -- the lines of what is left of the input
  pub lines_are_at : (start : ℕ) (pieces : List (List ℕ)) → start ≤ length input
      → IsCharBoundary input start → drop start input ≡ join_with_byte 10 pieces
      → AllByRecursion (IsLineAt input utf8) (script_lines_from start pieces)
  lines_are_at start [] within cut is = tt
  lines_are_at start (piece ∷ []) within cut is =
      let long : start + length piece
      ≡ length input = omega (arith, ap length is, length-drop start input) in (
        record {
          starts = cut;
          ends = rw long (IsCharBoundary-end input);
          same = λ k below. sym (get_or-drop start input k 0) ∙ ap (λ xs. get_or xs k 0) is;
        },
        tt,
      )
  lines_are_at start (piece ∷ other ∷ more) within cut is =
      let rest : List ℕ = join_with_byte 10 (other ∷ more) in
      let past : start + length piece < length input = goes_past input start piece rest is in
      let is_at = piece_at start piece rest cut is in
      let newline : get_or input (start + length piece) 0 ≡ 10 = newline_after input start piece
      rest is in (
        stripped_at start piece is_at,
        lines_are_at (start + length piece + 1) (other ∷ more) (omega arith)
            (IsCharBoundary-after_ascii input (start + length piece) utf8 past (omega arith))
            (left_after input start piece rest is),
      )

  -- the lines of the script
  pub body_at : (lines : List ScriptLineView) → AllByRecursion (IsLineAt input utf8) lines
      → AllByRecursion (IsLineAt input utf8) (body lines)
  body_at [] all = tt
  body_at (line ∷ lines) all = each_if (IsLineAt input utf8) (is_end line) (line ∷ body lines)
      (all.0, body_at lines all.1)

  -- ---- the fields of a line

  -- all of a line is an end of it
  whole_line : (line : ScriptLineView) → (IsLineAt input utf8) line
      → IsEndOf input line line.text
  whole_line line is_at =
      let at : line.start + length line.text - length line.text ≡ line.start = omega arith in
      record { fits = omega arith; is_at = rw at is_at }

  -- what follows the first space of a suffix of a line
  pub past_end : (line : ScriptLineView) (from : List ℕ) → IsEndOf input line from
      → IsEndOf input line (past_space from)
  past_end line from end =
      let short : length (past_space from)
      ≤ length from = omega (arith, length-drop (position_or_len is_space from + 1) from) in
      let fits : length from ≤ length line.text = end.fits in
      let at : line.start + length line.text - length from + length from - length (past_space from)
      ≡ line.start + length line.text - length (past_space from) = omega arith in
      record {
        fits = omega arith;
        is_at = rw at at
            ((past_at input utf8) (line.start + length line.text - length from) from end.is_at);
      }

  -- the rest of a line is an end of it
  pub rest_end : (line : ScriptLineView) → (IsLineAt input utf8) line
      → IsEndOf input line (rest_of line)
  rest_end line is_at = past_end line line.text (whole_line line is_at)

  -- the range of an end of a line
  pub end_lies : (line : ScriptLineView) (from : List ℕ) → IsEndOf input line from
      → LiesIn input (range_at line from from)
  end_lies line from end = lies input (line.start + length line.text - length from) from end.is_at

  -- the range of the first field of an end of a line
  pub field_lies : (line : ScriptLineView) (from : List ℕ) → IsEndOf input line from
      → LiesIn input (range_at line from (field_of from))
  field_lies line from end =
      let at : ℕ = line.start + length line.text - length from in
      lies input at (field_of from) (field_at input at from end.is_at)

  -- the range of the word of a line
  pub word_lies : (line : ScriptLineView) → (IsLineAt input utf8) line
      → LiesIn input (word_range line)
  word_lies line is_at = field_lies line line.text (whole_line line is_at)
