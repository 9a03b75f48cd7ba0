-- For the clause of `laws::faults_lie_inside`: texts that are in the input, and their fields.
use Rattle.codespan_core.proofs.Std.{◌≡◌, ℕ, ◌+◌, ◌-◌, ◌<◌, ◌≤◌, Bool}
use Rattle.codespan_core.proofs.Std.{true, false, List, [], ◌∷◌, ◌++◌, length, get_or}
use Rattle.codespan_core.proofs.Std.{take, drop, Option, Some, None, IfSome, IsCharBoundary, IsUtf8}
use Rattle.codespan_core.proofs.Std.{refl, sym, ap, ◌∙◌, inl, inr, arith, if◌then◌else◌}
use Rattle.codespan_core.proofs.Std.{eqb-true, length-append, length-drop, length-take-le}
use Rattle.codespan_core.proofs.Std.{get_or-drop, AllByRecursion, position_or_len, cases_lt}
use Rattle.std.proofs.Common.{get_or-take}
use Rattle.std.proofs.lemmas.List.{get_or_at}
use Rattle.std.proofs.lemmas.List.Sums.{passes_at_first, prefix_len-le-length}
use Rattle.std.proofs.lemmas.Str.{IsCharBoundary-after_ascii, IsCharBoundary-before_ascii}
use Rattle.program_io.specs.Fields.{field_of, is_space, past_space}
use Rattle.report.specs.declared.script.Fault.{Fault}
use Rattle.report.specs.ScriptFaults.{or_fault}
use Rattle.report.specs.ScriptLines.{ScriptLineView}
use Rattle.report.specs.ScriptLaws.{LiesIn}

-- what holds of each element of a list holds of each of the list or of none
pub each_if : {X : Type 0} (P : X → Type 0) (b : Bool) (xs : List X) → AllByRecursion P xs
    → AllByRecursion P (if b then [] else xs)
each_if P true xs all = tt
each_if P false xs all = all

-- what holds of each element of two lists holds of each of either
pub each_of : {X : Type 0} (P : X → Type 0) (b : Bool) (xs ys : List X) → AllByRecursion P xs
    → AllByRecursion P ys → AllByRecursion P (if b then xs else ys)
each_of P true xs ys first second = first
each_of P false xs ys first second = second

-- what holds of each element, and of one more
pub each_push : {X : Type 0} (P : X → Type 0) (xs : List X) (y : X) → AllByRecursion P xs
    → P y
    → AllByRecursion P (xs ++ y ∷ [])
each_push P [] y all more = (more, tt)
each_push P (x ∷ xs) y all more = (all.0, each_push P xs y all.1 more)

-- what holds of both holds of either
pub some_if : {X : Type 0} (P : X → Type 0) (b : Bool) (x y : Option X) → IfSome x P
    → IfSome y P
    → IfSome (if b then x else y) P
some_if P true x y first second = first
some_if P false x y first second = second

pub either_fault : (P : Fault → Type 0) (x y : Option Fault) → IfSome x P → IfSome y P
    → IfSome (or_fault x y) P
either_fault P (Some fault) y first second = first
either_fault P None y first second = second

-- the text is in the input at this byte, between characters
pub record IsTextAt (input : List ℕ) (at : ℕ) (text : List ℕ) : Type 0 where
  pub starts : IsCharBoundary input at
  pub ends : IsCharBoundary input (at + length text)
  pub same : (k : ℕ) → k < length text → get_or input (at + k) 0 ≡ get_or text k 0

-- a suffix of a line is in the input where the line has it
pub record IsEndOf (input : List ℕ) (line : ScriptLineView) (from : List ℕ) : Type 0 where
  pub fits : length from ≤ length line.text
  pub is_at : IsTextAt input (line.start + length line.text - length from) from

-- a text of the input lies inside it
pub lies : (input : List ℕ) (at : ℕ) (text : List ℕ) → IsTextAt input at text
    → LiesIn input (record { start = at; end = at + length text })
lies input at text is_at = record
    { in_order = omega arith; within = is_at.ends.0; starts = is_at.starts; ends = is_at.ends }

-- a space of the text is one of the input
space_in_input : (input : List ℕ) (at : ℕ) (text : List ℕ) → IsTextAt input at text
    → position_or_len is_space text < length text
    → get_or input (at + position_or_len is_space text) 0 ≡ 32
space_in_input input at text is_at some =
    is_at.same (position_or_len is_space text) some
    ∙ eqb-true (get_or text (position_or_len is_space text) 0) 32
    (passes_at_first is_space text 0 some)

-- the first field of a text of the input
pub field_at : (input : List ℕ) (at : ℕ) (text : List ℕ) → IsTextAt input at text
    → IsTextAt input at (field_of text)
field_at input at text is_at =
    let n : ℕ = position_or_len is_space text in
    let most : n ≤ length text = prefix_len-le-length _ text in
    let long : length (take n text) ≡ n = length-take-le n text most in
    let within : at + length text ≤ length input = is_at.ends.0 in
    record {
      starts = is_at.starts;
      ends = rw long (elim (cases_lt n (length text)) [
        | inl some ↦ let is_space_byte : get_or input (at + n) 0
            ≡ 32 = space_in_input input at text
            is_at some in
            IsCharBoundary-before_ascii input (at + n) (omega arith) (omega arith)
        | inr none ↦ let whole : n ≡ length text = omega arith in rw whole is_at.ends
      ]);
      same = λ k below. is_at.same k (omega (arith, long))
          ∙ sym (get_or-take n text k 0 (omega (arith, long)));
    }

-- a list whose last element is a carriage return is not empty
pub has_last : (xs : List ℕ) → get_or xs (length xs - 1) 0 ≡ 13 → 0 < length xs
has_last [] is = absurd (omega arith)
has_last (x ∷ xs) is = omega arith

-- a newline in what is left of an input is inside the input
pub goes_past : (input : List ℕ) (start : ℕ) (piece rest : List ℕ)
    → drop start input ≡ piece ++ 10
    ∷ rest → start + length piece < length input
goes_past input start piece rest is =
    let long : length (drop start input) ≡ length piece + length (10 ∷ rest) = ap length is
    ∙ length-append piece (10 ∷ rest) in
    omega (arith, long, length-drop start input)

-- and the input has it there
pub newline_after : (input : List ℕ) (start : ℕ) (piece rest : List ℕ)
    → drop start input ≡ piece ++ 10
    ∷ rest → get_or input (start + length piece) 0 ≡ 10
newline_after input start piece rest is =
    sym (get_or-drop start input (length piece) 0) ∙ ap (λ xs. get_or xs (length piece) 0) is
    ∙ get_or_at piece 10 rest 0 (length piece) refl

module _ (input : List ℕ) (utf8 : IsUtf8 input) where
  -- a line is in the input where it starts
  abbrev pub IsLineAt : ScriptLineView → Type 0
  IsLineAt line = IsTextAt input line.start line.text

  -- what follows the first space of a text of the input
  pub past_at : (at : ℕ) (text : List ℕ) → IsTextAt input at text
      → IsTextAt input (at + length text - length (past_space text)) (past_space text)
  past_at at text is_at =
      let n : ℕ = position_or_len is_space text in
      let most : n ≤ length text = prefix_len-le-length _ text in
      let long : length (drop (n + 1) text) ≡ length text - (n + 1) = length-drop (n + 1) text in
      let within : at + length text ≤ length input = is_at.ends.0 in
      let ends : at + length text - length (drop (n + 1) text) + length (drop (n + 1) text) ≡ at
      + length text = omega (arith, long) in
      record {
        starts = elim (cases_lt n (length text)) [
          | inl some ↦ let is_space_byte : get_or input (at + n) 0
              ≡ 32 = space_in_input input at
              text is_at some in
              let after : at + length text - length (drop (n + 1) text) ≡ at + n
              + 1 = omega (arith, long) in
              rw after (IsCharBoundary-after_ascii input (at + n) utf8 (omega arith) (omega arith))
          | inr none ↦ let whole : at + length text - length (drop (n + 1) text) ≡ at
              + length text = omega (arith, long) in rw whole is_at.ends
        ];
        ends = rw ends is_at.ends;
        same = λ k below.
            let here : at + length text - length (drop (n + 1) text) + k ≡ at
            + (n + 1 + k) = omega (arith, long) in
            ap (λ i. get_or input i 0) here ∙ is_at.same (n + 1 + k) (omega (arith, long))
            ∙ sym (get_or-drop (n + 1) text k 0);
      }
