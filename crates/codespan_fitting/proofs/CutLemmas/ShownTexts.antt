-- For `write_text`: the text that pieces make, by their cuts.
use Rattle.codespan_core.proofs.Std.{◌≡◌, ℕ, ◌+◌, ◌-◌, List, [], ◌∷◌, ◌++◌}
use Rattle.codespan_core.proofs.Std.{drop, drop-drop, map, refl, ap}
use Rattle.codespan_core.proofs.Std.{sym, ◌∙◌, arith, append_assoc, slice_range, take}
use Rattle.codespan_core.proofs.Std.{take-append-drop, IsCharBoundary, IsUtf8}
use Rattle.std.proofs.Math.Seq.{take-add}
use Rattle.std.proofs.lemmas.Str.{IsCharBoundary-start}
use Rattle.codespan_output.specs.FittedParts.{Piece, Kept, Dots, unit_bytes}
use Rattle.codespan_output.specs.FittedLines.{dots, shown_text}
use Rattle.codespan_fitting.specs.declared.cut.Cut.{Cut}
use Rattle.codespan_fitting.specs.Cuts.{AreBetweenChars, AreCutsOf, CutModel, cut_view, cuts_from}
use Rattle.codespan_fitting.proofs.CutLemmas.MovedIndices.{AreInOrder, cuts-order}

-- the text from byte `at` on, with dots for the cuts
abbrev pub with_dots : List ℕ → ℕ → List CutModel → List ℕ
with_dots text at [] = drop at text
with_dots text at (c ∷ cs) = slice_range text at c.start ++ (dots ++ with_dots text c.end cs)

-- before cuts that start later, the text is as it is
with-kept : (text : List ℕ) (at n : ℕ) (cs : List CutModel) → AreInOrder (at + n) cs
    → take n (drop at text) ++ with_dots text (at + n) cs ≡ with_dots text at cs
with-kept text at n [] order =
    ap (λ xs. take n (drop at text) ++ xs) (sym (drop-drop n at text))
    ∙ take-append-drop n (drop at text)
with-kept text at n (c ∷ cs) order =
    let rest = dots ++ with_dots text c.end cs in
    let size : n + (c.start - (at + n)) ≡ c.start - at = omega (arith, order.0) in
    let more = c.start - (at + n) in
    let parts : take n (drop at text) ++ take more (drop (at + n) text)
    ≡ slice_range text at c.start =
    ap (λ xs. take n (drop at text) ++ take more xs) (sym (drop-drop n at text))
    ∙ sym (take-add n more (drop at text))
    ∙ ap (λ m. take m (drop at text)) size in
    sym (append_assoc (take n (drop at text)) (take more (drop (at + n) text)) rest)
    ∙ ap (λ xs. xs ++ rest) parts

-- the text of pieces has dots for their cuts
shown-with : (text : List ℕ) (at shown : ℕ) (ps : List Piece)
    → shown_text ps (drop at text) ≡ with_dots text at (cuts_from at shown ps)
shown-with text at shown [] = refl
shown-with text at shown (Kept u ∷ ps) =
    let later = at + u.bytes in
    ap (λ xs. take u.bytes (drop at text) ++ shown_text ps xs) (drop-drop u.bytes at text)
    ∙ ap (λ xs. take u.bytes (drop at text) ++ xs) (shown-with text later (shown + u.bytes) ps)
    ∙ with-kept text at u.bytes (cuts_from later (shown + u.bytes) ps)
    (cuts-order later (shown + u.bytes) ps)
shown-with text at shown (Dots us ∷ ps) =
    let n = unit_bytes us in
    let none : at - at ≡ 0 = omega arith in
    ap (λ xs. dots ++ shown_text ps xs) (drop-drop n at text)
    ∙ ap (λ xs. dots ++ xs) (shown-with text (at + n) (shown + 3) ps)
    ∙ ap (λ m. take m (drop at text)
    ++ (dots ++ with_dots text (at + n) (cuts_from (at + n) (shown + 3) ps))) (sym none)

-- ---- the loop

-- where a loop over cuts is: it has read the text up to byte `read`, and `fitted` is what it wrote
pub record IsWritten (text : List ℕ) (cuts : List Cut) (read : ℕ) (rest : List Cut)
    (fitted : List ℕ) : Type 0 where
  pub boundary : IsCharBoundary text read
  pub between : AreBetweenChars text read (map cut_view rest)
  pub written : fitted ++ with_dots text read (map cut_view rest)
      ≡ with_dots text 0 (map cut_view cuts)

-- before the first one
pub written-start : (text : List ℕ) (cuts : List Cut) → IsUtf8 text
    → AreBetweenChars text 0 (map cut_view cuts) → IsWritten text cuts 0 cuts []
written-start text cuts utf8 between = record {
  boundary = IsCharBoundary-start text utf8;
  between = between;
  written = refl;
}

-- a step over one cut
pub written-step : (text : List ℕ) (cuts : List Cut) (read : ℕ) (c : Cut) (rest : List Cut)
    (fitted next : List ℕ) → IsWritten text cuts read (c ∷ rest) fitted
    → next ≡ (fitted ++ slice_range text read c.start) ++ dots
    → IsWritten text cuts c.end rest next
written-step text cuts read c rest fitted next h is =
    let tail = with_dots text c.end (map cut_view rest) in
    record {
      boundary = h.between.2;
      between = h.between.3;
      written =
          ap (λ xs. xs ++ tail) is
          ∙ append_assoc (fitted ++ slice_range text read c.start) dots tail
          ∙ append_assoc fitted (slice_range text read c.start) (dots ++ tail)
          ∙ h.written;
    }

-- at the end it has written the text of the pieces
pub written-all : (text : List ℕ) (cuts : List Cut) (read : ℕ) (fitted next : List ℕ)
    (ps : List Piece) → IsWritten text cuts read [] fitted → AreCutsOf ps cuts
    → next ≡ fitted ++ drop read text → next ≡ shown_text ps text
written-all text cuts read fitted next ps h are is =
    is ∙ h.written
    ∙ ap (with_dots text 0) are
    ∙ sym (shown-with text 0 0 ps)
