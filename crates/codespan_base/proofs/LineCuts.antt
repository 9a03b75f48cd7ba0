-- For the laws `lines_join_to_source` and `columns_never_decrease`: the lines of a text join to it,
-- and columns never decrease along a line.
use Rattle.codespan_core.proofs.Std.{◌≡◌, ℕ, zero, suc, ◌+◌, ◌-◌, ◌≤◌, Bool}
use Rattle.codespan_core.proofs.Std.{List, ◌++◌, drop, flat_map, length, get_or, Option, refl}
use Rattle.codespan_core.proofs.Std.{sym, ap, ◌∙◌, arith, count_by, slice_range}
use Rattle.codespan_core.proofs.Std.{range_with_len, IsUtf8, take-append-drop, drop-drop, take_all}
use Rattle.codespan_core.proofs.Std.{append-nil, length-drop, sum_by-cons, common_steps}
use Rattle.codespan_core.specs.Lines.{line_starts_of, starts_after}
use Rattle.codespan_core.specs.FileModel.{line_text}
use Rattle.codespan_core.specs.SimpleModel.{simple_file, line_ends}
use Rattle.codespan_core.specs.Lemmas.Simple.{ascending, end_before_last, end_of_last}
use Rattle.codespan_base.specs.FileLaws.{LinesJoin, ColumnsNeverDecrease}

-- a range and the rest of the list after it
touching : {X : Type 0} (a b : ℕ) (xs : List X) → a ≤ b
    → slice_range xs a b ++ drop b xs ≡ drop a xs
touching a b xs h =
    let e : a + (b - a) ≡ b = omega arith in
    ap (λ ys. slice_range xs a b ++ ys) (sym (drop-drop (b - a) a xs ∙ ap (λ n. drop n xs) e))
    ∙ take-append-drop (b - a) (drop a xs)

-- the lines from one on are the rest of the text
joined-from : (name : Option (List ℕ)) (text : List ℕ) → IsUtf8 text → (n i : ℕ)
    → i + suc n ≡ length (line_starts_of text)
    → flat_map (line_text (simple_file name text)) (range_with_len i (suc n)) ≡ drop
    (get_or (line_starts_of text) i 0) text
joined-from name text u zero i h = grind (arith, common_steps, append-nil, take_all, length-drop)
joined-from name text u (suc n) i h =
    let at : ℕ = get_or (line_starts_of text) i 0 in
    let next : ℕ = get_or (line_starts_of text) (i + 1) 0 in
    let e : get_or (line_ends text) i 0 ≡ next = end_before_last text i (omega arith) in
    let rest = joined-from name text u n (i + 1) (omega arith) in
    ap (λ ys. line_text (simple_file name text) i ++ ys) rest
    ∙ ap (λ b. slice_range text at b ++ drop next text) e
    ∙ touching at next text (omega (arith, ascending text i (omega arith)))

-- the lines of the file of a text join to it
pub lines_join : (name : Option (List ℕ)) (text : List ℕ) → IsUtf8 text
    → LinesJoin (simple_file name text)
lines_join name text u = record {
  from_start = refl;
  follow = λ i h. end_before_last text i h;
  to_end = λ i h. end_of_last text i h;
  joined = joined-from name text u (length (starts_after 0 text)) 0 (omega arith);
}

-- a longer range counts no fewer numbers
counts-rise : (p : ℕ → Bool) (a m n : ℕ) → m ≤ n
    → count_by p (range_with_len a m) ≤ count_by p (range_with_len a n)
counts-rise p a zero n h = omega arith
counts-rise p a (suc m) zero h = absurd (omega arith)
counts-rise p a (suc m) (suc n) h =
    grind (arith, common_steps, sum_by-cons, counts-rise p (a + 1) m n (omega arith))

-- columns never decrease along a line
pub columns_never_decrease : ColumnsNeverDecrease
columns_never_decrease text start end byte later h = grind (arith, common_steps, counts-rise)
