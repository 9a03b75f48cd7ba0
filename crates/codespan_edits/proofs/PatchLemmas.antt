-- The rows of a diff are a patch, for the clause of `laws::shown_rows_are_patch`.
use Rattle.codespan_core.proofs.Std.{◌≡◌, ℕ, ◌+◌, ◌-◌, Bool, true, false, List, []}
use Rattle.codespan_core.proofs.Std.{◌∷◌, ◌++◌, length, Some, refl, sym, ap, ◌∙◌}
use Rattle.codespan_core.proofs.Std.{arith, append_assoc, length-append, take-append_seam}
use Rattle.codespan_core.proofs.Std.{if◌then◌else◌, eq-eqb}
use Rattle.std.specs.Prelude.{option_and_then}
use Rattle.std.proofs.Math.Seq.{drop-append_seam}
use Rattle.std.proofs.lemmas.Slice.Eq.{bytes_eq-Decides}
use Rattle.codespan_edits.specs.Diffs.{Row, diff_rows}
use Rattle.codespan_edits.specs.Numbers.{is_old, is_new, number_of, next_number, numbered}
use Rattle.codespan_edits.specs.Numbers.{numbered_from}
use Rattle.codespan_edits.specs.DiffLaws.{lines_with}
use Rattle.codespan_edits.specs.Patches.{patch_row, patch_rows, shown_from, ShownRowsArePatch}
use Rattle.codespan_edits.specs.declared.rows.RowSign.{RowSign}
use Rattle.codespan_edits.specs.declared.rows.RowSign.TheVariants.{Kept, Removed, Added}
use Rattle.codespan_edits.proofs.DiffLines.{diff-has-all-lines}

-- the old lines of a row and what follows it
abbrev with_old : RowSign → List ℕ → List (List ℕ) → List (List ℕ)
with_old sign line rest = if is_old sign then line ∷ rest else rest

-- a row is taken behind the lines sk that are copied before it
step : (sign : RowSign) (line : List ℕ) (w sk rest : List (List ℕ)) (p : ℕ)
    → patch_row (record {
      row = record { sign = sign; line = line };
      old_number = number_of (is_old sign) (p + length sk + 1);
      new_number = number_of (is_new sign) (length w + length sk + 1);
    })
    (record { written = w; passed = p; left = sk ++ with_old sign line rest })
    ≡ Some (record {
      written = if is_new sign then (w ++ sk) ++ line ∷ [] else w ++ sk;
      passed = next_number (is_old sign) (p + length sk);
      left = rest;
    })
step Kept line w sk rest p =
    let n : p + length sk + 1 - (p + 1) ≡ length sk = omega arith in
    rw (
      n,
      take-append_seam sk (line ∷ rest),
      drop-append_seam sk (line ∷ rest),
      length-append w sk,
      eq-eqb (p + length sk + 1) (p + length sk + 1) refl,
      eq-eqb (length w + length sk + 1) (length w + length sk + 1) refl,
      (bytes_eq-Decides line line).1 refl,
    ) refl
step Removed line w sk rest p =
    let n : p + length sk + 1 - (p + 1) ≡ length sk = omega arith in
    rw (
      n,
      take-append_seam sk (line ∷ rest),
      drop-append_seam sk (line ∷ rest),
      eq-eqb (p + length sk + 1) (p + length sk + 1) refl,
      (bytes_eq-Decides line line).1 refl,
    ) refl
step Added line w sk rest p =
    let n : length w + length sk + 1 - (length w + 1) ≡ length sk = omega arith in
    rw (
      n,
      take-append_seam sk rest,
      drop-append_seam sk rest,
      length-append w sk,
      eq-eqb (length w + length sk + 1) (length w + length sk + 1) refl,
    ) refl

-- the numbers of the rows that follow
numbers-same : (i j k l : ℕ) (rows : List Row) → i ≡ k → j ≡ l
    → numbered_from i j rows ≡ numbered_from k l rows
numbers-same i j k l rows p q = rw (p, q) refl

-- rows that are shown make the new lines of the old ones, behind the lines sk of kept rows before
-- them that are not shown
abbrev pub Patches : (ℕ → Bool) → ℕ → List Row → Type 0
Patches picks k rows = (w sk : List (List ℕ)) (p : ℕ)
    → patch_rows (shown_from picks k
    (numbered_from (p + length sk + 1) (length w + length sk + 1) rows))
    (record { written = w; passed = p; left = sk ++ lines_with is_old rows })
    ≡ Some (w ++ (sk ++ lines_with is_new rows))

-- the rows behind a row that was taken, where these numbers come next
behind : (picks : ℕ → Bool) (k : ℕ) (rs : List Row) (w : List (List ℕ)) (p i j : ℕ)
    → Patches picks (k + 1) rs → i ≡ p + 1 → j ≡ length w + 1
    → patch_rows (shown_from picks (k + 1) (numbered_from i j rs))
    (record { written = w; passed = p; left = lines_with is_old rs })
    ≡ Some (w ++ lines_with is_new rs)
behind picks k rs w p i j rest old new =
    ap (λ ns. patch_rows (shown_from picks (k + 1) ns)
    (record { written = w; passed = p; left = lines_with is_old rs }))
    (numbers-same i j (p + 0 + 1) (length w + 0 + 1) rs (omega (arith, old)) (omega (arith, new)))
    ∙ rest w [] p

-- one more row
one-more : (picks : ℕ → Bool) (k : ℕ) (sign : RowSign) (line : List ℕ) (rs : List Row)
    (t : Bool)
    → picks k ≡ t → Patches picks (k + 1) rs
    → Patches picks k ((record { sign = sign; line = line }) ∷ rs)
one-more picks k Kept line rs true h rest w sk p =
    rw h
    (ap (option_and_then (patch_rows (shown_from picks (k + 1)
    (numbered_from (p + length sk + 1 + 1) (length w + length sk + 1 + 1) rs))))
    (step Kept line w sk (lines_with is_old rs) p)
    ∙ (behind picks k rs ((w ++ sk) ++ line ∷ []) (p + length sk + 1) (p + length sk + 1 + 1)
    (length w + length sk + 1 + 1) rest refl
    (omega (arith, length-append (w ++ sk) (line ∷ []), length-append w sk))
    ∙ ap Some (append_assoc (w ++ sk) (line ∷ []) (lines_with is_new rs)
    ∙ append_assoc w sk (line ∷ lines_with is_new rs))))
one-more picks k Kept line rs false h rest w sk p =
    let more : length (sk ++ line ∷ []) ≡ length sk + 1 = length-append sk (line ∷ []) in
    rw h
    (ap (λ ls. patch_rows (shown_from picks (k + 1)
    (numbered_from (p + length sk + 1 + 1) (length w + length sk + 1 + 1) rs))
    (record { written = w; passed = p; left = ls }))
    (sym (append_assoc sk (line ∷ []) (lines_with is_old rs)))
    ∙ (ap (λ ns. patch_rows (shown_from picks (k + 1) ns)
    (record { written = w; passed = p; left = (sk ++ line ∷ []) ++ lines_with is_old rs }))
    (numbers-same (p + length sk + 1 + 1) (length w + length sk + 1 + 1)
    (p + length (sk ++ line ∷ []) + 1) (length w + length (sk ++ line ∷ []) + 1) rs
    (omega (arith, more)) (omega (arith, more)))
    ∙ (rest w (sk ++ line ∷ []) p
    ∙ ap (λ ls. Some (w ++ ls)) (append_assoc sk (line ∷ []) (lines_with is_new rs)))))
one-more picks k Removed line rs t h rest w sk p =
    ap (option_and_then (patch_rows (shown_from picks (k + 1)
    (numbered_from (p + length sk + 1 + 1) (length w + length sk + 1) rs))))
    (step Removed line w sk (lines_with is_old rs) p)
    ∙ (behind picks k rs (w ++ sk) (p + length sk + 1) (p + length sk + 1 + 1)
    (length w + length sk + 1) rest refl (omega (arith, length-append w sk))
    ∙ ap Some (append_assoc w sk (lines_with is_new rs)))
one-more picks k Added line rs t h rest w sk p =
    ap (option_and_then (patch_rows (shown_from picks (k + 1)
    (numbered_from (p + length sk + 1) (length w + length sk + 1 + 1) rs))))
    (step Added line w sk (lines_with is_old rs) p)
    ∙ (behind picks k rs ((w ++ sk) ++ line ∷ []) (p + length sk) (p + length sk + 1)
    (length w + length sk + 1 + 1) rest refl
    (omega (arith, length-append (w ++ sk) (line ∷ []), length-append w sk))
    ∙ ap Some (append_assoc (w ++ sk) (line ∷ []) (lines_with is_new rs)
    ∙ append_assoc w sk (line ∷ lines_with is_new rs)))

pub all-patch : (picks : ℕ → Bool) (k : ℕ) (rows : List Row) → Patches picks k rows
all-patch picks k [] = λ w sk p. refl
all-patch picks k (r ∷ rs) =
    one-more picks k r.sign r.line rs (picks k) refl (all-patch picks (k + 1) rs)

pub shown-rows-are-patch : ShownRowsArePatch
shown-rows-are-patch text edits picks none =
    let all = diff-has-all-lines text edits none in
    let rows = diff_rows text edits in
    ap (λ ls. patch_rows (shown_from picks 0 (numbered rows))
    (record { written = []; passed = 0; left = ls })) (sym all.0)
    ∙ (all-patch picks 0 rows [] [] 0 ∙ ap Some all.1)
