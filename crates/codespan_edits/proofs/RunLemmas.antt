-- Runs that go on or end, for the clauses of `hunks`.
use Rattle.codespan_core.proofs.Std.{◌≡◌, ◌<◌, ◌+◌, ◌++◌, ◌∷◌, ◌∙◌, []}
use Rattle.codespan_core.proofs.Std.{ℕ, List, length, Bool, true, false, refl, ap, sym}
use Rattle.codespan_core.proofs.Std.{subst, arith}
use Rattle.codespan_core.proofs.Std.{Some, append_assoc, append-nil}
use Rattle.codespan_core.proofs.Std.{if◌then◌else◌}
use Rattle.codespan_edits.specs.Diffs.{Row, rows_with}
use Rattle.codespan_edits.specs.DiffLaws.{is_changed}
use Rattle.codespan_edits.specs.Numbers.{NumberedRow, numbered_from}
use Rattle.codespan_edits.specs.DrawnRows.{runs_from, last_run}
use Rattle.codespan_edits.specs.Private.Hunks.{ArePicked, EndsChanged}
use Rattle.codespan_edits.specs.declared.rows.RowSign.{RowSign}
use Rattle.codespan_edits.specs.declared.rows.RowSign.TheVariants.{Kept}

module _ (picks : ℕ → Bool) where
  -- rows that are left out between two runs
  left-more : (ls : List (List ℕ)) (rs : List Row) (k i j m p q : ℕ) → m ≡ k + length ls
      → p ≡ i + length ls → q ≡ j + length ls → ArePicked picks false k (length ls)
      → runs_from picks k [] (numbered_from i j (rows_with Kept ls ++ rs))
      ≡ runs_from picks m [] (numbered_from p q rs)
  left-more [] rs k i j m p q hm hp hq out =
      let a : k ≡ m = omega (arith, hm) in
      let b : i ≡ p = omega (arith, hp) in
      let d : j ≡ q = omega (arith, hq) in rw (a, b, d) refl
  left-more (l ∷ ls) rs k i j m p q hm hp hq out =
      let rest = numbered_from (i + 1) (j + 1) (rows_with Kept ls ++ rs) in
      let r : NumberedRow = record {
        row = record { sign = Kept; line = l };
        old_number = Some i;
        new_number = Some j;
      } in
      let k_is : k + 0 ≡ k = omega arith in
      let here : picks k ≡ false = sym (ap picks k_is) ∙ out 0 (omega arith) in
      ap (λ b. if b then runs_from picks (k + 1) (r ∷ []) rest
      else runs_from picks (k + 1) [] rest) here
      ∙ left-more ls rs (k + 1) (i + 1) (j + 1) m p q (omega (arith, hm)) (omega (arith, hp))
      (omega (arith, hq))
      (λ n h.
      let at : k + 1 + n ≡ k + (n + 1) = omega arith in
      ap picks at ∙ out (n + 1) (omega (arith, h)))

  pub left-out : (ls : List (List ℕ)) (rs : List Row) (held : List NumberedRow)
      (k i j m p q : ℕ) → m ≡ k + length ls → p ≡ i + length ls → q ≡ j + length ls
      → 0 < length ls → ArePicked picks false k (length ls)
      → runs_from picks k held (numbered_from i j (rows_with Kept ls ++ rs))
      ≡ last_run held ++ runs_from picks m [] (numbered_from p q rs)
  left-out [] rs held k i j m p q hm hp hq some out = absurd (omega (arith, some))
  left-out (l ∷ ls) rs held k i j m p q hm hp hq some out =
      let rest = numbered_from (i + 1) (j + 1) (rows_with Kept ls ++ rs) in
      let r : NumberedRow = record {
        row = record { sign = Kept; line = l };
        old_number = Some i;
        new_number = Some j;
      } in
      let k_is : k + 0 ≡ k = omega arith in
      let here : picks k ≡ false = sym (ap picks k_is) ∙ out 0 (omega arith) in
      ap (λ b. if b then runs_from picks (k + 1) (held ++ r ∷ []) rest
      else last_run held ++ runs_from picks (k + 1) [] rest) here
      ∙ ap (λ xs. last_run held ++ xs)
      (left-more ls rs (k + 1) (i + 1) (j + 1) m p q (omega (arith, hm)) (omega (arith, hp))
      (omega (arith, hq))
      (λ n h.
      let at : k + 1 + n ≡ k + (n + 1) = omega arith in
      ap picks at ∙ out (n + 1) (omega (arith, h))))

  -- no row follows that is picked
  pub left-last : (ls : List (List ℕ)) (held : List NumberedRow) (k i j : ℕ)
      → ArePicked picks false k (length ls)
      → runs_from picks k held (numbered_from i j (rows_with Kept ls)) ≡ last_run held
  left-last [] held k i j out = refl
  left-last (l ∷ ls) held k i j out =
      ap (λ rs. runs_from picks k held (numbered_from i j rs))
      (sym (append-nil (rows_with Kept (l ∷ ls))))
      ∙ (left-out (l ∷ ls) [] held k i j (k + length (l ∷ ls)) (i + length (l ∷ ls))
      (j + length (l ∷ ls)) refl refl refl (omega arith) out
      ∙ append-nil (last_run held))

-- rows of one sign, of which there are some, end with a changed one
pub ends-changed : (xs : List Row) (sign : RowSign) (ls : List (List ℕ))
    → is_changed sign ≡ true → 0 < length ls → EndsChanged (xs ++ rows_with sign ls)
ends-changed xs sign [] changed some = absurd (omega (arith, some))
ends-changed xs sign (l ∷ []) changed some = record {
  before = xs;
  row = record { sign = sign; line = l };
  parts = refl;
  changed = changed;
}
ends-changed xs sign (l ∷ (m ∷ ms)) changed some =
    subst EndsChanged
    (append_assoc xs (rows_with sign (l ∷ [])) (rows_with sign (m ∷ ms)))
    (ends-changed (xs ++ rows_with sign (l ∷ [])) sign (m ∷ ms) changed (omega arith))

-- where so many kept rows are left out, the run ends
pub left-step : (picks : ℕ → Bool) (h newer : List (List NumberedRow))
    (run now : List NumberedRow) (k n i j p q : ℕ) (ls : List (List ℕ)) (rs : List Row)
    → length ls ≡ n → ArePicked picks false k n → 0 < n → p ≡ i + n → q ≡ j + n
    → newer ≡ h ++ last_run run → now ≡ []
    → newer ++ runs_from picks (k + n) now (numbered_from (p + 1) (q + 1) rs)
    ≡ h ++ runs_from picks k run (numbered_from (i + 1) (j + 1) (rows_with Kept ls ++ rs))
left-step picks h newer run now k n i j p q ls rs len out some at at_new is none =
    rw (is, none)
    (append_assoc h (last_run run)
    (runs_from picks (k + n) [] (numbered_from (p + 1) (q + 1) rs))
    ∙ ap (λ xs. h ++ xs)
    (sym (left-out picks ls rs run k (i + 1) (j + 1) (k + n) (p + 1) (q + 1)
    (omega (arith, len)) (omega (arith, len, at)) (omega (arith, len, at_new))
    (omega (arith, len, some))
    (λ m less. out m (omega (arith, less, len))))))
