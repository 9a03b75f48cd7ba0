-- For the clause of `laws::hunks_are_runs`.
use Rattle.codespan_core.proofs.Std.{◌≡◌, ◌≤◌, ◌<◌, ◌+◌, ◌-◌, ◌++◌, ◌∷◌, ◌∙◌}
use Rattle.codespan_core.proofs.Std.{[], ℕ, List, length, Bool, true, false, ◌&&◌, ◌||◌, refl, ap}
use Rattle.codespan_core.proofs.Std.{sym, subst, arith, append_assoc, length-append}
use Rattle.codespan_core.proofs.Std.{true≢false, cond_both}
use Rattle.codespan_edits.specs.Numbers.{NumberedRow}
use Rattle.codespan_edits.specs.DrawnRows.{is_near_change, is_drawn, runs_from, last_run}
use Rattle.codespan_edits.specs.HunkLaws.{AreAll, AreHunks, HunksAreRuns}

module _ (picks : ℕ → Bool) where
  all-append : (b : Bool) (k : ℕ) (xs ys : List NumberedRow) → AreAll picks b k xs
      → AreAll picks b (k + length xs) ys → AreAll picks b k (xs ++ ys)
  all-append b k [] ys all more =
      let same : k + 0 ≡ k = omega arith in subst (λ n. AreAll picks b n ys) same more
  all-append b k (x ∷ xs) ys all more =
      let same : k + length (x ∷ xs) ≡ k + 1 + length xs = omega arith in
      (all.0, all-append b (k + 1) xs ys all.1 (subst (λ n. AreAll picks b n ys) same more))

  at-index : {b : Bool} (j n : ℕ) (r : NumberedRow) → j ≡ n → picks j ≡ b
      → AreAll picks b n (r ∷ [])
  at-index {b} j n r same is = (subst (λ m. picks m ≡ b) same is, tt)

  -- no index alone is left out between two that are picked
  abbrev NoneAlone : Type 0
  NoneAlone = (i : ℕ) → picks i ≡ true → picks (i + 1) ≡ false → picks (i + 1 + 1) ≡ true → ⊥

  -- enough rows are left out before this index, if it is picked, and else before the next one
  abbrev Enough : ℕ → ℕ → List NumberedRow → Type 0
  Enough least j before =
      (least ≤ length before + 1) × (picks j ≡ true → least ≤ length before)

  one-run : (held : List NumberedRow) → 0 < length held → last_run held ≡ held ∷ []
  one-run [] some = absurd (omega (arith, some))
  one-run (r ∷ rs) some = refl

  module _ (apart : NoneAlone) where
    mutual
      -- rows after a hunk or at the start, of which some are left out already
      between : (rs : List NumberedRow) (least k j : ℕ) (before : List NumberedRow)
          → j ≡ k + length before → AreAll picks false k before → Enough least j before
          → AreHunks picks least k (before ++ rs) (runs_from picks j [] rs)
      between [] least k j before at left enough = all-append false k before [] left tt
      between (r ∷ rs) least k j before at left enough =
          cond_both (picks j) (runs_from picks (j + 1) (r ∷ []) rs)
          (runs_from picks (j + 1) [] rs) (AreHunks picks least k (before ++ (r ∷ rs)))
          (λ is. within rs least k j before (r ∷ []) (omega (arith, at)) is left (enough.1 is)
          (at-index j (k + length before) r at is) (omega arith))
          (λ is. subst
          (λ xs. AreHunks picks least k xs (runs_from picks (j + 1) [] rs))
          (append_assoc before (r ∷ []) rs)
          (between rs least k (j + 1) (before ++ r ∷ [])
          (omega (arith, at, length-append before (r ∷ [])))
          (all-append false k before (r ∷ []) left (at-index j (k + length before) r at is))
          (let len = length-append before (r ∷ []) in
          let few = enough.0 in (omega (arith, len, few), λ _. omega (arith, len, few)))))

      -- rows of a hunk, of which the last one has an index
      within : (rs : List NumberedRow) (least k i : ℕ) (before held : List NumberedRow)
          → i + 1 ≡ k + length before + length held → picks i ≡ true
          → AreAll picks false k before → least ≤ length before
          → AreAll picks true (k + length before) held → 0 < length held
          → AreHunks picks least k (before ++ (held ++ rs)) (runs_from picks (i + 1) held rs)
      within [] least k i before held at last left enough picked some =
          subst (AreHunks picks least k (before ++ (held ++ []))) (sym (one-run held some)) (
            before,
            [],
            record {
              parts = refl;
              left_out = left;
              enough = enough;
              picked = picked;
              some = some;
            },
            tt,
          )
      within (r ∷ rs) least k i before held at last left enough picked some =
          cond_both (picks (i + 1)) (runs_from picks (i + 1 + 1) (held ++ r ∷ []) rs)
          (last_run held ++ runs_from picks (i + 1 + 1) [] rs)
          (AreHunks picks least k (before ++ (held ++ (r ∷ rs))))
          (λ is. subst
          (λ xs. AreHunks picks least k (before ++ xs)
          (runs_from picks (i + 1 + 1) (held ++ r ∷ []) rs))
          (append_assoc held (r ∷ []) rs)
          (within rs least k (i + 1) before (held ++ r ∷ [])
          (omega (arith, at, length-append held (r ∷ []))) is left enough
          (all-append true (k + length before) held (r ∷ []) picked
          (at-index (i + 1) (k + length before + length held) r at is))
          (omega (arith, length-append held (r ∷ [])))))
          (λ is. subst
          (λ xs. AreHunks picks least k (before ++ (held ++ (r ∷ rs)))
          (xs ++ runs_from picks (i + 1 + 1) [] rs))
          (sym (one-run held some)) (
            before,
            r ∷ rs,
            record {
              parts = refl;
              left_out = left;
              enough = enough;
              picked = picked;
              some = some;
            },
            subst
                (λ n. AreHunks picks 2 n (r ∷ rs) (runs_from picks (i + 1 + 1) [] rs)) at
                (between rs 2 (i + 1) (i + 1 + 1) (r ∷ []) (omega arith) (is, tt)
                (omega arith, λ next. absurd (apart i last is next))),
          ))

-- no row alone is left out between two drawn ones
not-alone : (a b c d e : Bool) → b || (a && c) ≡ true → c || (b && d) ≡ false
    → d || (c && e) ≡ true → ⊥
not-alone a b true d e one none two = true≢false none
not-alone a true false true e one none two = true≢false none
not-alone a true false false e one none two = true≢false (sym two)
not-alone true false false d e one none two = true≢false (sym one)
not-alone false false false d e one none two = true≢false (sym one)

pub hunks-are-runs : HunksAreRuns
hunks-are-runs context rows =
    between (is_drawn context rows)
    (λ i one none two.
    let near = is_near_change context rows in
    let back : i + 1 - 1 ≡ i = omega arith in
    let again : i + 1 + 1 - 1 ≡ i + 1 = omega arith in
    not-alone (near (i - 1)) (near i) (near (i + 1)) (near (i + 1 + 1)) (near (i + 1 + 1 + 1))
    one
    (sym (ap (λ n. near (i + 1) || (near n && near (i + 1 + 1))) back) ∙ none)
    (sym (ap (λ n. near (i + 1 + 1) || (near n && near (i + 1 + 1 + 1))) again) ∙ two))
    rows 0 0 0 [] (omega arith) tt (omega arith, λ _. omega arith)
