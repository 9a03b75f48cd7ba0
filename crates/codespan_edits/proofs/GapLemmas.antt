-- Which kept rows are drawn between changed ones, for the clauses `cut` of `hunks`.
use Rattle.codespan_core.proofs.Std.{◌≡◌, ◌≤◌, ◌<◌, ◌+◌, ◌-◌, ◌++◌, ◌∷◌, ◌∙◌, []}
use Rattle.codespan_core.proofs.Std.{ℕ, zero, suc, List, length, Bool, true, false, refl, ap, sym}
use Rattle.codespan_core.proofs.Std.{arith, inl, inr, ⊎_elim, cases_lt, true≢false}
use Rattle.codespan_core.proofs.Std.{slice_get, Some, append_assoc, length-append}
use Rattle.codespan_core.proofs.Std.{length-map}
use Rattle.codespan_edits.specs.Diffs.{Row, rows_with}
use Rattle.codespan_edits.specs.DiffLaws.{is_changed}
use Rattle.codespan_edits.specs.Numbers.{NumberedRow, numbered_from, numbered, is_old, is_new}
use Rattle.codespan_edits.specs.Numbers.{next_number}
use Rattle.codespan_edits.specs.DrawnRows.{Context, is_drawn}
use Rattle.codespan_edits.specs.HunkLaws.{IsChangedAt, IsNear}
use Rattle.codespan_edits.specs.Private.Hunks.{ArePicked, EndsChanged}
use Rattle.codespan_edits.specs.declared.rows.RowSign.{RowSign}
use Rattle.codespan_edits.specs.declared.rows.RowSign.TheVariants.{Kept}
use Rattle.codespan_edits.proofs.DrawnExactly.{rows-near-changes-are-drawn}

-- ---- items of lists

at-end : {A : Type 0} (xs ys : List A) (n i : ℕ) → n ≡ length xs + i
    → slice_get (xs ++ ys) n ≡ slice_get ys i
at-end [] ys n i h =
    let same : n ≡ i = omega (arith, h) in ap (slice_get ys) same
at-end (x ∷ xs) ys zero i h = absurd (omega (arith, h))
at-end (x ∷ xs) ys (suc n) i h = at-end xs ys n i (omega (arith, h))

at-front : {A : Type 0} (xs ys : List A) (i : ℕ) → i < length xs
    → slice_get (xs ++ ys) i ≡ slice_get xs i
at-front [] ys i h = absurd (omega (arith, h))
at-front (x ∷ xs) ys zero h = refl
at-front (x ∷ xs) ys (suc i) h = at-front xs ys i (omega (arith, h))

in-list : {A : Type 0} (xs : List A) (i : ℕ) (x : A) → slice_get xs i ≡ Some x → i < length xs
in-list [] i x h = absurd (cc)
in-list (y ∷ xs) zero x h = omega arith
in-list (y ∷ xs) (suc i) x h =
    let r = in-list xs i x h in omega (arith, r)

-- a row with its numbers is the row
numbered-at : (i j : ℕ) (rs : List Row) (c : ℕ) (r : Row) → slice_get rs c ≡ Some r
    → (row : NumberedRow) × (slice_get (numbered_from i j rs) c ≡ Some row) × (row.row ≡ r)
numbered-at i j [] c r h = absurd (cc)
numbered-at i j (x ∷ xs) zero r h = (_, refl, cc (h))
numbered-at i j (x ∷ xs) (suc c) r h =
    numbered-at (next_number (is_old x.sign) i) (next_number (is_new x.sign) j) xs c r h

from-numbered : (i j : ℕ) (rs : List Row) (c : ℕ) (row : NumberedRow)
    → slice_get (numbered_from i j rs) c ≡ Some row → slice_get rs c ≡ Some row.row
from-numbered i j [] c row h = absurd (cc)
from-numbered i j (x ∷ xs) zero row h =
    let same : slice_get (numbered_from i j (x ∷ xs)) zero ≡ Some row = h in
    some-row _ row same
  where
    some-row : (a b : NumberedRow) → ◌≡◌ (Some a) (Some b) → Some a.row ≡ Some b.row
    some-row a b h = let e : a ≡ b = cc (h) in ap (λ (r : NumberedRow). Some r.row) e
from-numbered i j (x ∷ xs) (suc c) row h =
    from-numbered (next_number (is_old x.sign) i) (next_number (is_new x.sign) j) xs c row h

kept-sign : (g : List (List ℕ)) (i : ℕ) (r : Row) → slice_get (rows_with Kept g) i ≡ Some r
    → is_changed r.sign ≡ false
kept-sign [] i r h = absurd (cc)
kept-sign (l ∷ ls) zero r h =
    let e : ◌≡◌ {A = Row} (record { sign = Kept; line = l }) r = cc (h) in
    ap (λ (x : Row). is_changed x.sign) (sym e)
kept-sign (l ∷ ls) (suc i) r h = kept-sign ls i r h

sign-there : (sign : RowSign) (ls : List (List ℕ)) (i : ℕ) → i < length ls
    → (line : List ℕ) × (slice_get (rows_with sign ls) i
    ≡ Some (record { sign = sign; line = line }))
sign-there sign [] i h = absurd (omega (arith, h))
sign-there sign (l ∷ ls) zero h = (l, refl)
sign-there sign (l ∷ ls) (suc i) h = sign-there sign ls i (omega (arith, h))

-- the row at an index is changed, where it is in the list
changed-at : (full : List Row) (c : ℕ) (r : Row) → slice_get full c ≡ Some r
    → is_changed r.sign ≡ true → IsChangedAt (numbered full) c
changed-at full c r is changed =
    let found = numbered-at 1 1 full c r is in
    (found.0, found.1, ap (λ (x : Row). is_changed x.sign) found.2 ∙ changed)

drawn-near : (context : Context) (full : List Row) (c i : ℕ) → IsChangedAt (numbered full) c
    → c ≤ i + context.before → i ≤ c + context.after
    → is_drawn context (numbered full) i ≡ true
drawn-near context full c i at before after =
    (rows-near-changes-are-drawn context (numbered full) i).1 (inl (record {
      changed = c;
      inside = in-list (numbered full) c at.0 at.1;
      is_changed = at;
      before = before;
      after = after;
    }))

-- changed rows are drawn
pub changed-picked : (context : Context) (full done : List Row) (sign : RowSign)
    (ls : List (List ℕ)) (rest : List Row) → full ≡ done ++ (rows_with sign ls ++ rest)
    → is_changed sign ≡ true
    → ArePicked (is_drawn context (numbered full)) true (length done) (length ls)
changed-picked context full done sign ls rest parts changed i h =
    let there = sign-there sign ls i h in
    let size : length (rows_with sign ls) ≡ length ls = rw length-map refl in
    let found : slice_get full (length done + i)
    ≡ Some (record { sign = sign; line = there.0 }) =
    ap (λ f. slice_get f (length done + i)) parts
    ∙ (at-end done (rows_with sign ls ++ rest) (length done + i) i refl
    ∙ (at-front (rows_with sign ls) rest i (omega (arith, size, h)) ∙ there.1)) in
    drawn-near context full (length done + i) (length done + i)
    (changed-at full (length done + i) (record { sign = sign; line = there.0 }) found changed)
    (omega arith) (omega arith)

-- kept rows behind some rows and before the others
module _ (context : Context) (full done : List Row) (g : List (List ℕ)) (rest : List Row)
    (parts : full ≡ done ++ (rows_with Kept g ++ rest)) where
  size : length (rows_with Kept g) ≡ length g
  size = rw length-map refl

  not-changed : (c : ℕ) → length done ≤ c → c < length done + length g
      → IsChangedAt (numbered full) c → ⊥
  not-changed c from to at =
      let i = c - length done in
      let there : slice_get (rows_with Kept g) i ≡ Some (at.0).row =
      sym (at-end done (rows_with Kept g ++ rest) c i (omega (arith, from))
      ∙ at-front (rows_with Kept g) rest i (omega (arith, size, from, to)))
      ∙ (sym (ap (λ f. slice_get f c) parts) ∙ from-numbered 1 1 full c at.0 at.1) in
      true≢false (sym at.2 ∙ kept-sign g i (at.0).row there)

  -- the last row before them is changed
  changed-before : EndsChanged done → (0 < length done)
      × IsChangedAt (numbered full) (length done - 1)
  changed-before ends =
      let len : length done ≡ length ends.before + 1 =
      ap length ends.parts ∙ length-append ends.before (ends.row ∷ []) in
      let found : slice_get full (length done - 1) ≡ Some ends.row =
      ap (λ f. slice_get f (length done - 1)) (parts
      ∙ (ap (λ d. d ++ (rows_with Kept g ++ rest)) ends.parts
      ∙ append_assoc ends.before (ends.row ∷ []) (rows_with Kept g ++ rest)))
      ∙ at-end ends.before (ends.row ∷ (rows_with Kept g ++ rest)) (length done - 1) 0
      (omega (arith, len)) in
      (omega (arith, len), changed-at full (length done - 1) ends.row found ends.changed)

  -- the first row behind them is changed
  changed-after : (r : Row) (rs : List Row) → rest ≡ r ∷ rs → is_changed r.sign ≡ true
      → IsChangedAt (numbered full) (length done + length g)
  changed-after r rs is changed =
      let found : slice_get full (length done + length g) ≡ Some r =
      ap (λ f. slice_get f (length done + length g)) parts
      ∙ (at-end done (rows_with Kept g ++ rest) (length done + length g) (length g) refl
      ∙ (at-end (rows_with Kept g) rest (length g) 0 (omega (arith, size))
      ∙ ap (λ xs. slice_get xs 0) is)) in
      changed-at full (length done + length g) r found changed

  -- rows soon after a changed one are drawn
  pub drawn-after : EndsChanged done → (i : ℕ) → i < context.after
      → is_drawn context (numbered full) (length done + i) ≡ true
  drawn-after ends i few =
      let at = changed-before ends in
      drawn-near context full (length done - 1) (length done + i) at.1 (omega arith)
      (omega (arith, few, at.0))

  -- so are those soon before one
  pub drawn-before : (r : Row) (rs : List Row) → rest ≡ r ∷ rs → is_changed r.sign ≡ true
      → (i : ℕ) → length g ≤ i + context.before → i ≤ length g
      → is_drawn context (numbered full) (length done + i) ≡ true
  drawn-before r rs is changed i few inside =
      drawn-near context full (length done + length g) (length done + i)
      (changed-after r rs is changed) (omega (arith, few)) (omega (arith, inside))

  -- and one alone between these
  pub drawn-between : EndsChanged done → (r : Row) (rs : List Row) → rest ≡ r ∷ rs
      → is_changed r.sign ≡ true → (i : ℕ) → i ≤ context.after
      → length g ≤ i + 1 + context.before → i + 1 ≤ length g
      → is_drawn context (numbered full) (length done + i) ≡ true
  drawn-between ends r rs is changed i few enough inside =
      let at = changed-before ends in
      let past = changed-after r rs is changed in
      (rows-near-changes-are-drawn context (numbered full) (length done + i)).1 (inr (
        record {
          changed = length done - 1;
          inside = in-list (numbered full) (length done - 1) (at.1).0 (at.1).1;
          is_changed = at.1;
          before = omega (arith, at.0);
          after = omega (arith, at.0, few);
        },
        record {
          changed = length done + length g;
          inside = in-list (numbered full) (length done + length g) past.0 past.1;
          is_changed = past;
          before = omega (arith, enough);
          after = omega (arith, inside);
        },
      ))

  -- other rows are not, where the changed rows are too far from each other
  pub far : (i : ℕ) → (0 < length done → length done + context.after ≤ i)
      → (length done + length g < length (numbered full)
      → i + context.before < length done + length g)
      → (0 < length done → length done + length g < length (numbered full)
      → context.after + context.before + 2 ≤ length g)
      → is_drawn context (numbered full) i ≡ false
  far i low high apart = by (is_drawn context (numbered full) i) refl where
    at-one : IsNear context (numbered full) i → ⊥
    at-one near =
        elim (cases_lt near.changed (length done)) [
          | inl before ↦
              let l = low (omega (arith, before)) in
              let a = near.after in absurd (omega (arith, before, l, a))
          | inr from ↦ elim (cases_lt near.changed (length done + length g)) [
            | inl to ↦ not-changed near.changed from to near.is_changed
            | inr past ↦
                let n = near.inside in
                let h = high (omega (arith, past, n)) in
                let b = near.before in absurd (omega (arith, past, h, b))
          ]
        ]

    last : (n : IsNear context (numbered full) (i - 1)) (m : IsNear context (numbered full)
        (i + 1)) → n.changed < length done → length done + length g ≤ m.changed → ⊥
    last n m before past =
        let l = low (omega (arith, before)) in
        let n_after = n.after in
        let inside = m.inside in
        let m_before = m.before in
        let a = apart (omega (arith, before)) (omega (arith, past, inside)) in
        absurd (omega (arith, before, past, l, n_after, m_before, a))

    second : (n : IsNear context (numbered full) (i - 1)) (m : IsNear context (numbered full)
        (i + 1)) → n.changed < length done → ⊥
    second n m before =
        elim (cases_lt m.changed (length done)) [
          | inl there ↦
              let l = low (omega (arith, before)) in
              let a = m.after in absurd (omega (arith, there, l, a))
          | inr from ↦ elim (cases_lt m.changed (length done + length g)) [
            | inl to ↦ not-changed m.changed from to m.is_changed
            | inr past ↦ last n m before past
          ]
        ]

    at-two : IsNear context (numbered full) (i - 1) × IsNear context (numbered full) (i + 1)
        → ⊥
    at-two both =
        let n = both.0 in
        elim (cases_lt n.changed (length done)) [
          | inl before ↦ second n both.1 before
          | inr from ↦ elim (cases_lt n.changed (length done + length g)) [
            | inl to ↦ not-changed n.changed from to n.is_changed
            | inr past ↦
                let inside = n.inside in
                let h = high (omega (arith, past, inside)) in
                let b = n.before in absurd (omega (arith, past, h, b))
          ]
        ]

    by : (t : Bool) → is_drawn context (numbered full) i ≡ t → t ≡ false
    by true is = absurd (⊎_elim at-one at-two
        ((rows-near-changes-are-drawn context (numbered full) i).0 is))
    by false is = refl
