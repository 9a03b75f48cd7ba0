-- For the clause of `laws::rows_near_changes_are_drawn`.
use Rattle.codespan_core.proofs.Std.{◌≡◌, ◌≤◌, ◌<◌, ◌+◌, ◌-◌, ◌∷◌, ◌∙◌, []}
use Rattle.codespan_core.proofs.Std.{ℕ, List, length, Bool, true, false, get_or, cond, ◌&&◌}
use Rattle.codespan_core.proofs.Std.{◌||◌, refl, ap, sym, take, arith, inl, inr, ◌⊎◌, ⊎_elim}
use Rattle.codespan_core.proofs.Std.{cases_lt, lt-ltb, ltb-true, take_all, filter, true≢false}
use Rattle.codespan_core.proofs.Std.{slice_get, Some, zero, suc}
use Rattle.codespan_edits.specs.DiffLaws.{is_changed}
use Rattle.codespan_edits.specs.Numbers.{NumberedRow}
use Rattle.codespan_edits.specs.DrawnRows.{Context, changed_among, is_near_change}
use Rattle.codespan_edits.specs.HunkLaws.{IsChangedAt, IsNear, RowsNearChangesAreDrawn}
use Rattle.codespan_edits.proofs.HunkLemmas.{changed_more}
use Rattle.codespan_edits.proofs.HunkPatches.{changed-le}

-- one more row than these is counted where it is changed
at-least : (rows : List NumberedRow) (c : ℕ) → c < length rows → (row : NumberedRow)
    → slice_get rows c ≡ Some row → get_or rows c row ≡ row
at-least [] c inside row is = absurd (omega (arith, inside))
at-least (r ∷ rs) zero inside row is = cc (is)
at-least (r ∷ rs) (suc c) inside row is = at-least rs c (omega (arith, inside)) row is

found-at : (rows : List NumberedRow) (c : ℕ) → c < length rows
    → (row : NumberedRow) × (slice_get rows c ≡ Some row)
found-at [] c inside = absurd (omega (arith, inside))
found-at (r ∷ rs) zero inside = (r, refl)
found-at (r ∷ rs) (suc c) inside = found-at rs c (omega (arith, inside))

counted : (rows : List NumberedRow) (c : ℕ) → c < length rows → IsChangedAt rows c
    → changed_among (c + 1) rows ≡ changed_among c rows + 1
counted rows c inside at =
    changed_more rows c at.0 inside
    ∙ ap (λ b. changed_among c rows + cond b 1 0)
    (ap (λ (r : NumberedRow). is_changed r.row.sign) (at-least rows c inside at.0 at.1) ∙ at.2)

-- where more of the first rows are changed, one of those that are more is
one-changed : (rows : List NumberedRow) (n d : ℕ)
    → changed_among n rows < changed_among (n + d) rows
    → (c : ℕ) × (n ≤ c) × (c < n + d) × (c < length rows) × IsChangedAt rows c
one-changed rows n zero more =
    let same : n + 0 ≡ n = omega arith in
    absurd (omega (arith, ap (λ m. changed_among m rows) same, more))
one-changed rows n (suc d) more =
    elim (cases_lt (changed_among n rows) (changed_among (n + d) rows)) [
      | inl h ↦
          let found = one-changed rows n d h in
          (found.0, found.1, omega (arith, found.2), found.3, found.4)
      | inr h ↦ last h (cases_lt (n + d) (length rows))
    ]
  where
    by : (found : (row : NumberedRow) × (slice_get rows (n + d) ≡ Some row)) (t : Bool)
        → is_changed found.0.row.sign ≡ t
        → changed_among (n + d) rows < changed_among (n + d) rows + cond t 1 0
        → n + d < length rows
        → (c : ℕ) × (n ≤ c) × (c < n + suc d) × (c < length rows) × IsChangedAt rows c
    by found true is all inside =
        (n + d, omega arith, omega arith, inside, (found.0, found.1, is))
    by found false is all inside = absurd (omega (arith, all))

    last : changed_among (n + d) rows ≤ changed_among n rows
        → (n + d < length rows) ⊎ (length rows ≤ n + d)
        → (c : ℕ) × (n ≤ c) × (c < n + suc d) × (c < length rows) × IsChangedAt rows c
    last h (inl inside) =
        let found = found-at rows (n + d) inside in
        let here = at-least rows (n + d) inside found.0 found.1 in
        let next : n + suc d ≡ n + d + 1 = omega arith in
        let step : changed_among (n + d + 1) rows
        ≡ changed_among (n + d) rows + cond (is_changed found.0.row.sign) 1 0 =
        changed_more rows (n + d) found.0 inside
        ∙ ap (λ (r : NumberedRow). changed_among (n + d) rows + cond (is_changed r.row.sign) 1 0)
        here in
        by found (is_changed found.0.row.sign) refl
        (let all : changed_among (n + d) rows < changed_among (n + d) rows
        + cond (is_changed found.0.row.sign) 1 0 =
        omega (arith, h, more, step, ap (λ m. changed_among m rows) next) in all)
        inside
    last h (inr past) =
        let whole : take (n + suc d) rows ≡ take (n + d) rows =
        take_all (n + suc d) rows (omega (arith, past)) ∙ sym (take_all (n + d) rows past) in
        let same : changed_among (n + suc d) rows ≡ changed_among (n + d) rows =
        ap (λ rs. length (filter (λ (r : NumberedRow). is_changed r.row.sign) rs)) whole in
        absurd (omega (arith, h, more, same))

-- ---- rows near changed ones

near-from : (context : Context) (rows : List NumberedRow) (k : ℕ)
    → is_near_change context rows k ≡ true → IsNear context rows k
near-from context rows k near =
    let n = k - context.after in
    let d = k + context.before + 1 - n in
    let whole : n + d ≡ k + context.before + 1 = omega arith in
    let less : changed_among n rows < changed_among (k + context.before + 1) rows =
    ltb-true (changed_among n rows) (changed_among (k + context.before + 1) rows) near in
    let found =
    one-changed rows n d
    (omega (arith, less, ap (λ m. changed_among m rows) whole)) in
    let least : n ≤ found.0 = found.1 in
    let most : found.0 < n + d = found.2 in
    record {
      changed = found.0;
      inside = found.3;
      is_changed = found.4;
      before = omega (arith, most, whole);
      after = omega (arith, least);
    }

near-to : (context : Context) (rows : List NumberedRow) (k : ℕ) → IsNear context rows k
    → is_near_change context rows k ≡ true
near-to context rows k near =
    let c = near.changed in
    let more = counted rows c near.inside near.is_changed in
    let before : changed_among (k - context.after) rows ≤ changed_among c rows =
    changed-le (k - context.after) c rows (omega (arith, near.after)) in
    let after : changed_among (c + 1) rows ≤ changed_among (k + context.before + 1) rows =
    changed-le (c + 1) (k + context.before + 1) rows (omega (arith, near.before)) in
    lt-ltb (changed_among (k - context.after) rows)
    (changed_among (k + context.before + 1) rows) (omega (arith, more, before, after))

pub rows-near-changes-are-drawn : RowsNearChangesAreDrawn
rows-near-changes-are-drawn context rows k = (
  λ drawn.
      by (is_near_change context rows k) (is_near_change context rows (k - 1))
      (is_near_change context rows (k + 1)) refl refl refl drawn,
  λ near.
      ⊎_elim
      (λ (h : IsNear context rows k).
      ap (λ b. b || (is_near_change context rows (k - 1) && is_near_change context rows (k + 1)))
      (near-to context rows k h))
      (λ (h : IsNear context rows (k - 1) × IsNear context rows (k + 1)).
      all-true (is_near_change context rows k) (near-to context rows (k - 1) h.0)
      (near-to context rows (k + 1) h.1))
      near,
)
  where
    by : (a b c : Bool) → is_near_change context rows k ≡ a
        → is_near_change context rows (k - 1) ≡ b → is_near_change context rows (k + 1) ≡ c
        → a || (b && c) ≡ true
        → IsNear context rows k ⊎ (IsNear context rows (k - 1) × IsNear context rows (k + 1))
    by true b c ha hb hc drawn = inl (near-from context rows k ha)
    by false true true ha hb hc drawn =
        inr (near-from context rows (k - 1) hb, near-from context rows (k + 1) hc)
    by false true false ha hb hc drawn = absurd (true≢false (sym drawn))
    by false false c ha hb hc drawn = absurd (true≢false (sym drawn))

    all-true : {b c : Bool} (a : Bool) → b ≡ true → c ≡ true → a || (b && c) ≡ true
    all-true true hb hc = refl
    all-true false hb hc = simp (hb, hc) refl
