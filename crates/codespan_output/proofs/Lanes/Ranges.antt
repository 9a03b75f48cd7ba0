-- For `bars_are_labels` and `breaks_have_bars`: a multi-line label begins on an earlier line than
-- it ends on, where its range does.
use Rattle.codespan_core.proofs.Std.{◌≡◌, ℕ, zero, suc, ◌+◌, ◌-◌, ◌<◌}
use Rattle.codespan_core.proofs.Std.{◌≤◌, Bool, true, false, ◌⊎◌, inl, inr, ⊎_elim}
use Rattle.codespan_core.proofs.Std.{cond, not, nat_lt, List, [], ◌∷◌, filter, Some}
use Rattle.codespan_core.proofs.Std.{slice_get, refl, sym, ap, ◌∙◌, arith, Contains, list_any}
use Rattle.codespan_core.proofs.Std.{cases_lt, and_parts, false≢true, nat_tests, list_any_at}
use Rattle.std.proofs.lemmas.Bool.{and_from}
use Rattle.codespan_core.specs.FileModel.{line_count}
use Rattle.codespan_core.specs.Lemmas.Lines.{line_of_below, line_of-rises}
use Rattle.codespan_core.specs.Labels.{LabelModel, is_single, first_line, last_line}
use Rattle.codespan_output.specs.Types.{Layout, Config}
use Rattle.codespan_output.specs.{NoneReversed, HasLane, BarsAreLabels, BreaksHaveBars, shows}
use Rattle.codespan_output.specs.{is_shown, LabeledFileModel}
use Rattle.codespan_output.proofs.Lanes.Bars as bars

-- what a filter keeps is in the list and passes the test
pub kept : (p : LabelModel → Bool) (xs : List LabelModel) (k : ℕ) (x : LabelModel)
    → slice_get (filter p xs) k ≡ Some x → Contains xs x × (p x ≡ true)
kept p [] k x h = cc
kept p (y ∷ ys) k x h = by_test (λ j g. kept p ys j x g) (p y) refl k h
  where
    later : Contains ys x × (p x ≡ true) → Contains (y ∷ ys) x × (p x ≡ true)
    later r = ((suc r.0.0, omega (arith, r.0.1), r.0.2), r.1)

    by_test : ((j : ℕ) → slice_get (filter p ys) j ≡ Some x
        → Contains ys x × (p x ≡ true))
        → (b : Bool) → p y ≡ b → (j : ℕ)
        → slice_get (cond b (y ∷ filter p ys) (filter p ys)) j ≡ Some x
        → Contains (y ∷ ys) x × (p x ≡ true)
    by_test again true is zero h = let same : y ≡ x = cc in
        ((0, omega arith, same), ap p (sym same) ∙ is)
    by_test again true is (suc j) h = later (again j h)
    by_test again false is j h = later (again j h)

pub has_lane-ordered : (s : LabeledFileModel) (lane : ℕ) (x : LabelModel)
    → NoneReversed s.labels
    → HasLane s lane x → first_line s.file x < last_line s.file x
has_lane-ordered s lane x ordered has =
    let r = kept (λ x. not (is_single s.file x)) s.labels lane x has in
    let low = line_of-rises s.file.starts x.start x.end (ordered x r.0) in
    let several = r.1 in
    grind (arith, nat_tests)

pub bars_are_labels : (layout : Layout) (s : LabeledFileModel) → NoneReversed s.labels
    → BarsAreLabels layout s
bars_are_labels layout s ordered =
    λ l lane x has. bars.bars_are_labels layout s l lane x has
    (has_lane-ordered s lane x ordered has)

-- ---- the labels that go through a break

-- a label shows the line
pub shown-by : (config : Config) (s : LabeledFileModel) (x : LabelModel) (l : ℕ)
    → Contains s.labels x → l < line_count s.file
    → shows config (first_line s.file x) (last_line s.file x) l ≡ true
    → is_shown config s.file s.labels l ≡ true
shown-by config s x l has low h =
    and_from (nat_lt l (line_count s.file))
    (list_any (λ y. shows config (first_line s.file y) (last_line s.file y) l) s.labels)
    (grind (arith, nat_tests))
    (list_any_at (λ y. shows config (first_line s.file y) (last_line s.file y) l) s.labels has.0 x
    has.1
    (ap (λ y. shows config (first_line s.file y) (last_line s.file y) l) has.2 ∙ h))

pub shows-first : (config : Config) (s e : ℕ) → shows config s e s ≡ true
shows-first config s e = grind (arith, nat_tests)

pub shows-last : (config : Config) (s e : ℕ) → shows config s e e ≡ true
shows-last config s e = grind (arith, nat_tests)

-- a shown line is not between two lines that have no shown line between them
not_between : (config : Config) (s : LabeledFileModel) (c d l : ℕ)
    → ((k : ℕ) → c < k → k < d → is_shown config s.file s.labels k ≡ false)
    → is_shown config s.file s.labels l ≡ true → (l ≤ c) ⊎ (d ≤ l)
not_between config s c d l none here =
    ⊎_elim
    (λ after. ⊎_elim (λ before. absurd (false≢true (sym (none l after before) ∙ here))) inr
    (cases_lt l d))
    inl (cases_lt c l)

pub breaks_have_bars : (config : Config) (layout : Layout) (s : LabeledFileModel)
    → NoneReversed s.labels → BreaksHaveBars config layout s
breaks_have_bars config layout s ordered = λ c d lane x shown_c shown_d apart none has.
    let inside = (kept (λ x. not (is_single s.file x)) s.labels lane x has).0 in
    let several = has_lane-ordered s lane x ordered has in
    let some : 0 < line_count s.file = (let low = shown-low config s c shown_c in omega arith) in
    let first = not_between config s c d (first_line s.file x) none
    (shown-by config s x (first_line s.file x) inside (line_of_below s.file.starts x.start some)
    (shows-first config (first_line s.file x) (last_line s.file x))) in
    let last = not_between config s c d (last_line s.file x) none
    (shown-by config s x (last_line s.file x) inside (line_of_below s.file.starts x.end some)
    (shows-last config (first_line s.file x) (last_line s.file x))) in
    let bar = (bars_are_labels layout s ordered d lane x has).1 in (
      λ is l after before.
          let over = bar.0 is in
          let early : first_line s.file x ≤ c =
          ⊎_elim (λ h. h) (λ h. absurd (omega (arith, over.0))) first in
          (omega arith, omega (arith, over.1)),
      λ all.
          let left = all (c + 1) (omega arith) (omega arith) in
          let right = all (d - 1) (omega arith) (omega arith) in
          let late : d ≤ last_line s.file x =
          ⊎_elim (λ h. absurd (omega (arith, left.1))) (λ h. h) last in
          bar.1 (omega (arith, left.0), late),
    )
  where
    shown-low : (config : Config) (s : LabeledFileModel) (c : ℕ)
        → is_shown config s.file s.labels c ≡ true → c < line_count s.file
    shown-low config s c h =
        let low = (and_parts (nat_lt c (line_count s.file))
        (list_any (λ y. shows config (first_line s.file y) (last_line s.file y) c) s.labels) h).0
        in
        grind (arith, nat_tests)
