-- The lines of a range, and those that are not looked up for a label, for the clause `collected`
-- of `collect`.
use Rattle.codespan_core.proofs.Std.{common_steps, ◌≡◌, ◌≢◌, ℕ, zero, suc, ◌+◌}
use Rattle.codespan_core.proofs.Std.{◌<◌, Bool, true, false, cond, ◌==◌, nat_lt, nat_le}
use Rattle.codespan_core.proofs.Std.{◌&&◌, ◌||◌, List, [], filter, flat_map, None, arith}
use Rattle.codespan_core.proofs.Std.{range_with_len, AllByRecursion, eq-eqb, ne_eqb, nat_tests}
use Rattle.codespan_core.proofs.Std.{append-nil, filter-append}
use Rattle.codespan_core.specs.Labels.{LabelModel}
use Rattle.codespan_output.specs.Types.{Config}
use Rattle.codespan_output.specs.Lines.{shows, is_around}
use Rattle.codespan_views.specs.Private.{Annotation, rank_of, is_on_line, multi_label_at}
use Rattle.codespan_output.proofs.Utf8.ListElements.{all-append, filter-whole, filter-nothing}
use Rattle.codespan_output.proofs.Utf8.ListElements.{all-weaker}

-- the annotation is of this kind
abbrev pub is_kind : ℕ → Annotation → Bool
is_kind k e = rank_of e.kind == k

-- ---- lines of a range

-- the line is among these
abbrev is_among : ℕ → ℕ → ℕ → Bool
is_among a n l = nat_le a l && nat_lt l (a + n)

-- from the first line on
pub among-below : (n l : ℕ) → is_among 0 n l ≡ nat_lt l n
among-below n l = let e : 0 + n ≡ n = omega arith in grind (arith, nat_tests)

-- what holds of the elements of each line of a range holds of all
pub all-range : (P : Annotation → Type 0) (g : ℕ → List Annotation) (p : ℕ → Bool)
    (n a : ℕ)
    → ((l : ℕ) → l < a + n → AllByRecursion P (g l))
    → AllByRecursion P (flat_map g (filter p (range_with_len a n)))
all-range P g p zero a h = tt
all-range P g p (suc n) a h = grind (arith, common_steps, all-append, all-range P g p n (a + 1))

module _ (g : ℕ → List Annotation)
    (own : (l : ℕ) → AllByRecursion (λ e. e.line ≡ l) (g l))
    (p : ℕ → Bool) where
  -- the elements of a line are kept for it
  keeps-own : (l : ℕ) → filter (is_on_line l) (g l) ≡ g l
  keeps-own l = grind (arith, common_steps, filter-whole, all-weaker, eq-eqb)

  -- those of another line are not
  keeps-other : (a l : ℕ) → a ≢ l → filter (is_on_line l) (g a) ≡ []
  keeps-other a l ne = grind (arith, common_steps, filter-nothing, all-weaker, ne_eqb)

  -- a line has its elements, where it is one of the lines
  pub on-line : (l n a : ℕ)
      → filter (is_on_line l) (flat_map g (filter p (range_with_len a n))) ≡ cond
      (is_among a n l && p l) (g l) []
  on-line l zero a = grind (arith, common_steps, nat_tests)
  on-line l (suc n) a = grind (
    arith,
    common_steps,
    nat_tests,
    filter-append,
    append-nil,
    keeps-own,
    keeps-other,
    on-line l n (a + 1),
  )

-- ---- lines that are not looked up for a label

module _ (config : Config) where
  -- line l is looked up for a label from line s to line e
  abbrev looks_up : ℕ → ℕ → ℕ → Bool
  looks_up s e l = ((l == s) || (l == e) || (nat_le s l && nat_le l e)) || is_around config s e l

  -- it shows no other line
  pub not_shown : (s e l : ℕ) → looks_up s e l ≡ false → shows config s e l ≡ false
  not_shown s e l h = grind (arith, nat_tests)

  -- it has no multi-line label mark on another one
  pub no_multi_label : (s e l start : ℕ) (x : LabelModel) → looks_up s e l ≡ false
      → multi_label_at s e l start x ≡ None
  no_multi_label s e l start x h = grind (arith, common_steps, nat_tests, nat_lt)

  -- it shows the line that it starts on
  pub own_shown : (s e l : ℕ) → (s == l) ≡ true → shows config s e l ≡ true
  own_shown s e l h = grind (arith, nat_tests)
