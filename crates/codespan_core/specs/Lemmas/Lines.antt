-- For the law of `Files`, for `next` of `LineStarts`, and for lookups: facts on line starts.
use Rattle.std.proofs.Common.{◌≡◌, ℕ, zero, suc, ◌+◌, ◌-◌, ◌^◌, ◌<◌}
use Rattle.std.proofs.Common.{◌≤◌, Bool, true, false, cond, List, [], ◌∷◌, length}
use Rattle.std.proofs.Common.{get_or, drop, refl, ◌∙◌, arith, eqb, inl, inr}
use Rattle.std.specs.Prelude.{◌≢◌, if◌then◌else◌, count_by, nat_le, slice_index}
use Rattle.std.proofs.lemmas.Bool.{cases_lt, eqb-true, eq-eqb, le-leb, lt-leb}
use Rattle.std.proofs.lemmas.Bool.Decides.{eqb_tells}
use Rattle.std.proofs.lemmas.List.{drop_more, drop_all}
use Rattle.std.proofs.lemmas.List.Sums.{sum_by-cons, sum_by-le-sum_by, count_by-le-length}
use Rattle.codespan_core.specs.Lines.{starts_after}
use Rattle.codespan_core.specs.FileModel.{FileModel, line_count, line_of}
use Rattle.codespan_core.specs.LawfulFiles.{IsLawful}

-- the starts xs after the newlines of bs, whose first byte has the index `from`
pub record Cuts (from : ℕ) (bs xs : List ℕ) : Type 0 where
  pub above : (k : ℕ) → k < length xs → from < get_or xs k 0
  pub within : (k : ℕ) → k < length xs → get_or xs k 0 ≤ from + length bs
  pub newline : (k : ℕ) → k < length xs → get_or bs (get_or xs k 0 - (from + 1)) 0 ≡ 10
  pub ascending : (k : ℕ) → k + 1 < length xs → get_or xs k 0 < get_or xs (k + 1) 0

-- a newline among the bytes after the first
later_byte : (b : ℕ) (bs : List ℕ) (from x : ℕ) → from + 1 < x
    → get_or bs (x - (from + 1 + 1)) 0 ≡ 10 → get_or (b ∷ bs) (x - (from + 1)) 0 ≡ 10
later_byte b bs from x h e =
    let k : x - (from + 1) ≡ suc (x - (from + 1 + 1)) = omega arith in
    rw k e

-- a first byte that is no newline adds no start
cuts_no : (from b : ℕ) (bs xs : List ℕ) → Cuts (from + 1) bs xs → Cuts from (b ∷ bs) xs
cuts_no from b bs xs c = record {
  above = λ k h. omega (arith, c.above k h);
  within = λ k h. omega (arith, c.within k h);
  newline = λ k h. later_byte b bs from _ (c.above k h) (c.newline k h);
  ascending = c.ascending;
}

-- with one more start in front, all are after `from`
above_cons : (from b : ℕ) (bs xs : List ℕ) → Cuts (from + 1) bs xs → (k : ℕ)
    → k < length ((from + 1) ∷ xs) → from < get_or ((from + 1) ∷ xs) k 0
above_cons from b bs xs c zero h = omega arith
above_cons from b bs xs c (suc k) h = omega (arith, c.above k (omega arith))

-- and none is past the end
within_cons : (from b : ℕ) (bs xs : List ℕ) → Cuts (from + 1) bs xs → (k : ℕ)
    → k < length ((from + 1) ∷ xs)
    → get_or ((from + 1) ∷ xs) k 0 ≤ from + length (b ∷ bs)
within_cons from b bs xs c zero h = omega arith
within_cons from b bs xs c (suc k) h = omega (arith, c.within k (omega arith))

-- and each is after a newline
newline_cons : (from : ℕ) (bs xs : List ℕ) → Cuts (from + 1) bs xs → (k : ℕ)
    → k < length ((from + 1) ∷ xs)
    → get_or (10 ∷ bs) (get_or ((from + 1) ∷ xs) k 0 - (from + 1)) 0 ≡ 10
newline_cons from bs xs c zero h =
    let z : (from + 1) - (from + 1) ≡ 0 = omega arith in
    rw z refl
newline_cons from bs xs c (suc k) h =
    later_byte 10 bs from _ (c.above k (omega arith)) (c.newline k (omega arith))

-- and they ascend
ascending_cons : (from : ℕ) (bs xs : List ℕ) → Cuts (from + 1) bs xs → (k : ℕ)
    → k + 1 < length ((from + 1) ∷ xs)
    → get_or ((from + 1) ∷ xs) k 0 < get_or ((from + 1) ∷ xs) (k + 1) 0
ascending_cons from bs xs c zero h = c.above 0 (omega arith)
ascending_cons from bs xs c (suc k) h =
    let e : suc k + 1 ≡ suc (k + 1) = omega arith in
    rw e (c.ascending k (omega arith))

-- a first byte that is a newline adds a start
cuts_yes : (from b : ℕ) (bs xs : List ℕ) → b ≡ 10 → Cuts (from + 1) bs xs
    → Cuts from (b ∷ bs) ((from + 1) ∷ xs)
cuts_yes from b bs xs e c = record {
  above = above_cons from b bs xs c;
  within = within_cons from b bs xs c;
  newline = λ k h. rw e (newline_cons from bs xs c k h);
  ascending = ascending_cons from bs xs c;
}

-- a first byte adds a start exactly where it is a newline
cuts_by : (from b : ℕ) (bs xs : List ℕ) (v : Bool) → eqb b 10 ≡ v → Cuts (from + 1) bs xs
    → Cuts from (b ∷ bs) (if v then (from + 1) ∷ xs else xs)
cuts_by from b bs xs true e c = cuts_yes from b bs xs (eqb-true b 10 e) c
cuts_by from b bs xs false e c = cuts_no from b bs xs c

-- `starts_after` returns such starts
pub cuts : (from : ℕ) (bs : List ℕ) → Cuts from bs (starts_after from bs)
cuts from [] = record {
  above = λ k h. absurd (omega arith);
  within = λ k h. absurd (omega arith);
  newline = λ k h. absurd (omega arith);
  ascending = λ k h. absurd (omega arith);
}
cuts from (b ∷ bs) = cuts_by from b bs _ (eqb b 10) refl (cuts (from + 1) bs)

-- i numbers are at most b, where the first i are, and those after them are above it
pub count_split : (b : ℕ) (xs : List ℕ) (i : ℕ) → i ≤ length xs
    → ((k : ℕ) → k < i → get_or xs k 0 ≤ b)
    → ((k : ℕ) → i ≤ k → k < length xs → b < get_or xs k 0)
    → count_by (λ s. nat_le s b) xs ≡ i
count_split b [] i h low high = omega arith
count_split b (x ∷ xs) zero h low high =
    let head : b < x = high 0 (omega arith) (omega arith) in
    let rest : count_by (λ s. nat_le s b) xs ≡ 0 =
    count_split b xs zero (omega arith) (λ k p. absurd (omega arith))
    (λ k p q. high (suc k) (omega arith) (omega arith)) in
    sum_by-cons (λ s. cond (nat_le s b) 1 0) x xs ∙ rw (lt-leb x b head) (omega (arith, rest))
count_split b (x ∷ xs) (suc i) h low high =
    let head : x ≤ b = low 0 (omega arith) in
    let rest : count_by (λ s. nat_le s b) xs ≡ i =
    count_split b xs i (omega arith) (λ k p. low (suc k) (omega arith))
    (λ k p q. high (suc k) (omega arith) (omega arith)) in
    sum_by-cons (λ s. cond (nat_le s b) 1 0) x xs ∙ rw (le-leb x b head) (omega (arith, rest))

-- the test of equality is false of two numbers that differ
pub ne-eqb : (a b : ℕ) → a ≢ b → eqb a b ≡ false
ne-eqb a b n = elim (eqb_tells a b) [ inl p ↦ absurd (n p.1) | inr p ↦ p.0 ]

-- a step over a newline
pub starts_after_newline : (bs : List ℕ) (i : ℕ) → i < length bs → get_or bs i 0 ≡ 10
    → starts_after i (drop i bs) ≡ (i + 1) ∷ starts_after (i + 1) (drop (i + 1) bs)
starts_after_newline bs i h e = rw (drop_more bs i 0 h) (rw (eq-eqb (get_or bs i 0) 10 e) refl)

-- a step over any other byte
pub starts_after_other : (bs : List ℕ) (i : ℕ) → i < length bs → get_or bs i 0 ≢ 10
    → starts_after i (drop i bs) ≡ starts_after (i + 1) (drop (i + 1) bs)
starts_after_other bs i h n = rw (drop_more bs i 0 h) (rw (ne-eqb (get_or bs i 0) 10 n) refl)

-- no byte is left
pub starts_after_end : (bs : List ℕ) (i : ℕ) → length bs ≤ i
    → starts_after i (drop i bs) ≡ []
starts_after_end bs i h = rw (drop_all i bs h) refl

-- a step over n bytes that are no newlines
starts_after_others : (bs : List ℕ) (i n : ℕ) → i + n ≤ length bs
    → ((k : ℕ) → i ≤ k → k < i + n → get_or bs k 0 ≢ 10)
    → starts_after i (drop i bs) ≡ starts_after (i + n) (drop (i + n) bs)
starts_after_others bs i zero h others =
    let e : i + 0 ≡ i = omega arith in
    rw e refl
starts_after_others bs i (suc n) h others =
    let e : i + suc n ≡ i + 1 + n = omega arith in
    rw e
    (starts_after_other bs i (omega arith) (others i (omega arith) (omega arith))
    ∙ starts_after_others bs (i + 1) n (omega arith)
    (λ k low high. others k (omega arith) (omega arith)))

-- a step to the next newline, or to the end
pub starts_after_run : (bs : List ℕ) (i j : ℕ) → i ≤ j → j ≤ length bs
    → ((k : ℕ) → i ≤ k → k < j → get_or bs k 0 ≢ 10)
    → starts_after i (drop i bs) ≡ starts_after j (drop j bs)
starts_after_run bs i j ordered within others =
    let e : j ≡ i + (j - i) = omega arith in
    rw e
    (starts_after_others bs i (j - i) (omega arith) (λ k low high. others k low (omega arith)))

-- a byte's line is a line
pub line_of_below : (starts : List ℕ) (byte : ℕ) → 0 < length starts
    → line_of starts byte < length starts
unfolding line_of
line_of_below starts byte h = omega (arith, count_by-le-length (λ s. nat_le s byte) starts)

-- a later byte is not on an earlier line: for `positions_ascend`, `bars_are_labels` and
-- `breaks_have_bars`
one-later : (s a b : ℕ) → a ≤ b → cond (nat_le s a) 1 0 ≤ cond (nat_le s b) 1 0
one-later s a b h =
    elim (cases_lt a s) [
      | inl p ↦ rw (lt-leb s a p) (omega arith)
      | inr p ↦ rw (le-leb s a p, le-leb s b (omega (arith, p))) (omega arith)
    ]

pub line_of-rises : (starts : List ℕ) (a b : ℕ) → a ≤ b
    → line_of starts a ≤ line_of starts b
unfolding line_of
line_of-rises starts a b h =
    omega (
      arith,
      sum_by-le-sum_by (λ s. cond (nat_le s a) 1 0) (λ s. cond (nat_le s b) 1 0) starts
          (λ s. one-later s a b h),
    )

module _ (f : FileModel) (law : IsLawful f) where
  -- each line before a line has at least one byte
  pub start_from_index : (i : ℕ) → i < line_count f → i ≤ slice_index f.starts i
  start_from_index zero h = omega arith
  start_from_index (suc i) h =
      let e : suc i ≡ i + 1 = omega arith in
      rw e (omega (arith, start_from_index i (omega arith), law.ascending i (omega arith)))

  -- so a file has at most one line more than bytes
  pub lines_within_text : line_count f ≤ length f.text + 1
  lines_within_text =
      let last : ℕ = line_count f - 1 in
      let below : last < line_count f = omega (arith, law.has_line) in
      omega (arith, start_from_index last below, (law.starts_on_boundaries last below).0)

  -- and at most as many lines as there are `usize` indices
  pub lines_have_indices : line_count f ≤ 2 ^ 64
  lines_have_indices = omega (arith, lines_within_text, law.fits)
