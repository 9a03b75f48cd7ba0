-- For the clauses `kept` and `ended` of `search`, and `first` of `take_newline`, by which `next` of
-- `LineStarts` meets its law: the mask of the newlines in a block of a text.
use Rattle.codespan_core.proofs.Std.{◌≡◌, ℕ, zero, suc, ◌+◌, ◌-◌, ◌*◌, ◌/◌}
use Rattle.codespan_core.proofs.Std.{◌^◌, ◌<◌, ◌≤◌, Bool, true, false, cond, List, []}
use Rattle.codespan_core.proofs.Std.{◌∷◌, length, map, take, drop, get_or, refl, sym, ap}
use Rattle.codespan_core.proofs.Std.{◌∙◌, arith, ◌≢◌, not, prefix_len, eqb-true, eq-eqb}
use Rattle.codespan_core.proofs.Std.{false≢true, length-map, drop-map, drop-drop}
use Rattle.std.proofs.Common.{pow_mono, shr-shr}
use Rattle.std.specs.Prelude.{slice_index}
use Rattle.std.specs.Simd.Lanes.{chunk, mask_l}
use Rattle.std.proofs.lemmas.Nat.{shr_le}
use Rattle.std.proofs.lemmas.List.{drop-take}
use Rattle.std.proofs.lemmas.Simd.{length-chunk, mask_l-lt, trailing_mask_l, none_from_empty_mask}
use Rattle.std.proofs.lemmas.Simd.{run_in_chunk_le, run_in_chunk_fails, run_in_chunk_stops}
use Rattle.codespan_core.specs.{is_newline, starts_after}
use Rattle.codespan_core.specs.Lemmas.Lines.{starts_after_run, starts_after_newline}
use lib.Count.{count_trailing_zeros}

-- the mask of at most n bytes has at most n bits
pub newline_mask_lt : (bs : List ℕ) (n : ℕ) → length bs ≤ n
    → mask_l (map is_newline bs) < 2 ^ n
newline_mask_lt bs n h =
    omega (
      arith,
      mask_l-lt (map is_newline bs),
      pow_mono {i = length (map is_newline bs)} {j = n} (omega (arith, length-map bs is_newline)),
    )

-- the lowest bit of a mask is that of the first test
mask_half : (m : Bool) (ms : List Bool) → mask_l (m ∷ ms) / 2 ≡ mask_l ms
mask_half true ms = omega arith
mask_half false ms = omega arith

-- without the first n tests the mask is shifted by n bits
mask_drop : (ms : List Bool) (n : ℕ) → mask_l (drop n ms) ≡ mask_l ms / 2 ^ n
mask_drop ms zero = omega arith
mask_drop [] (suc n) = omega (arith, shr_le 0 (suc n))
mask_drop (m ∷ ms) (suc n) =
    let e : suc n ≡ 1 + n = omega arith in
    mask_drop ms n
    ∙ ap (λ x. x / 2 ^ n) (sym (mask_half m ms))
    ∙ shr-shr (mask_l (m ∷ ms)) 1 n
    ∙ ap (λ k. mask_l (m ∷ ms) / 2 ^ k) (sym e)

-- so the mask of a block without its first n bytes is that of the block, shifted by n bits
pub mask_of_rest : (bs : List ℕ) (at end n : ℕ) → at + n ≤ end
    → mask_l (map is_newline (chunk at (end - at) bs)) / 2 ^ n ≡ mask_l
    (map is_newline (chunk (at + n) (end - (at + n)) bs))
mask_of_rest bs at end n h =
    let e : end - at ≡ n + (end - (at + n)) = omega arith in
    let rest : drop n (chunk at (end - at) bs) ≡ chunk (at + n) (end - (at + n)) bs =
    ap (λ k. drop n (chunk at k bs)) e
    ∙ drop-take n (end - (at + n)) (drop at bs)
    ∙ ap (take (end - (at + n))) (drop-drop n at bs) in
    sym (mask_drop (map is_newline (chunk at (end - at) bs)) n)
    ∙ ap mask_l (drop-map is_newline n (chunk at (end - at) bs))
    ∙ ap (λ ys. mask_l (map is_newline ys)) rest

-- where the mask of n bytes is 0, none of them is a newline
pub no_newline_in_block : (bs : List ℕ) (at n : ℕ) → at + n ≤ length bs
    → mask_l (map is_newline (chunk at n bs)) ≡ 0 → (k : ℕ) → at ≤ k → k < at + n
    → slice_index bs k ≢ 10
no_newline_in_block bs at n room empty k low high e =
    false≢true
    (sym (none_from_empty_mask is_newline bs at n 0 room empty k low high) ∙ eq-eqb _ 10 e)

-- so no line starts after one of them
pub no_start_in_block : (bs : List ℕ) (at end : ℕ) → at ≤ end → end ≤ length bs
    → mask_l (map is_newline (chunk at (end - at) bs)) ≡ 0
    → starts_after at (drop at bs) ≡ starts_after end (drop end bs)
no_start_in_block bs at end ordered within empty =
    starts_after_run bs at end ordered within
    (λ k low high. no_newline_in_block bs at (end - at) (omega arith) empty k low (omega arith))

-- where all bytes come before a newline, no bit of the mask is set
none_set_by : (bs : List ℕ) (head : Bool)
    → cond (not head) (1 + prefix_len (λ b. not (is_newline b)) bs) 0 ≡ suc (length bs)
    → (prefix_len (λ b. not (is_newline b)) bs ≡ length bs
    → mask_l (map is_newline bs) ≡ 0)
    → cond head 1 0 + 2 * mask_l (map is_newline bs) ≡ 0
none_set_by bs true e rest = absurd (omega (arith, e))
none_set_by bs false e rest = omega (arith, rest (omega (arith, e)))

none_set : (bs : List ℕ) → prefix_len (λ b. not (is_newline b)) bs ≡ length bs
    → mask_l (map is_newline bs) ≡ 0
none_set [] e = refl
none_set (b ∷ bs) e = none_set_by bs (is_newline b) e (none_set bs)

-- where the mask of a block is not 0, its lowest bit is that of the first newline
module _ (bs : List ℕ) (at end m : ℕ) (ordered : at ≤ end) (within : end ≤ length bs)
    (near : end ≤ at + 32) (mask : m ≡ mask_l (map is_newline (chunk at (end - at) bs)))
    (some : 0 < m) where
  abbrev first : ℕ
  first = count_trailing_zeros 64 m

  room : at + (end - at) ≤ length bs
  room = omega arith

  long : length (chunk at (end - at) bs) ≡ end - at
  long = length-chunk at (end - at) bs room

  counted : first ≡ prefix_len (λ b. not (is_newline b)) (chunk at (end - at) bs)
  counted =
      ap (count_trailing_zeros 64) mask
      ∙ trailing_mask_l is_newline 64 (chunk at (end - at) bs) (omega (arith, long))
      (omega (arith, mask, some))

  before : (k : ℕ) → at ≤ k → k < at + first → get_or bs k 0 ≢ 10
  before k low high e =
      false≢true
      (sym (run_in_chunk_fails is_newline bs at (end - at) first 0 room counted k low high)
      ∙ eq-eqb _ 10 e)

  not_whole : first ≢ end - at
  not_whole e =
      let none = none_set (chunk at (end - at) bs) (sym counted ∙ e ∙ sym long) in
      absurd (omega (arith, mask, some, none))

  pub first_in_block : first < end - at
  first_in_block =
      omega (arith, run_in_chunk_le is_newline bs at (end - at) first 0 room counted, not_whole)

  newline : get_or bs (at + first) 0 ≡ 10
  newline =
      eqb-true _ 10
      (run_in_chunk_stops is_newline bs at (end - at) first 0 room counted first_in_block)

  pub starts_from_first : starts_after at (drop at bs) ≡ (at + (first + 1)) ∷ starts_after
      (at + (first + 1)) (drop (at + (first + 1)) bs)
  starts_from_first =
      let e : at + (first + 1) ≡ at + first + 1 = omega arith in
      rw e
      (starts_after_run bs at (at + first) (omega arith) (omega (arith, first_in_block)) before
      ∙ starts_after_newline bs (at + first) (omega (arith, first_in_block)) newline)
