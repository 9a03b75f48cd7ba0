-- For the clauses of `search`, `nearest` and `set_line` of `MappedFile`: what a search finds among
-- set numbers, and what an edit at that index does.
use Rattle.codespan_core.proofs.Std.{◌≡◌, ℕ, zero, suc, ◌+◌, ◌-◌, ◌<◌}
use Rattle.codespan_core.proofs.Std.{◌≤◌, Bool, true, false, if◌then◌else◌, List, []}
use Rattle.codespan_core.proofs.Std.{◌∷◌, length, get_or, set, Some, None, Result, Ok, Err}
use Rattle.codespan_core.proofs.Std.{IfOk, IfErr, refl, sym, ap, subst, arith, nat_cmp, nat_tests}
use Rattle.codespan_core.proofs.Std.{length-map, common_steps}
use Rattle.std.proofs.Common.{length-set}
use Rattle.std.specs.List.{insert}
use Rattle.std.specs.List.Sorted.{IsSearchInRange, IsBinarySearchResult, IsNonDecreasingBy}
use Rattle.std.specs.Ordering.{ordering_index}
use Rattle.std.proofs.lemmas.Cmp.{ranked}
use Rattle.std.proofs.lemmas.List.Sorted.{IsNonDecreasingBy-from_default}
use Rattle.std.proofs.lemmas.List.Edits.{length-insert, get_or-insert_below, get_or-insert_at}
use Rattle.std.proofs.lemmas.List.Edits.{get_or-insert_above}
use Rattle.codespan_base.specs.SetLineNumbers.{set_number_view, set_number_views, line_index_at}
use Rattle.codespan_base.specs.SetLineNumbers.{IsStrictlySorted, IsSetAt, IsInsertionPoint}
use Rattle.codespan_base.specs.declared.files.mapped.SetNumber.{SetNumber}
use Rattle.codespan_base.specs.MappedModel.{nearest_set, with_set_number}

-- in place of a set number where there is none
none_there : SetNumber
none_there = record { line_index = 0; number = 0 }

-- a line index of the pairs
index_at : (l : List SetNumber) (i : ℕ)
    → line_index_at (set_number_views l) i ≡ (get_or l i none_there).line_index
unfolding none_there
index_at [] i = refl
index_at (x ∷ l) zero = refl
index_at (x ∷ l) (suc i) = index_at l i

module _ (l : List SetNumber) (sorted : IsStrictlySorted (set_number_views l)) (k : ℕ) where
  -- the comparisons with k ascend along the list, as a binary search requires
  comparisons_rise : IsNonDecreasingBy (λ s. ordering_index (nat_cmp s.line_index k)) l
  comparisons_rise =
      IsNonDecreasingBy-from_default (λ s. ordering_index (nat_cmp s.line_index k)) l none_there
      (λ i j le in_range.
      let count = length-map l set_number_view in
      let keys_rise : line_index_at (set_number_views l) i ≤ line_index_at (set_number_views l)
      j =
      grind (arith, sorted i j, λ (same : i ≡ j). ap (line_index_at (set_number_views l)) same)
      in
      let first = index_at l i in
      let second = index_at l j in
      grind (arith, nat_tests))

  -- a binary search ends at the index, or at the point where it would be inserted
  pub searched : (r : Result ℕ ℕ) → IsSearchInRange r (length l)
      → IsBinarySearchResult (λ s. nat_cmp s.line_index k) l r
      → record {
        found : IfOk r (IsSetAt (set_number_views l) k);
        absent : IfErr r (IsInsertionPoint (set_number_views l) k);
      }
  searched (Ok at) in_range equal =
      grind (arith, common_steps, ranked, none_there, length-map, index_at)
  searched (Err at) in_range parted =
      let parts = parted comparisons_rise in
      let count = length-map l set_number_view in
      record {
        found = tt;
        absent = record {
          in_range = omega (arith, count);
          smaller_before = λ j lt.
              rw (index_at l j) (ranked _ k _ (sym (parts.0 j none_there (omega arith) lt)));
          greater_after = λ j le lt.
              rw (index_at l j)
              (ranked _ k _ (sym (parts.1 j none_there le (omega (arith, count)))));
        };
      }

-- writing over the set number of an index
replaced : (l : List (ℕ × ℕ)) (k v at : ℕ) → at < length l
    → ((j : ℕ) → j < at → line_index_at l j < k) → line_index_at l at ≡ k
    → set l at (k, v) ≡ with_set_number k v l
replaced [] k v at low below here = absurd (omega arith)
replaced (x ∷ l) k v zero low below here = grind (arith, nat_tests)
replaced (x ∷ l) k v (suc at) low below here =
    let first : x.0 < k = below 0 (omega arith) in
    let later : set l at (k, v) ≡ with_set_number k v l =
    replaced l k v at (omega arith) (λ j h. below (suc j) (omega arith)) here in
    grind (arith, nat_tests)

-- which changes no line index
kept : (l : List (ℕ × ℕ)) (at k v : ℕ) → at < length l → line_index_at l at ≡ k
    → (q : ℕ)
    → line_index_at (set l at (k, v)) q ≡ line_index_at l q
kept [] at k v low here q = absurd (omega arith)
kept (x ∷ l) zero k v low here zero = sym here
kept (x ∷ l) zero k v low here (suc q) = refl
kept (x ∷ l) (suc at) k v low here zero = refl
kept (x ∷ l) (suc at) k v low here (suc q) = kept l at k v (omega arith) here q

-- inserting a set number of a new line index
inserted : (l : List (ℕ × ℕ)) (k v at : ℕ) → at ≤ length l
    → ((j : ℕ) → j < at → line_index_at l j < k)
    → (at < length l → k < line_index_at l at)
    → insert l at (k, v) ≡ with_set_number k v l
inserted [] k v zero low below above = refl
inserted [] k v (suc at) low below above = absurd (omega arith)
inserted (x ∷ l) k v zero low below above = grind (arith, common_steps)
inserted (x ∷ l) k v (suc at) low below above =
    let first : x.0 < k = below 0 (omega arith) in
    let later : insert l at (k, v) ≡ with_set_number k v l =
    inserted l k v at (omega arith) (λ j h. below (suc j) (omega arith))
    (λ h. above (omega arith)) in
    grind (arith, nat_tests)

-- where all line indices are greater, the line counts from no set number
none_set : (l : List (ℕ × ℕ)) (k : ℕ)
    → ((j : ℕ) → j < length l → k < line_index_at l j)
    → nearest_set l k ≡ None
none_set [] k above = refl
none_set (x ∷ l) k above =
    let first : k < x.0 = above 0 (omega arith) in
    let rest : nearest_set l k ≡ None = none_set l k (λ j h. above (suc j) (omega arith)) in
    grind (arith, nat_tests)

-- the line counts from the last set number whose line index is not greater
last_set : (l : List (ℕ × ℕ)) (k at : ℕ) → at < length l → line_index_at l at ≤ k
    → ((j : ℕ) → at < j → j < length l → k < line_index_at l j)
    → nearest_set l k ≡ Some (get_or l at (0, 0))
last_set [] k at low here above = absurd (omega arith)
last_set (x ∷ l) k zero low here above =
    let rest : nearest_set l k ≡ None =
    none_set l k (λ j h. above (suc j) (omega arith) (omega arith)) in
    grind (arith, nat_tests)
last_set (x ∷ l) k (suc at) low here above =
    let rest : nearest_set l k ≡ Some (get_or l at (0, 0)) =
    last_set l k at (omega arith) here (λ j g h. above (suc j) (omega arith) (omega arith)) in
    grind (arith, nat_tests)

module _ (l : List (ℕ × ℕ)) (sorted : IsStrictlySorted l) (k at : ℕ) (is_at : IsSetAt l k at)
  where
    -- writing over the set number is setting the number
    pub set_replaces : (v : ℕ) → set l at (k, v) ≡ with_set_number k v l
    set_replaces v =
        replaced l k v at is_at.in_range
        (λ j h. omega (arith, sorted j at h is_at.in_range, is_at.has_index)) is_at.has_index

    -- which keeps the order
    pub sorted_set : (v : ℕ) → IsStrictlySorted (set l at (k, v))
    sorted_set v i j lt in_range =
        let same = kept l at k v is_at.in_range is_at.has_index in
        omega (arith, same i, same j, sorted i j lt (omega (arith, length-set l at (k, v))))

    -- a line that is set counts from itself
    pub nearest_set_at : nearest_set l k ≡ Some (get_or l at (0, 0))
    nearest_set_at =
        last_set l k at is_at.in_range (omega (arith, is_at.has_index))
        (λ j g h. omega (arith, sorted at j g h, is_at.has_index))

module _ (l : List (ℕ × ℕ)) (k at : ℕ) (point : IsInsertionPoint l k at) where
  -- inserting at the point is setting the number
  pub insert_adds : (v : ℕ) → insert l at (k, v) ≡ with_set_number k v l
  insert_adds v = grind (arith, common_steps, inserted)

  -- a line above all set ones counts from none
  pub nearest_set_before_all : at ≡ 0 → nearest_set l k ≡ None
  nearest_set_before_all e = none_set l k (λ j h. point.greater_after j (omega arith) h)

  -- any other line counts from the set number before the point
  pub nearest_set_before : 0 < at → nearest_set l k ≡ Some (get_or l (at - 1) (0, 0))
  nearest_set_before some = grind (arith, common_steps, last_set)

  -- which keeps the order: each line index is, by its position, an old one before the point, k at
  -- the point, or an old one moved by one position
  pub sorted_insert : (v : ℕ) → IsStrictlySorted l → IsStrictlySorted (insert l at (k, v))
  sorted_insert v sorted i j lt in_range =
      let new = insert l at (k, v) in
      let key = λ (x : ℕ × ℕ). x.0 in
      let length_new = length-insert l at (k, v) point.in_range in
      let key_below : (i : ℕ) → i < at → line_index_at new i ≡ line_index_at l i =
      λ i below. ap key (get_or-insert_below l at (k, v) (0, 0) i below point.in_range) in
      let key_here : (i : ℕ) → i ≡ at → line_index_at new i ≡ k =
      λ i here. rw here (ap key (get_or-insert_at l at (k, v) (0, 0) point.in_range)) in
      let key_above : (i : ℕ) → at < i → line_index_at new i ≡ line_index_at l (i - 1) =
      λ i above. subst (λ q. line_index_at new q ≡ line_index_at l (i - 1)) {x = i - 1 + 1}
      (omega arith)
      (ap key (get_or-insert_above l at (k, v) (0, 0) (i - 1) (omega arith) point.in_range)) in
      grind (
        arith,
        key_below i,
        key_here i,
        key_above i,
        key_below j,
        key_here j,
        key_above j,
        sorted i j,
        sorted i (j - 1),
        sorted (i - 1) (j - 1),
        point.smaller_before i,
        point.greater_after (j - 1),
      )

-- inserting among set numbers is inserting among their pairs
pub pairs-insert : (l : List SetNumber) (at : ℕ) (s : SetNumber)
    → set_number_views (insert l at s) ≡ insert (set_number_views l) at (set_number_view s)
pairs-insert l zero s = refl
pairs-insert [] (suc at) s = refl
pairs-insert (x ∷ l) (suc at) s = grind (arith, common_steps, pairs-insert l)

-- whether the insert succeeds or fails, the order is kept
pub sorted_either : (l : List SetNumber) (at : ℕ) (s : SetNumber)
    → IsInsertionPoint (set_number_views l) s.line_index at
    → IsStrictlySorted (set_number_views l)
    → (b : Bool)
    (xs : List SetNumber) → xs ≡ (if b then insert l at s else l)
    → IsStrictlySorted (set_number_views xs)
sorted_either l at s point sorted true xs e =
    rw (e, pairs-insert l at s)
    (sorted_insert (set_number_views l) s.line_index at point s.number sorted)
sorted_either l at s point sorted false xs e = rw e sorted
