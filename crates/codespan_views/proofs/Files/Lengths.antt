-- The annotations of one file, in order, for the clauses `value` and `requires` of `count_in_file`.
use Rattle.codespan_core.proofs.Std.{ap, common_steps, ◌≡◌, ℕ, suc, ◌+◌, ◌-◌}
use Rattle.codespan_core.proofs.Std.{◌<◌, ◌≤◌, Bool, true, List, [], ◌∷◌, length}
use Rattle.codespan_core.proofs.Std.{take, drop, map, get_or, refl, ◌∙◌, arith, length-drop}
use Rattle.codespan_core.proofs.Std.{IsStrictWeakOrder, prefix_len, IsSortedBy, take-length, eq-eqb}
use Rattle.codespan_core.proofs.Std.{get_or_default, get_or-drop, length-map, sorted_far}
use Rattle.std.proofs.Math.ListN.{get_or-map}
use Rattle.codespan_views.specs.Private.{RustAnnotation, is_before, is_of_file, annotation_view}
use Rattle.codespan_views.proofs.Annotations.Order.{below_order, file_rises}

-- where all pass, all are in front
prefix_len-all : {X : Type 0} (p : X → Bool) (xs : List X)
    → ((k : ℕ) (d : X) → k < length xs → p (get_or xs k d) ≡ true)
    → length xs ≡ prefix_len p xs
prefix_len-all p [] each = refl
prefix_len-all p (x ∷ xs) each =
    let rest = prefix_len-all p xs (λ k d l. each (suc k) d (omega arith)) in
    let first : p x ≡ true = each 0 x (omega arith) in
    grind (arith, common_steps)

module _ {Id : Type 0} where
  -- one annotation is before another
  abbrev pub below : RustAnnotation Id → RustAnnotation Id → Bool
  below x y = is_before (annotation_view x) (annotation_view y)

  -- it is an order
  order : IsStrictWeakOrder below
  order = record {
    one_way = λ x y. below_order.one_way (annotation_view x) (annotation_view y);
    chain = λ x y z. below_order.chain (annotation_view x) (annotation_view y) (annotation_view z);
  }

  -- between two annotations of a file all are of the file
  pub file-between : (f : ℕ) (xs : List (RustAnnotation Id)) (first last : RustAnnotation Id)
      → first ≡ get_or xs 0 first → last ≡ get_or xs (length xs - 1) last → 0 < length xs
      → first.file_index ≡ f → last.file_index ≡ f → IsSortedBy below xs
      → length xs ≡ prefix_len (λ e. is_of_file f (annotation_view e)) xs
  file-between f xs first last is_first is_last some start end up =
      prefix_len-all (λ e. is_of_file f (annotation_view e)) xs (λ k d inside.
      let rises = λ (i j : ℕ) (low : i ≤ j) (high : j < length xs).
      file_rises (annotation_view (get_or xs i d)) (annotation_view (get_or xs j d))
      (sorted_far below order xs up i j d low high) in
      let at_first = ap (λ e. e.file_index) (is_first ∙ get_or_default xs 0 first d some) in
      let at_last = ap (λ e. e.file_index)
      (is_last ∙ get_or_default xs (length xs - 1) last d (omega arith)) in
      let low = rises 0 k (omega arith) inside in
      let high = rises k (length xs - 1) (omega arith) (omega arith) in
      eq-eqb (get_or xs k d).file_index f (omega (arith, low, high, at_first, at_last, start, end)))

  -- the annotations from one on are in order
  drop-sorted : (xs : List (RustAnnotation Id)) (at : ℕ)
      → IsSortedBy is_before (map annotation_view xs) → IsSortedBy below (drop at xs)
  drop-sorted xs at up k d from inside =
      let here = up (at + k) (annotation_view d) (omega arith)
      (omega (arith, length-map xs (annotation_view {Id = Id}), length-drop at xs)) in
      grind (arith, common_steps, get_or-drop, get_or-map annotation_view xs, here)

  -- the same of a slice from one to the end
  pub rest-sorted : (xs : List (RustAnnotation Id)) (at : ℕ)
      → IsSortedBy is_before (map annotation_view xs)
      → IsSortedBy below (take (length xs - at) (drop at xs))
  rest-sorted xs at up = grind (arith, common_steps, length-drop, take-length, drop-sorted)
