-- For `Messages::of`, `write_pointer_and_hanging_rows` and `write_hanging_rows`: prefixes and
-- suffixes of the labels of a line.
use Rattle.codespan_core.proofs.Std.{◌≡◌, ℕ, ◌-◌, ◌≤◌, max, List, [], ◌∷◌}
use Rattle.codespan_core.proofs.Std.{◌++◌, length, length-drop, take, drop, fold, sym, ap}
use Rattle.codespan_core.proofs.Std.{◌∙◌, arith, take-length, map-append, take-append-drop}
use Rattle.codespan_core.proofs.Std.{fold-append}
use Rattle.std.proofs.Math.Logic.{∥∥₁_elim}
use Rattle.std.proofs.Props.{props}
use Rattle.std.specs.List.{push}
use Rattle.codespan_core.specs.Labels.{LabelModel}
use Rattle.codespan_output.specs.{SingleLabelTuple, single_label_view, single_label_views}
use Rattle.codespan_output.specs.{max_label_start}
use Rattle.codespan_output.specs.Private.{ArePrefixAndSuffix}
use Rattle.codespan_output.proofs.Pointers.HangingStarts.{fold_start-le}

-- the elements before an index of a list and those from there on make the list
pub taken-dropped : {X : Type 0} (n : ℕ) (xs : List X)
    → take n xs ++ take (length xs - n) (drop n xs) ≡ xs
taken-dropped n xs =
    ap (λ l. take n xs ++ l)
    (ap (λ k. take k (drop n xs)) (sym (length-drop n xs)) ∙ take-length (drop n xs))
    ∙ take-append-drop n xs

-- two lists of labels, as one
pub whole : (xs ys labels : List SingleLabelTuple) → xs ++ ys ≡ labels
    → single_label_views xs ++ single_label_views ys ≡ single_label_views labels
whole xs ys labels e = sym (map-append single_label_view xs ys) ∙ ap single_label_views e

-- ---- their greatest starts

grows : (m n : ℕ) (xs : List LabelModel) → m ≤ n
    → fold (λ k (x : LabelModel). max k x.start) m xs
    ≤ fold (λ k (x : LabelModel). max k x.start) n xs
grows m n [] h = h
grows m n (x ∷ xs) h = grows (max m x.start) (max n x.start) xs (omega arith)

prefix-near : (xs ys : List LabelModel) → max_label_start xs ≤ max_label_start (xs ++ ys)
prefix-near xs ys = let more = fold_start-le (max_label_start xs) ys in
    omega (arith, fold-append (λ k (x : LabelModel). max k x.start) 0 xs ys)

suffix-near : (xs ys : List LabelModel) → max_label_start ys ≤ max_label_start (xs ++ ys)
suffix-near xs ys = let more = grows 0 (max_label_start xs) ys (omega arith) in
    omega (arith, fold-append (λ k (x : LabelModel). max k x.start) 0 xs ys)

-- no label before the trailing one starts past all
pub before-near : (labels before after : List SingleLabelTuple)
    → ∥ ArePrefixAndSuffix labels before after ∥₁
    → max_label_start (single_label_views before) ≤ max_label_start (single_label_views labels)
before-near labels before after slices =
    ∥∥₁_elim slices (Prim.hlevel props) (λ p.
    let e = ap max_label_start (whole before p.rest labels p.begins) in
    omega (arith, e, prefix-near (single_label_views before) (single_label_views p.rest)))

-- nor does one after it
pub after-near : (labels before after : List SingleLabelTuple)
    → ∥ ArePrefixAndSuffix labels before after ∥₁
    → max_label_start (single_label_views after) ≤ max_label_start (single_label_views labels)
after-near labels before after slices =
    ∥∥₁_elim slices (Prim.hlevel props) (λ p.
    let e = ap max_label_start (whole p.skipped after labels p.ends) in
    omega (arith, e, suffix-near (single_label_views p.skipped) (single_label_views after)))

-- ---- labels from the last one on

-- the last of the remaining labels starts no later than the greatest start, nor do the others
pub record IsNear (rest : List SingleLabelTuple) (x : SingleLabelTuple) (reach : ℕ) : Type 0 where
  pub here : x.1.start ≤ reach
  pub others : max_label_start (single_label_views rest) ≤ reach

pub near-last : (left rest : List SingleLabelTuple) (x : SingleLabelTuple) (reach : ℕ)
    → left ≡ push rest x → max_label_start (single_label_views left) ≤ reach
    → IsNear rest x reach
near-last left rest x reach step near =
    let parts : max_label_start (single_label_views left)
    ≡ max (max_label_start (single_label_views rest)) x.1.start =
    ap (λ xs. max_label_start (single_label_views xs)) step
    ∙ ap max_label_start (map-append single_label_view rest (x ∷ []))
    ∙ fold-append (λ m (y : LabelModel). max m y.start) 0 (single_label_views rest)
    (single_label_view x ∷ []) in
    record { here = omega arith; others = omega arith }
