-- The law of the order of the single-line labels of a line.
use Rattle.std.specs.Prelude.{◌≡◌, List}
use Rattle.std.specs.List.Sorted.{IsPermutation, IsSortedBy, IsStableBy}
use Rattle.codespan_core.specs.Labels.{LabelModel, sorted, range_precedes}

-- `ys` are the labels `xs` in the order of their ranges, and those of equal ranges in the order of
-- `xs`
pub record IsSortOf (xs ys : List LabelModel) : Type 0 where
  pub in_order : IsSortedBy range_precedes ys
  pub permutation : IsPermutation xs ys
  pub stable : IsStableBy range_precedes xs ys

-- there is one such list, which is `sorted`
pub record SortedIsStableSort (xs : List LabelModel) : Type 0 where
  pub is : IsSortOf xs (sorted xs)
  pub only : (ys : List LabelModel) → IsSortOf xs ys → ys ≡ sorted xs
