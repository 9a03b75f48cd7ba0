-- For `carets_are_cells` and the carets of `rows`: how far the labels of a line reach.
use Rattle.codespan_core.proofs.Std.{◌≡◌, ℕ, ◌<◌, ◌≤◌, max, min, Bool, true}
use Rattle.codespan_core.proofs.Std.{false, ◌&&◌, List, [], ◌∷◌, fold, Some, refl, arith}
use Rattle.codespan_core.proofs.Std.{ltb-true, ⊎_elim, ◌+◌, list_any, and_parts, or_cases}
use Rattle.codespan_core.specs.Labels.{LabelModel, is_primary}
use Rattle.codespan_output.specs.Types.{LabelStyle, Metrics}
use Rattle.codespan_output.specs.{covers, style_under, max_label_end}

-- a label over a character ends past the index at which that begins
covers-below : (x : LabelModel) (c : Metrics) → covers x c ≡ true → c.byte_index < x.end
covers-below x c h =
    let below = ltb-true (max x.start c.byte_index) (min x.end (c.byte_index + c.bytes)) h in
    omega arith

fold_max-le : (m : ℕ) (xs : List LabelModel)
    → m ≤ fold (λ n (x : LabelModel). max n x.end) m xs
fold_max-le m [] = omega arith
fold_max-le m (x ∷ xs) = let more = fold_max-le (max m x.end) xs in omega arith

list_any-below : (m : ℕ) (p : LabelModel → Bool) (c : Metrics) (xs : List LabelModel)
    → ((x : LabelModel) → p x ≡ true → c.byte_index < x.end)
    → list_any p xs ≡ true → c.byte_index < fold (λ n (x : LabelModel). max n x.end) m xs
list_any-below m p c [] below h = cc
list_any-below m p c (x ∷ xs) below h =
    ⊎_elim
    (λ here. let low = below x here in let more = fold_max-le (max m x.end) xs in omega arith)
    (λ later. list_any-below (max m x.end) p c xs below later)
    (or_cases (p x) (list_any p xs) h)

-- a character with a style begins before the greatest end
pub style_under-below : (labels : List LabelModel) (c : Metrics) (style : LabelStyle)
    → style_under labels c ≡ Some style → c.byte_index < max_label_end labels
style_under-below labels c style h =
    by_primary (list_any (λ x. is_primary x && covers x c) labels) refl
  where
    by_any : (b : Bool) → list_any (λ x. covers x c) labels ≡ b
        → list_any (λ x. is_primary x && covers x c) labels ≡ false
        → c.byte_index < max_label_end labels
    by_any true any none = list_any-below 0 (λ x. covers x c) c labels (λ x. covers-below x c) any
    by_any false any none = cc

    by_primary : (b : Bool) → list_any (λ x. is_primary x && covers x c) labels ≡ b
        → c.byte_index < max_label_end labels
    by_primary true any =
        list_any-below 0 (λ x. is_primary x && covers x c) c labels
        (λ x both. covers-below x c (and_parts (is_primary x) (covers x c) both).1) any
    by_primary false none = by_any (list_any (λ x. covers x c) labels) refl none
