-- For `each_message_trails_or_hangs`: the last label with the greatest end, by one pass.
use Rattle.codespan_core.proofs.Std.{◌≡◌, ◌≢◌, subst, ℕ, max, Bool, true}
use Rattle.codespan_core.proofs.Std.{false, not, ◌&&◌, ◌==◌, List, [], ◌∷◌, ◌++◌}
use Rattle.codespan_core.proofs.Std.{filter, fold, Option, Some, None, if◌then◌else◌, refl}
use Rattle.codespan_core.proofs.Std.{ap, arith, nat_tests}
use Rattle.codespan_core.specs.Labels.{LabelModel, has_message}
use Rattle.codespan_output.specs.{max_label_end}
use Rattle.codespan_output.specs.Private.{overlaps_any}

-- ---- trailing and hanging labels, by a pass over the list

-- a label among those around it
pub record Around : Type 0 where
  pub before : List LabelModel
  pub here : LabelModel
  pub after : List LabelModel

-- the labels around it
abbrev pub others : Around → List LabelModel
others a = a.before ++ a.after

-- a label that is found later in the list is preferred
abbrev pub behind : LabelModel → Option Around → Option Around → Option Around
behind x (Some a) otherwise = Some (record a { before = x ∷ a.before })
behind x None otherwise = otherwise

-- the last label with this end, with those around it
abbrev pub around_with_end : ℕ → List LabelModel → Option Around
around_with_end end [] = None
around_with_end end (x ∷ xs) =
    behind x (around_with_end end xs)
    (if x.end == end then Some (record { before = []; here = x; after = xs }) else None)

-- the last label with the greatest end
abbrev pub around_rightmost : List LabelModel → Option Around
around_rightmost labels = around_with_end (max_label_end labels) labels

-- its message trails
abbrev pub around_trails : Around → Bool
around_trails a = has_message a.here && not (overlaps_any a.here (others a))

-- the label whose message trails, if it does
abbrev pub trailing_of : Option Around → Option LabelModel
trailing_of None = None
trailing_of (Some a) = if around_trails a then Some a.here else None

-- the labels whose messages hang
abbrev pub hanging_of : List LabelModel → Option Around → List LabelModel
hanging_of labels None = []
hanging_of labels (Some a) = filter has_message (if around_trails a then others a else labels)

-- ---- the last label with the greatest end

-- the list, from what is around the label
pub around_is : (end : ℕ) (xs : List LabelModel) (a : Around)
    → around_with_end end xs ≡ Some a
    → a.before ++ (a.here ∷ a.after) ≡ xs
around_is end [] a h = cc
around_is end (x ∷ xs) a h = by_rest (around_is end xs) (around_with_end end xs) refl h
  where
    by_end : (b : Bool)
        → (if b then Some (record { before = []; here = x; after = xs }) else None) ≡ Some a
        → a.before ++ (a.here ∷ a.after) ≡ x ∷ xs
    by_end true h = cc
    by_end false h = cc

    by_rest : ((b : Around) → around_with_end end xs ≡ Some b
        → b.before ++ (b.here ∷ b.after) ≡ xs)
        → (rest : Option Around) → around_with_end end xs ≡ rest
        → behind x rest
        (if x.end == end then Some (record { before = []; here = x; after = xs }) else None)
        ≡ Some a
        → a.before ++ (a.here ∷ a.after) ≡ x ∷ xs
    by_rest again None is h = by_end (x.end == end) h
    by_rest again (Some b) is h =
        let e : record b { before = x ∷ b.before } ≡ a = cc in
        subst (λ (y : Around). y.before ++ (y.here ∷ y.after) ≡ x ∷ xs) e
        (ap (λ ys. x ∷ ys) (again b is))

no_end : (end : ℕ) (x : LabelModel) (xs : List LabelModel)
    → around_with_end end (x ∷ xs) ≡ None
    → (around_with_end end xs ≡ None) × ((x.end == end) ≡ false)
no_end end x xs h = by_rest (around_with_end end xs) (x.end == end) refl refl h
  where
    by_rest : (rest : Option Around) (b : Bool) → around_with_end end xs ≡ rest
        → (x.end == end) ≡ b
        → behind x rest
        (if b then Some (record { before = []; here = x; after = xs }) else None) ≡ None
        → (around_with_end end xs ≡ None) × ((x.end == end) ≡ false)
    by_rest None true is same h = cc
    by_rest None false is same h = (is, same)
    by_rest (Some a) b is same h = cc

-- where no label has the greatest of the ends and `m`, that is `m`
greatest_none : (m : ℕ) (xs : List LabelModel)
    → around_with_end (fold (λ n (x : LabelModel). max n x.end) m xs) xs ≡ None
    → fold (λ n (x : LabelModel). max n x.end) m xs ≡ m
greatest_none m [] h = refl
greatest_none m (x ∷ xs) h =
    let parts = no_end (fold (λ n (y : LabelModel). max n y.end) (max m x.end) xs) x xs h in
    let same = greatest_none (max m x.end) xs parts.0 in
    let other : x.end ≢ fold (λ n (y : LabelModel). max n y.end) (max m x.end) xs =
    (λ e. grind (arith, nat_tests, parts.1)) in
    omega (arith, same, other)

-- some label has the greatest end
pub some_rightmost : (x : LabelModel) (xs : List LabelModel)
    → around_rightmost (x ∷ xs) ≡ None → ⊥
some_rightmost x xs h =
    let parts = no_end (fold (λ n (y : LabelModel). max n y.end) (max 0 x.end) xs) x xs h in
    let same = greatest_none (max 0 x.end) xs parts.0 in
    let end_is : x.end ≡ fold (λ n (y : LabelModel). max n y.end) (max 0 x.end) xs =
    omega (arith, same) in
    grind (arith, nat_tests, parts.1)
