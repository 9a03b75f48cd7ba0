-- For `find_pointers`: prefixes and suffixes of labels in order are in order.
use Rattle.codespan_core.proofs.Std.{◌≡◌, ℕ, ◌≤◌, true, nat_le, List, [], ◌∷◌}
use Rattle.codespan_core.proofs.Std.{◌++◌, refl, ap, ◌∙◌, arith, and_parts, nat_tests}
use Rattle.std.proofs.Math.Logic.{∥∥₁_elim}
use Rattle.std.proofs.Props.{props}
use Rattle.codespan_core.specs.Labels.{LabelModel}
use Rattle.codespan_output.specs.Arguments.{SingleLabelTuple, single_label_views, starts_from}
use Rattle.codespan_output.specs.Arguments.{starts_in_order}
use Rattle.codespan_output.specs.Private.RowLabels.{ArePrefixAndSuffix}
use Rattle.codespan_renderer.proofs.LabelCursorSteps.{starts-lower}
use Rattle.codespan_output.proofs.Messages.Pieces.{whole}

front-ordered : (low : ℕ) (xs ys : List LabelModel) → starts_from low (xs ++ ys) ≡ true
    → starts_from low xs ≡ true
front-ordered low [] ys h = refl
front-ordered low (x ∷ xs) ys h =
    let parts = and_parts (nat_le low x.start) (starts_from x.start (xs ++ ys)) h in
    rw (parts.0, front-ordered x.start xs ys parts.1) refl

back-ordered : (low : ℕ) (xs ys : List LabelModel) → starts_from low (xs ++ ys) ≡ true
    → starts_from low ys ≡ true
back-ordered low [] ys h = h
back-ordered low (x ∷ xs) ys h =
    let parts = and_parts (nat_le low x.start) (starts_from x.start (xs ++ ys)) h in
    let far : low ≤ x.start = (let test = parts.0 in grind (arith, nat_tests)) in
    starts-lower ys low x.start far (back-ordered x.start xs ys parts.1)

-- the labels before the trailing one keep the order
pub before-ordered : (labels before after : List SingleLabelTuple)
    → ∥ ArePrefixAndSuffix labels before after ∥₁
    → starts_in_order (single_label_views labels) ≡ true
    → starts_in_order (single_label_views before) ≡ true
before-ordered labels before after slices h =
    ∥∥₁_elim slices (Prim.hlevel props) (λ p.
    front-ordered 0 (single_label_views before) (single_label_views p.rest)
    (ap starts_in_order (whole before p.rest labels p.begins) ∙ h))

-- so do those after it
pub after-ordered : (labels before after : List SingleLabelTuple)
    → ∥ ArePrefixAndSuffix labels before after ∥₁
    → starts_in_order (single_label_views labels) ≡ true
    → starts_in_order (single_label_views after) ≡ true
after-ordered labels before after slices h =
    ∥∥₁_elim slices (Prim.hlevel props) (λ p.
    back-ordered 0 (single_label_views p.skipped) (single_label_views after)
    (ap starts_in_order (whole p.skipped after labels p.ends) ∙ h))
