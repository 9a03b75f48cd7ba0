-- The single-line labels of a line, in the order of their ranges and their starts, for the clauses
-- of `render_snippets` and `RichDiagnostic::render`.
use Rattle.codespan_core.proofs.Std.{◌≡◌, ℕ, ◌≤◌, false, true, List, [], ◌∷◌}
use Rattle.codespan_core.proofs.Std.{refl, arith, AllByRecursion, nat_tests, common_steps, sym}
use Rattle.codespan_core.proofs.Std.{◌∙◌, cons_option}
use Rattle.codespan_core.specs.Labels.{LabelModel, range_precedes}
use Rattle.codespan_output.specs.Arguments.{starts_from, starts_in_order}
use Rattle.codespan_output.proofs.Order.OrderSorts.{Ascends}
use Rattle.codespan_output.proofs.Utf8.ListElements.{all-weaker}
use Rattle.codespan_views.specs.Private.{Annotation, AnnotationKind, Shown, Single, Multi}
use Rattle.codespan_views.specs.Private.{is_before, single_label_of, single_labels_in}
use Rattle.codespan_output.proofs.Order.SortedLists.{Rises}
use Rattle.codespan_views.proofs.Annotations.Order.{range_rises}

-- ---- labels by their ranges

later-start : (x z : LabelModel) → range_precedes z x ≡ false → x.start ≤ z.start
later-start x z h = grind (arith, nat_tests)

starts-from : (low : ℕ) (xs : List LabelModel)
    → AllByRecursion (λ (z : LabelModel). low ≤ z.start) xs → Ascends xs
    → starts_from low xs ≡ true
starts-from low [] far up = refl
starts-from low (x ∷ xs) far up = grind
    (arith, common_steps, nat_tests, later-start, all-weaker, starts-from x.start xs)

from-zero : (xs : List LabelModel) → AllByRecursion (λ (z : LabelModel). 0 ≤ z.start) xs
from-zero [] = tt
from-zero (x ∷ xs) = grind (arith, common_steps, from-zero xs)

-- labels in the order of their ranges are in that of their starts
pub ascends-starts : (xs : List LabelModel) → Ascends xs → starts_in_order xs ≡ true
ascends-starts xs up = starts-from 0 xs (from-zero xs) up

-- the annotation is of this line of this file
abbrev pub IsOn : ℕ → ℕ → Annotation → Type 0
IsOn f l e = (e.file_index ≡ f) × (e.line ≡ l)

-- the labels inside a line, of annotations in order, are in the order of their ranges
pub single_labels-ascend : (f l : ℕ) (es : List Annotation) → AllByRecursion (IsOn f l) es
    → Rises is_before es → Ascends (single_labels_in es)
single_labels-ascend f l [] on up = tt
single_labels-ascend f l (x ∷ xs) on up =
    by_kind x.kind refl (single_labels-ascend f l xs on.1 up.1)
  where
    later : (p : ℕ) (a : LabelModel) → x.kind ≡ Single p a → (ys : List Annotation)
        → AllByRecursion (IsOn f l) ys → AllByRecursion (λ y. is_before y x ≡ false) ys
        → AllByRecursion (λ b. range_precedes b a ≡ false) (single_labels_in ys)
    later p a e [] k h = tt
    later p a e (y ∷ ys) k h = by_other y.kind refl (later p a e ys k.1 h.1)
      where
        by_other : (s : AnnotationKind) → y.kind ≡ s
            → AllByRecursion (λ b. range_precedes b a ≡ false) (single_labels_in ys)
            → AllByRecursion (λ b. range_precedes b a ≡ false)
            (cons_option (single_label_of s) (single_labels_in ys))
        by_other Shown d rest = rest
        by_other (Multi m) d rest = rest
        by_other (Single q b) d rest = (
          range_rises x y e d (on.0.0 ∙ sym k.0.0) (on.0.1 ∙ sym k.0.1) h.0,
          rest,
        )

    by_kind : (s : AnnotationKind) → x.kind ≡ s → Ascends (single_labels_in xs)
        → Ascends (cons_option (single_label_of s) (single_labels_in xs))
    by_kind Shown e rest = rest
    by_kind (Multi m) e rest = rest
    by_kind (Single p a) e rest = (later p a e xs on.1 up.0, rest)
