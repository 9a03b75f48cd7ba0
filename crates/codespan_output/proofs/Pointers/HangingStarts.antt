-- For `pointers_are_cells` and the pointer rows: where hanging labels start. They are labels of the
-- line.
use Rattle.codespan_core.proofs.Std.{◌≡◌, ℕ, ◌≤◌, max, Bool, true, false, ◌||◌}
use Rattle.codespan_core.proofs.Std.{cond, List, [], ◌∷◌, ◌++◌, filter, fold, Option}
use Rattle.codespan_core.proofs.Std.{Some, None, refl, sym, ap, subst, ◌∙◌, arith, ⊎_elim}
use Rattle.codespan_core.proofs.Std.{if◌then◌else◌, list_any, or_cases, nat_tests}
use Rattle.codespan_core.proofs.Std.{list_any-append}
use Rattle.std.proofs.lemmas.Bool.{or_left, or_right}
use Rattle.codespan_core.specs.Labels.{LabelModel, has_message}
use Rattle.codespan_output.specs.Types.{Metrics}
use Rattle.codespan_output.specs.{max_label_end, hanging_labels, starts_in}
use Rattle.codespan_output.proofs.Messages.Pass.{Around, others, around_rightmost, around_trails}
use Rattle.codespan_output.proofs.Messages.Pass.{hanging_of, around_is}
use Rattle.codespan_output.proofs.Messages.Rightmost.{hanging_is}

-- where a label that a filter keeps passes a test, a label of the list does
pub any-filter : (p q : LabelModel → Bool) (xs : List LabelModel)
    → list_any p (filter q xs) ≡ true
    → list_any p xs ≡ true
any-filter p q [] h = cc
any-filter p q (x ∷ xs) h = by_test (any-filter p q xs) (q x) h
  where
    by_test : (list_any p (filter q xs) ≡ true → list_any p xs ≡ true) → (b : Bool)
        → list_any p (cond b (x ∷ filter q xs) (filter q xs)) ≡ true
        → (p x || list_any p xs) ≡ true
    by_test again true h =
        ⊎_elim (λ here. or_left (p x) (list_any p xs) here)
        (λ later. or_right (p x) (list_any p xs) (again later))
        (or_cases (p x) (list_any p (filter q xs)) h)
    by_test again false h = or_right (p x) (list_any p xs) (again h)

any-others : (p : LabelModel → Bool) (a : Around) → list_any p (others a) ≡ true
    → list_any p (a.before ++ (a.here ∷ a.after)) ≡ true
any-others p a h =
    list_any-append p a.before (a.here ∷ a.after)
    ∙ ⊎_elim (λ early. or_left (list_any p a.before) (p a.here || list_any p a.after) early)
    (λ late. or_right (list_any p a.before) (p a.here || list_any p a.after)
    (or_right (p a.here) (list_any p a.after) late))
    (or_cases (list_any p a.before) (list_any p a.after)
    (sym (list_any-append p a.before a.after) ∙ h))

pub any-hanging_labels : (p : LabelModel → Bool) (labels : List LabelModel)
    → list_any p (hanging_labels labels) ≡ true → list_any p labels ≡ true
any-hanging_labels p labels h =
    by_rightmost (around_rightmost labels) refl (ap (list_any p) (sym (hanging_is labels)) ∙ h)
  where
    by_trail : (a : Around) → a.before ++ (a.here ∷ a.after) ≡ labels → (b : Bool)
        → list_any p (filter has_message (if b then others a else labels)) ≡ true
        → list_any p labels ≡ true
    by_trail a whole true h =
        subst (λ xs. list_any p xs ≡ true) whole
        (any-others p a (any-filter p has_message (others a) h))
    by_trail a whole false h = any-filter p has_message labels h

    by_rightmost : (r : Option Around) → around_rightmost labels ≡ r
        → list_any p (hanging_of labels r) ≡ true → list_any p labels ≡ true
    by_rightmost None is h = cc
    by_rightmost (Some a) is h =
        by_trail a (around_is (max_label_end labels) labels a is) (around_trails a) h

pub fold_start-le : (m : ℕ) (xs : List LabelModel)
    → m ≤ fold (λ n (x : LabelModel). max n x.start) m xs
fold_start-le m [] = omega arith
fold_start-le m (x ∷ xs) = let more = fold_start-le (max m x.start) xs in omega arith

pub any-below : (m v : ℕ) (p : LabelModel → Bool) (xs : List LabelModel)
    → ((x : LabelModel) → p x ≡ true → v ≤ x.start) → list_any p xs ≡ true
    → v ≤ fold (λ n (x : LabelModel). max n x.start) m xs
any-below m v p [] below h = cc
any-below m v p (x ∷ xs) below h =
    ⊎_elim
    (λ here. let low = below x here in let more = fold_start-le (max m x.start) xs in omega arith)
    (λ later. any-below (max m x.start) v p xs below later)
    (or_cases (p x) (list_any p xs) h)

pub starts_in-low : (c : Metrics) (x : LabelModel) → starts_in c x ≡ true
    → c.byte_index ≤ x.start
starts_in-low c x h = grind (arith, nat_tests)
