-- For `reordering_changes_nothing`: two orders of a file's labels that its snippet shows alike have
-- the same labels.
use Rattle.std.proofs.Common.{◌≡◌, ℕ, min, Bool, true, false, not, ◌==◌, ◌&&◌}
use Rattle.std.proofs.Common.{◌||◌, nat_le, cond, List, [], ◌∷◌, map, filter, fold}
use Rattle.std.proofs.Common.{reverse, ⊎_elim, refl, sym, ap, ◌∙◌, arith}
use Rattle.std.specs.List.{list_any}
use Rattle.std.proofs.Math.Bool.{or-false, or_assoc}
use Rattle.std.proofs.lemmas.Bool.{cases_Bool, eq-eqb, or_right}
use Rattle.std.proofs.lemmas.Bool.Decides.{nat_tests}
use Rattle.codespan_base.specs.FileModel.{FileModel}
use Rattle.codespan_base.specs.Labels.{LabelModel, is_primary, is_single, first_line, drawn_label}
use Rattle.codespan_base.specs.Labels.{multi_line_labels, single_labels}
use Rattle.codespan_output.specs.Snippets.{least, if_any, locus_byte_of}
use Rattle.codespan_laws.specs.OrderLaws.{has_drawn_range}
use Rattle.codespan_output.proofs.Order.OrderSorts.{has_range, sorted-same}
use Rattle.codespan_output.proofs.Pointers.HangingStarts.{any-filter}
use Rattle.codespan_output.proofs.Slots.RefilledLabels.{any-map, filter-map}
use Rattle.codespan_output.proofs.Utf8.ListElements.{any-filtered, filter-filter}
use Rattle.codespan_output.proofs.Order.SortedFilters.{filter-reverse}

-- ---- the orders of one file

-- the label is inside the line and has this drawn range there
abbrev pub is_inside : FileModel → ℕ → ℕ → ℕ → LabelModel → Bool
is_inside f l start end x = is_single f x && (first_line f x == l) && has_drawn_range f start end x

-- the orders of a file's labels that its snippet shows
pub record AreEqual (f : FileModel) (xs ys : List LabelModel) : Type 0 where
  pub multi_line : multi_line_labels f xs ≡ multi_line_labels f ys
  pub single_line : (l start end : ℕ)
      → filter (is_inside f l start end) xs ≡ filter (is_inside f l start end) ys

-- ---- the same labels

-- a label of the list that passes a test, and that is kept by each filter whose test it passes
record Witness (p : LabelModel → Bool) (xs : List LabelModel) : Type 0 where
  label : LabelModel
  passes : p label ≡ true
  stays : (q : LabelModel → Bool) → q label ≡ true → list_any p (filter q xs) ≡ true

-- there is such a label where some label passes
some_passes : (p : LabelModel → Bool) (xs : List LabelModel) → list_any p xs ≡ true
    → Witness p xs
some_passes p [] h = cc
some_passes p (x ∷ xs) h = by_test (some_passes p xs) (p x) refl h
  where
    later : (q : LabelModel → Bool) (b : Bool) → list_any p (filter q xs) ≡ true
        → list_any p (cond b (x ∷ filter q xs) (filter q xs)) ≡ true
    later q true h = or_right (p x) _ h
    later q false h = h

    by_test : (list_any p xs ≡ true → Witness p xs) → (b : Bool) → p x ≡ b
        → (b || list_any p xs) ≡ true → Witness p (x ∷ xs)
    by_test again true t h = record { label = x; passes = t; stays = λ q k. rw (k, t) refl }
    by_test again false t h = let w = again h in
        record { label = w.label; passes = w.passes; stays = λ q k. later q (q x) (w.stays q k) }

-- each test passes on both lists or on neither
abbrev pub SameTests : List LabelModel → List LabelModel → Type 0
SameTests xs ys = (p : LabelModel → Bool) → list_any p xs ≡ list_any p ys

-- a single-line label is inside its line with its drawn range
inside : (f : FileModel) (x : LabelModel) → is_single f x ≡ true
    → is_inside f (first_line f x) (drawn_label f x).start (drawn_label f x).end x ≡ true
inside f x h =
    rw (
      h,
      eq-eqb (first_line f x) (first_line f x) refl,
      eq-eqb (drawn_label f x).start (drawn_label f x).start refl,
      eq-eqb (drawn_label f x).end (drawn_label f x).end refl,
    )
    refl

-- a test that a label of the one list passes a label of the other passes
passes-equal : (f : FileModel) (xs ys : List LabelModel) → AreEqual f xs ys
    → (p : LabelModel → Bool) → list_any p xs ≡ true → list_any p ys ≡ true
passes-equal f xs ys equal p h =
    let w = some_passes p xs h in
    ⊎_elim
    (λ (t : is_single f w.label ≡ true).
    let q = is_inside f (first_line f w.label) (drawn_label f w.label).start
    (drawn_label f w.label).end in
    any-filter p q ys
    (ap (list_any p)
    (sym
    (equal.single_line (first_line f w.label) (drawn_label f w.label).start
    (drawn_label f w.label).end))
    ∙ w.stays q (inside f w.label t)))
    (λ (t : is_single f w.label ≡ false).
    any-filter p (λ x. not (is_single f x)) ys
    (ap (list_any p) (sym equal.multi_line) ∙ w.stays (λ x. not (is_single f x)) (ap not t)))
    (cases_Bool (is_single f w.label))

-- the other list shows the same orders
equal-sym : (f : FileModel) (xs ys : List LabelModel) → AreEqual f xs ys → AreEqual f ys xs
equal-sym f xs ys equal =
    record {
      multi_line =
          sym equal.multi_line;
      single_line = λ l start end. sym (equal.single_line l start end);
    }

-- the lists pass the same tests
pub same-tests : (f : FileModel) (xs ys : List LabelModel) → AreEqual f xs ys → SameTests xs ys
same-tests f xs ys equal p =
    by_tests (list_any p xs) (list_any p ys) (passes-equal f xs ys equal p)
    (passes-equal f ys xs (equal-sym f xs ys equal) p)
  where
    by_tests : (b c : Bool) → (b ≡ true → c ≡ true) → (c ≡ true → b ≡ true)
        → b ≡ c
    by_tests true c there back = sym (there refl)
    by_tests false true there back = back refl
    by_tests false false there back = refl

-- ---- the least start

-- the labels that pass a test are the same too
filter-tests : (xs ys : List LabelModel) (q : LabelModel → Bool) → SameTests xs ys
    → SameTests (filter q xs) (filter q ys)
filter-tests xs ys q same p =
    any-filtered p q xs ∙ same (λ x. q x && p x) ∙ sym (any-filtered p q ys)

-- and so are those instead of an empty list
if_any-tests : (xs ys us vs : List LabelModel) → SameTests xs ys → SameTests us vs
    → SameTests (if_any xs us) (if_any ys vs)
if_any-tests [] [] us vs same others = others
if_any-tests [] (y ∷ ys) us vs same others = let e = same (λ _. true) in cc
if_any-tests (x ∷ xs) [] us vs same others = let e = same (λ _. true) in cc
if_any-tests (x ∷ xs) (y ∷ ys) us vs same others = same

-- the lesser of two is at most a number where one of them is
min-le : (a b k : ℕ) → nat_le (min a b) k ≡ (nat_le a k || nat_le b k)
min-le a b k = grind (arith, nat_tests)

-- the least is at most a number where some number is
least-test : (k n : ℕ) (ns : List ℕ)
    → nat_le (fold min n ns) k ≡ (nat_le n k || list_any (λ m. nat_le m k) ns)
least-test k n [] = sym (or-false (nat_le n k))
least-test k n (m ∷ ns) =
    least-test k (min n m) ns ∙ ap (λ b. b || list_any (λ i. nat_le i k) ns) (min-le n m k)
    ∙ or_assoc (nat_le n k) (nat_le m k) (list_any (λ i. nat_le i k) ns)

-- numbers are equal that are at most the same numbers
same-number : (a b : ℕ) → ((k : ℕ) → nat_le a k ≡ nat_le b k) → a ≡ b
same-number a b h =
    let e = h a in
    let g = h b in
    grind (arith, nat_tests)

-- the least start of the same labels
least-same : (xs ys : List LabelModel) → SameTests xs ys
    → least (map (λ (x : LabelModel). x.start) xs)
    ≡ least (map (λ (x : LabelModel). x.start) ys)
least-same [] [] same = refl
least-same [] (y ∷ ys) same = let e = same (λ _. true) in cc
least-same (x ∷ xs) [] same = let e = same (λ _. true) in cc
least-same (x ∷ xs) (y ∷ ys) same =
    same-number (least (starts (x ∷ xs))) (least (starts (y ∷ ys)))
    (λ k. at_most k x xs ∙ same (λ z. nat_le z.start k) ∙ sym (at_most k y ys))
  where
    starts : List LabelModel → List ℕ
    starts = map (λ (z : LabelModel). z.start)

    at_most : (k : ℕ) (z : LabelModel) (zs : List LabelModel)
        → nat_le (least (starts (z ∷ zs))) k
        ≡ list_any (λ (w : LabelModel). nat_le w.start k)
        (z ∷ zs)
    at_most k z zs =
        least-test k z.start (starts zs)
        ∙ ap (λ b. nat_le z.start k || b)
        (any-map (λ n. nat_le n k) (λ (w : LabelModel). w.start) zs)

-- the byte of a file's locus depends only on which labels there are
pub locus-same : (xs ys : List LabelModel) → SameTests xs ys
    → locus_byte_of xs ≡ locus_byte_of ys
locus-same xs ys same =
    least-same (if_any (filter is_primary xs) xs) (if_any (filter is_primary ys) ys)
    (if_any-tests (filter is_primary xs) (filter is_primary ys) xs ys
    (filter-tests xs ys is_primary same) same)

-- ---- the labels of a line

-- the labels of a line with one drawn range
line_range : (f : FileModel) (xs : List LabelModel) (l start end : ℕ)
    → filter (has_range start end)
    (reverse (map (drawn_label f) (filter (λ x. is_single f x && (first_line f x == l)) xs)))
    ≡ reverse (map (drawn_label f) (filter (is_inside f l start end) xs))
line_range f xs l start end =
    let on_line = λ (x : LabelModel). is_single f x && (first_line f x == l) in
    filter-reverse (has_range start end) (map (drawn_label f) (filter on_line xs))
    ∙ ap reverse (filter-map (has_range start end) (drawn_label f) (filter on_line xs))
    ∙ ap (λ ys. reverse (map (drawn_label f) ys))
    (filter-filter (has_drawn_range f start end) on_line xs)

-- the labels of a line are in the same order
pub singles-same : (f : FileModel) (xs ys : List LabelModel) → AreEqual f xs ys → (l : ℕ)
    → single_labels f xs l ≡ single_labels f ys l
singles-same f xs ys equal l = sorted-same _ _
    (λ start end. line_range f xs l start end
    ∙ ap (λ zs. reverse (map (drawn_label f) zs)) (equal.single_line l start end)
    ∙ sym (line_range f ys l start end))
