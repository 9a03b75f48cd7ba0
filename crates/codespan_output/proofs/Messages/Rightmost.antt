-- For `each_message_trails_or_hangs`: the last label with the greatest end, with the labels around
-- it.
use Rattle.codespan_core.proofs.Std.{◌≡◌, subst, ℕ, ◌+◌, Bool, true, false, not}
use Rattle.codespan_core.proofs.Std.{◌&&◌, ◌==◌, List, [], ◌∷◌, ◌++◌, length}
use Rattle.codespan_core.proofs.Std.{filter, Option, Some, None, if◌then◌else◌, cond, refl}
use Rattle.codespan_core.proofs.Std.{ap, ◌∙◌, arith, enumerate_from, remove, option_map}
use Rattle.codespan_core.proofs.Std.{option_map_or, map, sym}
use Rattle.std.specs.List.{last_or}
use Rattle.std.specs.Option.{option_and_then}
use Rattle.codespan_core.specs.Labels.{LabelModel, has_message}
use Rattle.codespan_output.specs.{max_label_end, trailing_label, hanging_labels, with_others}
use Rattle.codespan_output.specs.{trails}
use Rattle.codespan_output.specs.Private.{last_with_end, overlaps_any, does_trail}
use Rattle.codespan_output.specs.Private.{indexed_trailing_label}
use Rattle.codespan_output.proofs.Utf8.ListElements.{map-map}
use Rattle.codespan_output.proofs.Messages.Pass.{Around, others, behind, around_with_end}
use Rattle.codespan_output.proofs.Messages.Pass.{around_rightmost, around_trails, trailing_of}
use Rattle.codespan_output.proofs.Messages.Pass.{hanging_of, around_is, some_rightmost}

-- ---- the pass finds what the definitions say

-- the label with its index
abbrev pub entry_of : Around → ℕ × LabelModel
entry_of a = (length a.before, a.here)

-- the last label that passes, from an index on
last_from : (end : ℕ) (xs : List LabelModel) (n : ℕ) (o : Option (ℕ × LabelModel))
    → last_or o (filter (λ (e : ℕ × LabelModel). e.1.end == end) (enumerate_from n xs))
    ≡ option_map_or (λ (a : Around). Some (n + length a.before, a.here)) (around_with_end end xs)
    o
last_from end [] n o = refl
last_from end (x ∷ xs) n o =
    by_rest (around_with_end end xs) (x.end == end)
    (filter (λ (e : ℕ × LabelModel). e.1.end == end) (enumerate_from (n + 1) xs))
    (last_from end xs (n + 1))
  where
    by_rest : (rest : Option Around) (b : Bool) (later : List (ℕ × LabelModel))
        → ((p : Option (ℕ × LabelModel)) → last_or p later
        ≡ option_map_or (λ (a : Around). Some (n + 1 + length a.before, a.here)) rest p)
        → last_or o (cond b ((n, x) ∷ later) later)
        ≡ option_map_or (λ (a : Around). Some (n + length a.before, a.here))
        (behind x rest (if b then Some (record { before = []; here = x; after = xs }) else None)) o
    by_rest None true later again =
        let e : n ≡ n + 0 = omega arith in again (Some (n, x)) ∙ ap (λ k. Some (k, x)) e
    by_rest None false later again = again o
    by_rest (Some a) true later again =
        let e : n + 1 + length a.before ≡ n + length (x ∷ a.before) = omega arith in
        again (Some (n, x)) ∙ ap (λ k. Some (k, a.here)) e
    by_rest (Some a) false later again =
        let e : n + 1 + length a.before ≡ n + length (x ∷ a.before) = omega arith in
        again o ∙ ap (λ k. Some (k, a.here)) e

-- the last label with the end is the one that the pass finds
pub last_is : (end : ℕ) (xs : List LabelModel)
    → last_with_end end xs ≡ option_map entry_of (around_with_end end xs)
last_is end xs = last_from end xs 0 None ∙ by (around_with_end end xs)
  where
    by : (r : Option Around)
        → option_map_or (λ (a : Around). Some (0 + length a.before, a.here)) r None
        ≡ option_map
        entry_of r
    by None = refl
    by (Some a) = let e : 0 + length a.before ≡ length a.before = omega arith in
        ap (λ k. Some (k, a.here)) e

-- the list without the label is the others
remove-at : (before : List LabelModel) (x : LabelModel) (after : List LabelModel)
    → remove (before ++ (x ∷ after)) (length before) ≡ before ++ after
remove-at [] x after = refl
remove-at (y ∷ before) x after = ap (λ ys. y ∷ ys) (remove-at before x after)

pub without_is : (labels : List LabelModel) (a : Around)
    → a.before ++ (a.here ∷ a.after) ≡ labels
    → remove labels (length a.before) ≡ others a
without_is labels a whole =
    subst (λ xs. remove xs (length a.before) ≡ others a) whole
    (remove-at a.before a.here a.after)

-- it trails as the pass finds
trails_is : (labels : List LabelModel) (a : Around) → a.before ++ (a.here ∷ a.after) ≡ labels
    → does_trail labels (entry_of a) ≡ around_trails a
trails_is labels a whole =
    ap (λ xs. has_message a.here && not (overlaps_any a.here xs)) (without_is labels a whole)

-- the label whose message trails is the one that the pass finds
indexed_trailing_is : (labels : List LabelModel)
    → option_map (λ (e : ℕ × LabelModel). e.1) (indexed_trailing_label labels)
    ≡ trailing_of (around_rightmost labels)
indexed_trailing_is labels =
    ap (λ r. option_map (λ (e : ℕ × LabelModel). e.1) (option_and_then if_trails r))
    (last_is (max_label_end labels) labels)
    ∙ by_around (around_rightmost labels) refl
  where
    if_trails : ℕ × LabelModel → Option (ℕ × LabelModel)
    if_trails e = if does_trail labels e then Some e else None

    by_around : (r : Option Around) → around_rightmost labels ≡ r
        → option_map (λ (e : ℕ × LabelModel). e.1)
        (option_and_then if_trails (option_map entry_of r)) ≡ trailing_of r
    by_around None is = refl
    by_around (Some a) is =
        ap (λ b. option_map (λ (e : ℕ × LabelModel). e.1)
        (if b then Some (entry_of a) else None))
        (trails_is labels a (around_is (max_label_end labels) labels a is))
        ∙ by_test (around_trails a)
      where
        by_test : (b : Bool)
            → option_map (λ (e : ℕ × LabelModel). e.1) (if b then Some (entry_of a) else None)
            ≡ (if b then Some a.here else None)
        by_test true = refl
        by_test false = refl

-- where there is no last label with the greatest end there is no label
nothing : (xs : List LabelModel) → around_rightmost xs ≡ None → filter has_message xs ≡ []
nothing [] is = refl
nothing (x ∷ xs) is = absurd (some_rightmost x xs is)

-- the labels whose messages hang are those that the pass finds
indexed_hanging_is : (labels : List LabelModel)
    → filter has_message
    (option_map_or (λ (e : ℕ × LabelModel). remove labels e.0) (indexed_trailing_label labels)
    labels)
    ≡ hanging_of labels (around_rightmost labels)
indexed_hanging_is labels =
    ap (λ r. filter has_message (option_map_or without (option_and_then if_trails r) labels))
    (last_is (max_label_end labels) labels)
    ∙ by_around (around_rightmost labels) refl
  where
    without : ℕ × LabelModel → List LabelModel
    without e = remove labels e.0

    if_trails : ℕ × LabelModel → Option (ℕ × LabelModel)
    if_trails e = if does_trail labels e then Some e else None

    by_around : (r : Option Around) → around_rightmost labels ≡ r
        → filter has_message
        (option_map_or without (option_and_then if_trails (option_map entry_of r)) labels)
        ≡ hanging_of labels r
    by_around None is = nothing labels is
    by_around (Some a) is =
        let whole = around_is (max_label_end labels) labels a is in
        ap (λ b. filter has_message (option_map_or without (if b then Some (entry_of a) else None)
        labels)) (trails_is labels a whole)
        ∙ by_test whole (around_trails a)
      where
        by_test : a.before ++ (a.here ∷ a.after) ≡ labels → (b : Bool)
            → filter has_message
            (option_map_or without (if b then Some (entry_of a) else None) labels)
            ≡ filter has_message (if b then others a else labels)
        by_test whole true = ap (filter has_message) (without_is labels a whole)
        by_test whole false = refl

-- ---- the pass finds what the definitions say with the others in place of indices

-- a label with the others
abbrev among : Around → LabelModel × List LabelModel
among a = (a.here, others a)

-- the last label with the end, where each has these others
last_among : (end : ℕ) (grow : List LabelModel → List LabelModel) (xs : List LabelModel)
    (o : Option (LabelModel × List LabelModel))
    → last_or o
    (filter (λ (e : LabelModel × List LabelModel). e.0.end == end)
    (map (λ (e : LabelModel × List LabelModel). (e.0, grow e.1)) (with_others xs)))
    ≡ option_map_or (λ (a : Around). Some (a.here, grow (others a))) (around_with_end end xs) o
last_among end grow [] o = refl
last_among end grow (x ∷ xs) o =
    ap
    (λ (es : List (LabelModel × List LabelModel)). last_or o
    (filter (λ (e : LabelModel × List LabelModel). e.0.end == end) ((x, grow xs) ∷ es)))
    (map-map (λ (e : LabelModel × List LabelModel). (e.0, grow e.1))
    (λ (e : LabelModel × List LabelModel). (e.0, x ∷ e.1)) (with_others xs))
    ∙ by_rest (around_with_end end xs) (x.end == end) later
    (last_among end (λ ys. grow (x ∷ ys)) xs)
  where
    later : List (LabelModel × List LabelModel)
    later =
        filter (λ (e : LabelModel × List LabelModel). e.0.end == end)
        (map (λ (e : LabelModel × List LabelModel). (e.0, grow (x ∷ e.1))) (with_others xs))

    by_rest : (rest : Option Around) (b : Bool) (es : List (LabelModel × List LabelModel))
        → ((q : Option (LabelModel × List LabelModel)) → last_or q es
        ≡ option_map_or (λ (a : Around). Some (a.here, grow (x ∷ others a))) rest q)
        → last_or o (cond b ((x, grow xs) ∷ es) es)
        ≡ option_map_or (λ (a : Around). Some (a.here, grow (others a)))
        (behind x rest (if b then Some (record { before = []; here = x; after = xs }) else None)) o
    by_rest None true es again = again (Some (x, grow xs))
    by_rest None false es again = again o
    by_rest (Some a) true es again = again (Some (x, grow xs))
    by_rest (Some a) false es again = again o

last_with_others : (end : ℕ) (xs : List LabelModel)
    → last_or None
    (filter (λ (e : LabelModel × List LabelModel). e.0.end == end) (with_others xs))
    ≡ option_map among (around_with_end end xs)
last_with_others end xs =
    ap
    (λ (es : List (LabelModel × List LabelModel)). last_or None
    (filter (λ (e : LabelModel × List LabelModel). e.0.end == end) es))
    (sym (same (with_others xs)))
    ∙ last_among end (λ ys. ys) xs None ∙ by (around_with_end end xs)
  where
    same : (es : List (LabelModel × List LabelModel))
        → map (λ (e : LabelModel × List LabelModel). (e.0, e.1)) es ≡ es
    same [] = refl
    same (e ∷ es) = ap (λ fs. e ∷ fs) (same es)

    by : (r : Option Around)
        → option_map_or (λ (a : Around). Some (a.here, others a)) r None ≡ option_map among r
    by None = refl
    by (Some a) = refl

-- the label whose message trails is the one that the pass finds
pub trailing_is : (labels : List LabelModel)
    → trailing_label labels ≡ trailing_of (around_rightmost labels)
trailing_is labels =
    ap (λ r. option_map (λ (e : LabelModel × List LabelModel). e.0)
    (option_and_then (λ e. if trails e then Some e else None) r))
    (last_with_others (max_label_end labels) labels)
    ∙ by (around_rightmost labels)
  where
    by_test : (a : Around) (b : Bool)
        → option_map (λ (e : LabelModel × List LabelModel). e.0)
        (if b then Some (among a) else None)
        ≡ (if b then Some a.here else None)
    by_test a true = refl
    by_test a false = refl

    by : (r : Option Around)
        → option_map (λ (e : LabelModel × List LabelModel). e.0)
        (option_and_then (λ e. if trails e then Some e else None) (option_map among r))
        ≡ trailing_of r
    by None = refl
    by (Some a) = by_test a (around_trails a)

-- the labels whose messages hang are those that the pass finds
pub hanging_is : (labels : List LabelModel)
    → hanging_labels labels ≡ hanging_of labels (around_rightmost labels)
hanging_is labels =
    ap (λ r. filter has_message
    (option_map_or (λ (e : LabelModel × List LabelModel). e.1)
    (option_and_then (λ e. if trails e then Some e else None) r) labels))
    (last_with_others (max_label_end labels) labels)
    ∙ by (around_rightmost labels) refl
  where
    by_test : (a : Around) (b : Bool)
        → filter has_message
        (option_map_or (λ (e : LabelModel × List LabelModel). e.1)
        (if b then Some (among a) else None) labels)
        ≡ filter has_message (if b then others a else labels)
    by_test a true = refl
    by_test a false = refl

    by : (r : Option Around) → around_rightmost labels ≡ r
        → filter has_message
        (option_map_or (λ (e : LabelModel × List LabelModel). e.1)
        (option_and_then (λ e. if trails e then Some e else None) (option_map among r)) labels)
        ≡ hanging_of labels r
    by None is = nothing labels is
    by (Some a) is = by_test a (around_trails a)

-- ---- so the definitions say what those by indices say

pub trailing-indexed : (labels : List LabelModel)
    → trailing_label labels
    ≡ option_map (λ (e : ℕ × LabelModel). e.1) (indexed_trailing_label labels)
trailing-indexed labels = trailing_is labels ∙ sym (indexed_trailing_is labels)

pub hanging-indexed : (labels : List LabelModel)
    → hanging_labels labels
    ≡ filter has_message
    (option_map_or (λ (e : ℕ × LabelModel). remove labels e.0) (indexed_trailing_label labels)
    labels)
hanging-indexed labels = hanging_is labels ∙ sym (indexed_hanging_is labels)
