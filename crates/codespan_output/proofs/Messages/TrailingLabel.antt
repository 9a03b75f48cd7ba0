-- For `Messages::of`: which label's message trails.
use Rattle.codespan_core.proofs.Std.{◌||◌, ◌≡◌, ℕ, zero, suc, ◌+◌, ◌<◌, Bool}
use Rattle.codespan_core.proofs.Std.{true, false, cond, ◌==◌, ◌&&◌, List, [], ◌∷◌}
use Rattle.codespan_core.proofs.Std.{◌++◌, length, get_or, take, drop, filter, Option, Some}
use Rattle.codespan_core.proofs.Std.{None, refl, sym, ap, subst, ◌∙◌, arith, drop-cons}
use Rattle.codespan_core.proofs.Std.{add-one, not, list_any, enumerate_from, remove, take-map}
use Rattle.codespan_core.proofs.Std.{drop-map, option_map, option_map_or, eq-eqb, ne_eqb}
use Rattle.codespan_core.proofs.Std.{list_any-append}
use Rattle.std.specs.List.{last_or}
use Rattle.std.proofs.lemmas.Option.{slice_get-get_or}
use Rattle.codespan_core.specs.Labels.{LabelModel, has_message, is_empty}
use Rattle.codespan_core.specs.Streams.{byte_stream}
use Rattle.codespan_output.specs.{SingleLabelTuple, single_label_view, single_label_views}
use Rattle.codespan_output.specs.Private.{indexed_label_view, last_with_end, overlaps_any}
use Rattle.codespan_output.specs.Private.{does_trail}

-- a text is empty as a stream where it is empty
pub is_empty_bytes : (text : List ℕ) → is_empty (byte_stream text) ≡ (length text == 0)
unfolding byte_stream
is_empty_bytes [] = refl
is_empty_bytes (b ∷ bs) = sym (ne_eqb (length (b ∷ bs)) 0 (λ e. omega arith))

-- one of the labels from here on has a message where this one or a later one has
pub any_from : (xs : List SingleLabelTuple) (i : ℕ) (d : SingleLabelTuple) (empty : Bool)
    → i < length xs → empty ≡ (length (get_or xs i d).2.now == 0)
    → list_any has_message
    (single_label_views (drop i xs))
    ≡ (not empty || list_any has_message (single_label_views (drop (i + 1) xs)))
any_from xs i d empty h e = rw (drop-cons xs i d h, e, is_empty_bytes, add-one) refl

-- ---- the label whose message trails

-- none of the labels ends there
abbrev pub NoneEnds : ℕ → List SingleLabelTuple → Type 0
NoneEnds end xs = list_any (λ (x : LabelModel). x.end == end) (single_label_views xs) ≡ false

-- where no label ends there, there is no last one
last_none : (end : ℕ) (xs : List SingleLabelTuple) (n : ℕ) (o : Option (ℕ × LabelModel))
    → NoneEnds end xs
    → last_or o
    (filter (λ (e : ℕ × LabelModel). e.1.end == end) (enumerate_from n (single_label_views xs)))
    ≡ o
last_none end [] n o none = refl
last_none end (x ∷ xs) n o none = by_test (last_none end xs (n + 1) o) (x.1.end == end) refl none
  where
    later : List (ℕ × LabelModel)
    later =
        filter (λ (e : ℕ × LabelModel). e.1.end == end)
        (enumerate_from (n + 1) (single_label_views xs))

    by_test : (NoneEnds end xs → last_or o later ≡ o) → (b : Bool) → (x.1.end == end) ≡ b
        → (b || list_any (λ (y : LabelModel). y.end == end) (single_label_views xs)) ≡ false
        → last_or o (cond b ((n, single_label_view x) ∷ later) later) ≡ o
    by_test again true is k = cc
    by_test again false is k = again k

-- where no label ends there, `last_with_end` finds none
pub none_ends : (end : ℕ) (xs : List SingleLabelTuple) (from : ℕ) → from ≡ 0
    → NoneEnds end (drop from xs) → last_with_end end (single_label_views xs) ≡ None
none_ends end xs from first none =
    last_none end xs 0 None (subst (λ n. NoneEnds end (drop n xs)) first none)

-- the label at this index is the last one with the end, counted from `n`
last_at : (end : ℕ) (xs : List SingleLabelTuple) (k n : ℕ) (o : Option (ℕ × LabelModel))
    (d : SingleLabelTuple)
    → k < length xs
    → (get_or xs k d).1.end ≡ end → NoneEnds end (drop (suc k) xs)
    → last_or o
    (filter (λ (e : ℕ × LabelModel). e.1.end == end) (enumerate_from n (single_label_views xs)))
    ≡ Some (n + k, single_label_view (get_or xs k d))
last_at end [] k n o d h e none = absurd (omega arith)
last_at end (x ∷ xs) zero n o d h e none =
    let s : n ≡ n + 0 = omega arith in
    rw (eq-eqb x.1.end end e)
    (last_none end xs (n + 1) (Some (n, single_label_view x)) none
    ∙ ap (λ j. Some (j, single_label_view x)) s)
last_at end (x ∷ xs) (suc k) n o d h e none =
    by_test
    (λ p. last_at end xs k (n + 1) p d (omega arith) e none
    ∙ ap (λ j. Some (j, single_label_view (get_or xs k d))) s)
    (x.1.end == end)
  where
    later : List (ℕ × LabelModel)
    later =
        filter (λ (e : ℕ × LabelModel). e.1.end == end)
        (enumerate_from (n + 1) (single_label_views xs))

    s : n + 1 + k ≡ n + suc k
    s = omega arith

    by_test : ((p : Option (ℕ × LabelModel))
        → last_or p later ≡ Some (n + suc k, single_label_view (get_or xs k d)))
        → (b : Bool) → last_or o (cond b ((n, single_label_view x) ∷ later) later)
        ≡ Some (n + suc k, single_label_view (get_or xs k d))
    by_test again true = again (Some (n, single_label_view x))
    by_test again false = again o

-- the label at an index, with the index
pub entry_is : (xs : List SingleLabelTuple) (k : ℕ) (d : SingleLabelTuple) → k < length xs
    → indexed_label_view xs (Some k) ≡ Some (k, single_label_view (get_or xs k d))
entry_is xs k d h = ap (option_map (λ x. (k, single_label_view x))) (slice_get-get_or xs k d h)

-- the label at this index is the last one with the end
pub last_here : (end : ℕ) (xs : List SingleLabelTuple) (k later : ℕ) (d : SingleLabelTuple)
    → k < length xs → later ≡ k + 1
    → (get_or xs k d).1.end ≡ end → NoneEnds end (drop later xs)
    → last_with_end end (single_label_views xs) ≡ indexed_label_view xs (Some k)
last_here end xs k later d h s e none =
    let next : later ≡ suc k = omega (arith, s) in
    let all : 0 + k ≡ k = omega arith in
    last_at end xs k 0 None d h e (subst (λ n. NoneEnds end (drop n xs)) next none)
    ∙ ap (λ j. Some (j, single_label_view (get_or xs k d))) all
    ∙ sym (entry_is xs k d h)

-- the list without the label at an index
pub without_at : (xs : List SingleLabelTuple) (k : ℕ)
    → remove (single_label_views xs) k ≡ single_label_views (take k xs) ++ single_label_views
    (drop (k + 1) xs)
without_at xs k =
    ap (λ ys. ys ++ drop (suc k) (single_label_views xs)) (take-map single_label_view k xs)
    ∙ ap (λ ys. single_label_views (take k xs) ++ ys) (drop-map single_label_view (suc k) xs)
    ∙ ap (λ n. single_label_views (take k xs) ++ single_label_views (drop n xs))
    (sym (add-one k))

-- what is tested of the label at an index
pub trails_at : (xs : List SingleLabelTuple) (k : ℕ) (d : SingleLabelTuple) (empty : Bool)
    → k < length xs → empty ≡ (length (get_or xs k d).2.now == 0)
    → option_map_or (does_trail (single_label_views xs)) (indexed_label_view xs (Some k)) false
    ≡ (not empty
    && not
    (overlaps_any (single_label_view (get_or xs k d)) (single_label_views (take k xs))
    || overlaps_any (single_label_view (get_or xs k d)) (single_label_views (drop (k + 1) xs))))
trails_at xs k d empty h e =
    rw (entry_is xs k d h, without_at xs k, e, is_empty_bytes, list_any-append) refl
