-- Lists with the same edits make the same, for the clauses of `laws::order_matters_to_insertions`
-- and `laws::same_edits_have_same_diff`.
use Rattle.codespan_core.proofs.Std.{◌≡◌, ℕ, ◌+◌, ◌<◌, ◌≤◌, Bool, true, false}
use Rattle.codespan_core.proofs.Std.{cond, List, [], ◌∷◌, ◌++◌, length, map, None, inl}
use Rattle.codespan_core.proofs.Std.{inr, if◌then◌else◌, refl, sym, ap, ◌∙◌, subst}
use Rattle.codespan_core.proofs.Std.{arith, nat_lt, ◌==◌, ◌&&◌, slice_range, AllByRecursion}
use Rattle.codespan_core.proofs.Std.{filter, IsPermutation, nat_cmp, ordering_then, is_lt}
use Rattle.codespan_core.proofs.Std.{true≢false, nat_tests, IsPermutation-sym}
use Rattle.codespan_core.proofs.Std.{IsPermutation-trans, IsPermutation-map, flat_map}
use Rattle.std.proofs.lemmas.Map.Keys.{IsDistinct-IsPermutation}
use Rattle.codespan_core.specs.Lines.{is_char_boundary}
use Rattle.codespan_edits.specs.Edits.{TextEdit, ListedEdit, is_before, insert_in_order, in_order}
use Rattle.codespan_edits.specs.Edits.{listed, listed_from, edited_from}
use Rattle.codespan_edits.specs.Faults.{own_fault, first_own_fault, fault}
use Rattle.codespan_edits.specs.EditLaws.{are_overlapping, is_insertion_at, HaveSameEdits}
use Rattle.codespan_edits.specs.EditLaws.{OrderMattersToInsertions}
use Rattle.codespan_edits.specs.Diffs.{lines, kept, pieces_from, no_change, blocks_from, block_rows}
use Rattle.codespan_edits.specs.DiffLaws.{SameEditsHaveSameDiff}
use Rattle.codespan_edits.specs.Private.Places.{FitFrom}
use Rattle.codespan_edits.proofs.OrderLemmas.{all-in_order, in_order-permutation}
use Rattle.codespan_edits.proofs.Members.{IsMember, member-moved, member-filter, filter-member}
use Rattle.codespan_edits.proofs.FitLemmas.{tests-pass, neither, fit-in_order}
use Rattle.codespan_edits.proofs.Overlaps.{flips, apart-from_none, none-from_apart}

-- from a byte on each edit starts at the end of the one before it, or later
abbrev Rises : ℕ → List TextEdit → Type 0
Rises byte [] = Unit {0}
Rises byte (e ∷ es) = (byte ≤ e.start) × (e.start ≤ e.end) × Rises e.end es

-- so do edits that fit a text
rises-fit : (text : List ℕ) (byte : ℕ) (xs : List ListedEdit) → FitFrom text byte xs
    → Rises byte (map (λ x. x.edit) xs)
rises-fit text byte [] fit = tt
rises-fit text byte (x ∷ xs) fit = (fit.0, fit.1, rises-fit text x.edit.end xs fit.4)

-- each starts at the byte or later, and does not end before its start
member-after : (byte : ℕ) (es : List TextEdit) (e : TextEdit) → Rises byte es → IsMember e es
    → (byte ≤ e.start) × (e.start ≤ e.end)
member-after byte [] e up m = absurd m
member-after byte (f ∷ fs) e up (inl is) = rw is (up.0, up.1)
member-after byte (f ∷ fs) e up (inr m) =
    let r = member-after f.end fs e up.2 m in (omega (arith, up.0, up.1, r.0), r.1)

-- an insertion passes the test for its byte
passes : (e : TextEdit) (byte : ℕ) → e.start ≡ byte → e.end ≡ byte → is_insertion_at
    byte e ≡ true
passes e byte p q = grind (arith, nat_tests, p, q)

-- the first edits that pass a test are the same
first-same : (test : TextEdit → Bool) (a b : TextEdit) (cs ds : List TextEdit) → test a ≡ true
    → test b ≡ true → filter test (a ∷ cs) ≡ filter test (b ∷ ds) → a ≡ b
first-same test a b cs ds p q same =
    let heads : (a ∷ filter test cs) ≡ (b ∷ filter test ds) =
    ap (λ t. cond t (a ∷ filter test cs) (filter test cs)) (sym p)
    ∙ (same ∙ ap (λ t. cond t (b ∷ filter test ds) (filter test ds)) q) in
    cc

-- behind the same first edit, those that pass a test are the same
rest-same : (test : TextEdit → Bool) (a b : TextEdit) (cs ds : List TextEdit) → a ≡ b
    → filter test (a ∷ cs) ≡ filter test (b ∷ ds) → filter test cs ≡ filter test ds
rest-same test a b cs ds is same =
    by_test (test a) (same ∙ ap (λ c. filter test (c ∷ ds)) (sym is))
  where
    by_test : (t : Bool) → cond t (a ∷ filter test cs) (filter test cs)
        ≡ cond t (a ∷ filter test ds) (filter test ds) → filter test cs ≡ filter test ds
    by_test true h = cc
    by_test false h = h

-- two rising lists that have each other's first edit, and the same insertions, begin alike
heads-same : (byte : ℕ) (a b : TextEdit) (cs ds : List TextEdit) → Rises byte (a ∷ cs)
    → Rises byte (b ∷ ds) → IsMember a (b ∷ ds) → IsMember b (a ∷ cs)
    → filter (is_insertion_at a.start) (a ∷ cs) ≡ filter (is_insertion_at a.start) (b ∷ ds)
    → a ≡ b
heads-same byte a b cs ds up_a up_b (inl is) n same = is
heads-same byte a b cs ds up_a up_b (inr m) (inl is) same = sym is
heads-same byte a b cs ds up_a up_b (inr m) (inr n) same =
    let late_a = member-after b.end ds a up_b.2 m in
    let late_b = member-after a.end cs b up_a.2 n in
    first-same (is_insertion_at a.start) a b cs ds
    (passes a a.start refl (omega (arith, late_a.0, late_a.1, late_b.0, late_b.1)))
    (passes b a.start (omega (arith, late_a.0, late_a.1, late_b.0, late_b.1))
    (omega (arith, late_a.0, late_a.1, late_b.0, late_b.1))) same

-- an edit behind the first one of one list is behind that of the other
rest-member : (byte : ℕ) (a b : TextEdit) (cs ds : List TextEdit) (e : TextEdit)
    → Rises byte (a ∷ cs) → a ≡ b → (IsMember e (a ∷ cs) → IsMember e (b ∷ ds))
    → filter (is_insertion_at a.start) cs ≡ filter (is_insertion_at a.start) ds → IsMember e
    cs
    → IsMember e ds
rest-member byte a b cs ds e up is to same m = by_member (to (inr m)) where
  by_member : IsMember e (b ∷ ds) → IsMember e ds
  by_member (inr n) = n
  by_member (inl e_is) =
      let late = member-after a.end cs e up.2 m in
      let first : e ≡ a = e_is ∙ sym is in
      let start : e.start ≡ a.start = ap (λ (f : TextEdit). f.start) first in
      let end : e.end ≡ a.end = ap (λ (f : TextEdit). f.end) first in
      filter-member (is_insertion_at a.start) e ds
      (subst (IsMember e) same
      (member-filter (is_insertion_at a.start) e cs
      (passes e a.start start (omega (arith, late.0, start, end, up.1))) m))

-- two rising lists with the same members and the same insertions are the same
rising-same : (byte : ℕ) (es fs : List TextEdit) → Rises byte es → Rises byte fs
    → ((e : TextEdit) → IsMember e es → IsMember e fs)
    → ((e : TextEdit) → IsMember e fs → IsMember e es)
    → ((p : ℕ) → filter (is_insertion_at p) es ≡ filter (is_insertion_at p) fs) → es ≡
    fs
rising-same byte [] [] up_e up_f to from same = refl
rising-same byte [] (f ∷ fs) up_e up_f to from same = absurd (from f (inl refl))
rising-same byte (e ∷ es) [] up_e up_f to from same = absurd (to e (inl refl))
rising-same byte (e ∷ es) (f ∷ fs) up_e up_f to from same =
    let is : e ≡ f =
    heads-same byte e f es fs up_e up_f (to e (inl refl)) (from f (inl refl)) (same e.start) in
    let rest : (p : ℕ) → filter (is_insertion_at p) es ≡ filter (is_insertion_at p) fs =
    λ p. rest-same (is_insertion_at p) e f es fs is (same p) in
    let tails : es ≡ fs =
    rising-same e.end es fs up_e.2 (subst (λ (g : TextEdit). Rises g.end fs) (sym is) up_f.2)
    (λ g. rest-member byte e f es fs g up_e is (to g) (rest e.start))
    (λ g. rest-member byte f e fs es g up_f (sym is) (from g) (sym (rest f.start))) rest in
    rw (is, tails) refl

-- the indices of a list's edits are above a number that is below the first
indices-above : (n i : ℕ) (es : List TextEdit) → n < i
    → AllByRecursion (λ z. n < z.index) (listed_from i es)
indices-above n i [] h = tt
indices-above n i (e ∷ es) h = (h, indices-above n (i + 1) es (omega (arith, h)))

-- of two insertions at a byte the one with the smaller index is before the other
insertion-first : (byte a b i c d j : ℕ) → i < j → (a == byte && b == byte) ≡ true
    → is_lt (ordering_then (nat_cmp c a) (ordering_then (nat_cmp d b) (nat_cmp j i))) ≡ true
    → (c == byte && d == byte) ≡ false
insertion-first byte a b i c d j h p q = grind (arith, nat_tests)

-- with one more edit, which has the smallest index, the insertions at a byte stay in the list's
-- order
insert-stable : (byte : ℕ) (x : ListedEdit) (zs : List ListedEdit)
    → AllByRecursion (λ z. x.index < z.index) zs
    → filter (is_insertion_at byte) (map (λ z. z.edit) (insert_in_order x zs))
    ≡ filter (is_insertion_at byte) (x.edit ∷ map (λ z. z.edit) zs)
insert-stable byte x [] above = refl
insert-stable byte x (z ∷ zs) above =
    by_tests (insert-stable byte x zs above.1) (is_before z x) refl
    (is_insertion_at byte x.edit) refl (is_insertion_at byte z.edit) refl
  where
    by_tests : filter (is_insertion_at byte) (map (λ y. y.edit) (insert_in_order x zs))
        ≡ filter (is_insertion_at byte) (x.edit ∷ map (λ y. y.edit) zs)
        → (b : Bool) → is_before z x ≡ b
        → (p : Bool) → is_insertion_at byte x.edit ≡ p
        → (q : Bool) → is_insertion_at byte z.edit ≡ q
        → filter (is_insertion_at byte)
        (map (λ y. y.edit) (if b then z ∷ insert_in_order x zs else x ∷ (z ∷ zs)))
        ≡ filter (is_insertion_at byte) (x.edit ∷ map (λ y. y.edit) (z ∷ zs))
    by_tests rest false bt p pt q qt = refl
    by_tests rest true bt true pt true qt =
        absurd (true≢false (sym qt
        ∙ insertion-first byte x.edit.start x.edit.end x.index z.edit.start z.edit.end z.index
        above.0
        pt bt))
    by_tests rest true bt true pt false qt = rw (qt, rest, pt) refl
    by_tests rest true bt false pt true qt = rw (qt, rest, pt) refl
    by_tests rest true bt false pt false qt = rw (qt, rest, pt) refl

-- edits in order have the insertions at a byte in the list's order
order-stable : (byte i : ℕ) (es : List TextEdit)
    → filter (is_insertion_at byte) (map (λ z. z.edit) (in_order (listed_from i es)))
    ≡ filter (is_insertion_at byte) es
order-stable byte i [] = refl
order-stable byte i (e ∷ es) =
    insert-stable byte (record { index = i; edit = e }) (in_order (listed_from (i + 1) es))
    (all-in_order (λ z. i < z.index) (listed_from (i + 1) es)
    (indices-above i (i + 1) es (omega arith)))
    ∙ ap (λ fs. cond (is_insertion_at byte e) (e ∷ fs) fs) (order-stable byte (i + 1) es)

-- a list without its indices
unlisted : (i : ℕ) (es : List TextEdit) → map (λ z. z.edit) (listed_from i es) ≡ es
unlisted i [] = refl
unlisted i (e ∷ es) = ap (λ fs. e ∷ fs) (unlisted (i + 1) es)

-- the edits in order are those of the list
ordered-permutation : (es : List TextEdit)
    → IsPermutation es (map (λ z. z.edit) (in_order (listed es)))
ordered-permutation es =
    subst (λ fs. IsPermutation fs (map (λ z. z.edit) (in_order (listed es)))) (unlisted 0 es)
    (IsPermutation-map (λ (z : ListedEdit). z.edit) (listed es) (in_order (listed es))
    (in_order-permutation (listed es)))

-- what edits make does not depend on their indices
edited-same : (text : List ℕ) (byte : ℕ) (xs ys : List ListedEdit)
    → map (λ z. z.edit) xs ≡ map (λ z. z.edit) ys → edited_from text byte xs ≡ edited_from
    text byte ys
edited-same text byte [] [] same = refl
edited-same text byte [] (y ∷ ys) same = cc
edited-same text byte (x ∷ xs) [] same = cc
edited-same text byte (x ∷ xs) (y ∷ ys) same =
    let first : x.edit ≡ y.edit = cc in
    let rest : map (λ z. z.edit) xs ≡ map (λ z. z.edit) ys = cc in
    ap (λ (e : TextEdit). slice_range text byte e.start
    ++ (e.replacement ++ edited_from text e.end xs)) first
    ∙ ap (λ r. slice_range text byte y.edit.start ++ (y.edit.replacement ++ r))
    (edited-same text y.edit.end xs ys rest)

-- whether an edit has a fault of its own does not depend on its index
own-anywhere : (text : List ℕ) (e : TextEdit) (i j : ℕ)
    → own_fault text (record { index = i; edit = e }) ≡ None
    → own_fault text (record { index = j; edit = e }) ≡ None
own-anywhere text e i j h =
    let parts = tests-pass (nat_lt e.end e.start) (nat_lt (length text) e.end)
    (is_char_boundary text e.start) (is_char_boundary text e.end) _ _ _ _ h in
    rw (parts.0, parts.1, parts.2, parts.3) refl

-- no edit of a list without own faults has one
none-of_member : (text : List ℕ) (i : ℕ) (es : List TextEdit) (e : TextEdit)
    → first_own_fault text (listed_from i es) ≡ None → IsMember e es
    → own_fault text (record { index = 0; edit = e }) ≡ None
none-of_member text i [] e h m = absurd m
none-of_member text i (f ∷ fs) e h (inl is) =
    rw is (own-anywhere text f i 0
    (neither (own_fault text (record { index = i; edit = f })) _ h).0)
none-of_member text i (f ∷ fs) e h (inr m) =
    none-of_member text (i + 1) fs e
    (neither (own_fault text (record { index = i; edit = f })) _ h).1 m

-- and a list of such edits has none
none-of_all : (text : List ℕ) (i : ℕ) (es : List TextEdit)
    → ((e : TextEdit) → IsMember e es → own_fault text (record { index = 0; edit = e }) ≡
    None)
    → first_own_fault text (listed_from i es) ≡ None
none-of_all text i [] all = refl
none-of_all text i (e ∷ es) all =
    rw (own-anywhere text e 0 i (all e (inl refl)))
    (none-of_all text (i + 1) es (λ f m. all f (inr m)))

-- a list with the same edits as one without a fault has none
none-moved : (text : List ℕ) (es fs : List TextEdit) → IsPermutation es fs → fault text es ≡
    None
    → fault text fs ≡ None
none-moved text es fs moved none =
    none-from_apart text fs
    (none-of_all text 0 fs (λ e m. none-of_member text 0 es e
    (neither (first_own_fault text (listed es)) _ none).0
    (member-moved fs es (IsPermutation-sym es fs moved) e m)))
    (IsDistinct-IsPermutation are_overlapping flips es fs moved (apart-from_none text es none))

-- and in order both have the same edits
ordered-same : (text : List ℕ) (es fs : List TextEdit) → HaveSameEdits es fs
    → fault text es ≡ None
    → (fault text fs ≡ None)
    × (map (λ z. z.edit) (in_order (listed fs)) ≡ map (λ z. z.edit) (in_order (listed es)))
ordered-same text es fs same none =
    let gone : fault text fs ≡ None = none-moved text es fs same.permutation none in
    let ordered = λ (gs : List TextEdit). map (λ (z : ListedEdit). z.edit)
    (in_order (listed gs)) in
    let moved : IsPermutation (ordered fs) (ordered es) =
    IsPermutation-trans (ordered fs) fs (ordered es)
    (IsPermutation-sym fs (ordered fs) (ordered-permutation fs))
    (IsPermutation-trans fs es (ordered es) (IsPermutation-sym es fs same.permutation)
    (ordered-permutation es)) in (
      gone,
      rising-same 0 (ordered fs) (ordered es)
          (rises-fit text 0 (in_order (listed fs)) (fit-in_order text fs gone))
          (rises-fit text 0 (in_order (listed es)) (fit-in_order text es none))
          (member-moved (ordered fs) (ordered es) moved)
          (member-moved (ordered es) (ordered fs)
          (IsPermutation-sym (ordered fs) (ordered es) moved))
          (λ p. order-stable p 0 fs ∙ (sym (same.insertions p) ∙ sym (order-stable p 0 es))),
    )

pub order-matters-to-insertions : OrderMattersToInsertions
order-matters-to-insertions text es fs same none =
    let both = ordered-same text es fs same none in
    (both.0, edited-same text 0 (in_order (listed fs)) (in_order (listed es)) both.1)

-- nor do the pieces
pieces-same : (text : List ℕ) (byte : ℕ) (xs ys : List ListedEdit)
    → map (λ z. z.edit) xs ≡ map (λ z. z.edit) ys → pieces_from text byte xs ≡ pieces_from
    text byte ys
pieces-same text byte [] [] same = refl
pieces-same text byte [] (y ∷ ys) same = cc
pieces-same text byte (x ∷ xs) [] same = cc
pieces-same text byte (x ∷ xs) (y ∷ ys) same =
    let first : x.edit ≡ y.edit = cc in
    let rest : map (λ z. z.edit) xs ≡ map (λ z. z.edit) ys = cc in
    ap (λ (e : TextEdit). map kept (lines (slice_range text byte e.start))
    ++ (record { old = slice_range text e.start e.end; new = e.replacement }
    ∷ pieces_from text e.end xs)) first
    ∙ ap (λ r. map kept (lines (slice_range text byte y.edit.start))
    ++ (record { old = slice_range text y.edit.start y.edit.end; new = y.edit.replacement } ∷ r))
    (pieces-same text y.edit.end xs ys rest)

pub same-edits-have-same-diff : SameEditsHaveSameDiff
same-edits-have-same-diff text es fs same none =
    let both = ordered-same text es fs same none in (
      both.0,
      ap (λ ps. flat_map block_rows (blocks_from no_change ps))
          (pieces-same text 0 (in_order (listed fs)) (in_order (listed es)) both.1),
    )
