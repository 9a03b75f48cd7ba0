-- The rows of a diff have the lines of the old text and of the new one, for the clause of
-- `laws::diff_has_all_lines`.
use Rattle.codespan_core.proofs.Std.{◌≡◌, ℕ, ◌+◌, ◌-◌, ◌≤◌, Bool, true, false}
use Rattle.codespan_core.proofs.Std.{cond, List, [], ◌∷◌, ◌++◌, length, take, drop, map}
use Rattle.codespan_core.proofs.Std.{reverse, refl, sym, ap, ◌∙◌, arith, append_assoc}
use Rattle.codespan_core.proofs.Std.{append-nil, length-drop, ◌&&◌, ◌==◌, slice_range}
use Rattle.codespan_core.proofs.Std.{if◌then◌else◌, flat_map, filter, bytes_eq, nat_tests}
use Rattle.codespan_core.proofs.Std.{take-append_seam, take-append-drop, map-append, reverse-append}
use Rattle.codespan_core.proofs.Std.{drop-drop, nil_from_length, filter-append}
use Rattle.std.proofs.Math.Numerals.{one-add}
use Rattle.std.proofs.lemmas.Slice.Eq.{bytes_eq-Decides}
use Rattle.std.proofs.lemmas.List.{reverse-reverse, length-reverse}
use Rattle.std.proofs.lemmas.List.Concat.{flat_map-append}
use Rattle.codespan_edits.specs.Edits.{ListedEdit, in_order, listed, edited_from}
use Rattle.codespan_edits.specs.Diffs.{lines, is_whole, Change, no_change, followed_by, kept}
use Rattle.codespan_edits.specs.Diffs.{pieces_from, is_block, blocks_from, Row, rows_with}
use Rattle.codespan_edits.specs.Diffs.{common_start, common_end, rows_to_end, block_rows}
use Rattle.codespan_edits.specs.declared.rows.RowSign.{RowSign}
use Rattle.codespan_edits.specs.declared.rows.RowSign.TheVariants.{Kept, Removed, Added}
use Rattle.codespan_edits.specs.Numbers.{is_old, is_new}
use Rattle.codespan_edits.specs.DiffLaws.{lines_with, DiffHasAllLines}
use Rattle.codespan_edits.specs.Private.Places.{FitFrom}
use Rattle.codespan_edits.proofs.FitLemmas.{fit-in_order}
use Rattle.codespan_edits.proofs.LineLemmas.{lines-append, lines-whole}

-- one of the two texts of a change
module _ (side : Change → List ℕ) (of_kept : (l : List ℕ) → side (kept l) ≡ l)
    (of_none : (x : Change) → (length x.old + length x.new == 0) ≡ true → side x ≡ [])
    (of_two : (x y : Change) → side (followed_by x y) ≡ side x ++ side y)
    (of_block : (x : Change) → is_block x ≡ true → is_whole (side x) ≡ true) where
  -- of kept lines
  kept-side : (ls : List (List ℕ)) → flat_map side (map kept ls) ≡ flat_map (λ l. l) ls
  kept-side [] = refl
  kept-side (l ∷ ls) = rw (of_kept l, kept-side ls) refl

  -- the lines of blocks are those of their pieces
  blocks-side : (held : Change) (ps : List Change)
      → flat_map (λ x. lines (side x)) (blocks_from held ps) ≡ lines
      (side held ++ flat_map side ps)
  blocks-side held [] = by_test (length held.old + length held.new == 0) refl where
    by_test : (t : Bool) → (length held.old + length held.new == 0) ≡ t
        → flat_map (λ x. lines (side x)) (if t then [] else held ∷ []) ≡ lines
        (side held ++ [])
    by_test true h = rw (of_none held h) refl
    by_test false h = append-nil (lines (side held)) ∙ ap lines (sym (append-nil (side held)))
  blocks-side held (p ∷ ps) =
      by_test (is_block (followed_by held p)) refl (blocks-side no_change ps)
      (blocks-side (followed_by held p) ps)
    where
      all : side (followed_by held p) ++ flat_map side ps ≡ side held ++
          (side p ++ flat_map side ps)
      all = rw (of_two held p) (append_assoc (side held) (side p) (flat_map side ps))

      by_test : (t : Bool) → is_block (followed_by held p) ≡ t
          → flat_map (λ x. lines (side x)) (blocks_from no_change ps)
          ≡ lines (side no_change ++ flat_map side ps)
          → flat_map (λ x. lines (side x)) (blocks_from (followed_by held p) ps)
          ≡ lines (side (followed_by held p) ++ flat_map side ps)
          → flat_map (λ x. lines (side x))
          (if t then followed_by held p ∷ blocks_from no_change ps
          else blocks_from (followed_by held p) ps)
          ≡ lines (side held ++ (side p ++ flat_map side ps))
      by_test true h anew on =
          ap (λ ls. lines (side (followed_by held p)) ++ ls)
          (anew ∙ ap (λ s. lines (s ++ flat_map side ps)) (of_none no_change refl))
          ∙ (sym (lines-append (side (followed_by held p)) (flat_map side ps)
          (of_block (followed_by held p) h)) ∙ ap lines all)
      by_test false h anew on = on ∙ ap lines all

-- the lines in common at the start are the same
common-take : (xs ys : List (List ℕ))
    → take (common_start xs ys) xs ≡ take (common_start xs ys) ys
common-take [] ys = refl
common-take (x ∷ xs) [] = refl
common-take (x ∷ xs) (y ∷ ys) = by_test (bytes_eq x y) refl (common-take xs ys) where
  by_test : (t : Bool) → bytes_eq x y ≡ t
      → take (common_start xs ys) xs ≡ take (common_start xs ys) ys
      → take (cond t (1 + common_start xs ys) 0) (x ∷ xs)
      ≡ take (cond t (1 + common_start xs ys) 0) (y ∷ ys)
  by_test true h rest = rw (one-add, rest, (bytes_eq-Decides x y).0 h) refl
  by_test false h rest = refl

-- and no more than there are
pub common-le : (xs ys : List (List ℕ))
    → (common_start xs ys ≤ length xs) × (common_start xs ys ≤ length ys)
common-le [] ys = (omega arith, omega arith)
common-le (x ∷ xs) [] = (omega arith, omega arith)
common-le (x ∷ xs) (y ∷ ys) = by_test (bytes_eq x y) (common-le xs ys) where
  by_test : (t : Bool)
      → (common_start xs ys ≤ length xs) × (common_start xs ys ≤ length ys)
      → (cond t (1 + common_start xs ys) 0 ≤ length (x ∷ xs))
      × (cond t (1 + common_start xs ys) 0 ≤ length (y ∷ ys))
  by_test true h = (omega (arith, h.0), omega (arith, h.1))
  by_test false h = (omega arith, omega arith)

-- the end of a list, from its reverse
end-reverse : (n : ℕ) (xs : List (List ℕ)) → n ≤ length xs
    → reverse (take n (reverse xs)) ≡ drop (length xs - n) xs
end-reverse n xs h =
    let k = length xs - n in
    let split : reverse xs ≡ reverse (drop k xs) ++ reverse (take k xs) =
    ap reverse (sym (take-append-drop k xs)) ∙ reverse-append (take k xs) (drop k xs) in
    let size : length (reverse (drop k xs)) ≡ n =
    length-reverse (drop k xs) ∙ (length-drop k xs ∙ omega (arith, h)) in
    ap (λ ys. reverse (take n ys)) split
    ∙ (ap (λ m. reverse (take m (reverse (drop k xs) ++ reverse (take k xs)))) (sym size)
    ∙ (ap reverse (take-append_seam (reverse (drop k xs)) (reverse (take k xs)))
    ∙ reverse-reverse (drop k xs)))

-- the lines in common at the end are the same
common-drop : (xs ys : List (List ℕ))
    → drop (length xs - common_end xs ys) xs ≡ drop (length ys - common_end xs ys) ys
common-drop xs ys =
    let bound = common-le (reverse xs) (reverse ys) in
    sym (end-reverse (common_end xs ys) xs (omega (arith, bound.0, length-reverse xs)))
    ∙ (ap reverse (common-take (reverse xs) (reverse ys))
    ∙ end-reverse (common_end xs ys) ys (omega (arith, bound.1, length-reverse ys)))

-- the lines that pass of two lists of rows
pub with-append : (test : RowSign → Bool) (rs ss : List Row)
    → lines_with test (rs ++ ss) ≡ lines_with test rs ++ lines_with test ss
with-append test rs ss =
    ap (map (λ (r : Row). r.line)) (filter-append (λ (r : Row). test r.sign) rs ss)
    ∙ map-append (λ (r : Row). r.line) (filter (λ r. test r.sign) rs)
    (filter (λ r. test r.sign) ss)

-- rows of one sign pass
pub with-sign : (test : RowSign → Bool) (sign : RowSign) (ls : List (List ℕ))
    → test sign ≡ true
    → lines_with test (rows_with sign ls) ≡ ls
with-sign test sign [] h = refl
with-sign test sign (l ∷ ls) h = rw h (ap (λ ms. l ∷ ms) (with-sign test sign ls h))

-- or none of them does
pub without-sign : (test : RowSign → Bool) (sign : RowSign) (ls : List (List ℕ))
    → test sign ≡
    false
    → lines_with test (rows_with sign ls) ≡ []
without-sign test sign [] h = refl
without-sign test sign (l ∷ ls) h = rw h (without-sign test sign ls h)

-- the old lines of rows to the end
end-old : (xs ys : List (List ℕ)) → lines_with is_old (rows_to_end xs ys) ≡ xs
end-old xs ys =
    let n = common_end xs ys in
    let k = length xs - n in
    let m = length ys - n in
    with-append is_old (rows_with Removed (take k xs))
    (rows_with Added (take m ys) ++ rows_with Kept (drop k xs))
    ∙ rw (
      with-sign is_old Removed (take k xs) refl,
      with-append is_old (rows_with Added (take m ys)) (rows_with Kept (drop k xs)),
      without-sign is_old Added (take m ys) refl,
      with-sign is_old Kept (drop k xs) refl,
    )
    (take-append-drop k xs)

-- the new lines of rows to the end
end-new : (xs ys : List (List ℕ)) → lines_with is_new (rows_to_end xs ys) ≡ ys
end-new xs ys =
    let n = common_end xs ys in
    let k = length xs - n in
    let m = length ys - n in
    with-append is_new (rows_with Removed (take k xs))
    (rows_with Added (take m ys) ++ rows_with Kept (drop k xs))
    ∙ rw (
      without-sign is_new Removed (take k xs) refl,
      with-append is_new (rows_with Added (take m ys)) (rows_with Kept (drop k xs)),
      with-sign is_new Added (take m ys) refl,
      with-sign is_new Kept (drop k xs) refl,
    )
    (ap (λ zs. take m ys ++ zs) (common-drop xs ys) ∙ take-append-drop m ys)

-- the old lines of a block
block-old : (b : Change) → lines_with is_old (block_rows b) ≡ lines b.old
block-old b =
    let n = common_start (lines b.old) (lines b.new) in
    with-append is_old (rows_with Kept (take n (lines b.old)))
    (rows_to_end (drop n (lines b.old)) (drop n (lines b.new)))
    ∙ rw (
      with-sign is_old Kept (take n (lines b.old)) refl,
      end-old (drop n (lines b.old)) (drop n (lines b.new)),
    )
    (take-append-drop n (lines b.old))

-- the new lines of a block
block-new : (b : Change) → lines_with is_new (block_rows b) ≡ lines b.new
block-new b =
    let n = common_start (lines b.old) (lines b.new) in
    with-append is_new (rows_with Kept (take n (lines b.old)))
    (rows_to_end (drop n (lines b.old)) (drop n (lines b.new)))
    ∙ rw (
      with-sign is_new Kept (take n (lines b.old)) refl,
      end-new (drop n (lines b.old)) (drop n (lines b.new)),
    )
    (ap (λ zs. zs ++ drop n (lines b.new)) (common-take (lines b.old) (lines b.new))
    ∙ take-append-drop n (lines b.new))

-- the lines of the rows of blocks
blocks-with : (test : RowSign → Bool) (side : Change → List ℕ)
    → ((b : Change) → lines_with test (block_rows b) ≡ lines (side b)) → (bs : List Change)
    → lines_with test (flat_map block_rows bs) ≡ flat_map (λ b. lines (side b)) bs
blocks-with test side one [] = refl
blocks-with test side one (b ∷ bs) =
    with-append test (block_rows b) (flat_map block_rows bs)
    ∙ rw (one b, blocks-with test side one bs) refl

-- nothing has no old and no new text
nil-old : (xs ys : List ℕ) → (length xs + length ys == 0) ≡ true → xs ≡ []
nil-old xs ys h = nil_from_length xs (grind (arith, nat_tests, h))

nil-new : (xs ys : List ℕ) → (length xs + length ys == 0) ≡ true → ys ≡ []
nil-new xs ys h = nil_from_length ys (grind (arith, nat_tests, h))

-- both of two tests
both : (a b : Bool) → (a && b) ≡ true → (a ≡ true) × (b ≡ true)
both true true h = (refl, refl)
both true false h = absurd (cc)
both false b h = absurd (cc)

-- the old text of kept lines and of blocks, and the new one
kept-old : (x : List ℕ) → flat_map (λ (p : Change). p.old) (map kept (lines x)) ≡ x
kept-old x =
    kept-side (λ p. p.old) (λ l. refl) (λ p. nil-old p.old p.new) (λ p q. refl)
    (λ p h. (both (is_whole p.old) (is_whole p.new) h).0) (lines x)
    ∙ lines-whole x

kept-new : (x : List ℕ) → flat_map (λ (p : Change). p.new) (map kept (lines x)) ≡ x
kept-new x =
    kept-side (λ p. p.new) (λ l. refl) (λ p. nil-new p.old p.new) (λ p q. refl)
    (λ p h. (both (is_whole p.old) (is_whole p.new) h).1) (lines x)
    ∙ lines-whole x

blocks-old : (ps : List Change) → flat_map (λ b. lines b.old) (blocks_from no_change ps)
    ≡ lines (flat_map (λ (p : Change). p.old) ps)
blocks-old ps =
    blocks-side (λ p. p.old) (λ l. refl) (λ p. nil-old p.old p.new) (λ p q. refl)
    (λ p h. (both (is_whole p.old) (is_whole p.new) h).0) no_change ps

blocks-new : (ps : List Change) → flat_map (λ b. lines b.new) (blocks_from no_change ps)
    ≡ lines (flat_map (λ (p : Change). p.new) ps)
blocks-new ps =
    blocks-side (λ p. p.new) (λ l. refl) (λ p. nil-new p.old p.new) (λ p q. refl)
    (λ p h. (both (is_whole p.old) (is_whole p.new) h).1) no_change ps

-- a part, and what follows it
pub part-rest : (text : List ℕ) (a b : ℕ) → a ≤ b → slice_range text a b ++ drop b text ≡
    drop a text
part-rest text a b h =
    let sum : b ≡ a + (b - a) = omega (arith, h) in
    ap (λ n. slice_range text a b ++ drop n text) sum
    ∙ (ap (λ zs. slice_range text a b ++ zs) (sym (drop-drop (b - a) a text))
    ∙ take-append-drop (b - a) (drop a text))

-- the old texts of the pieces are the text
pieces-old : (text : List ℕ) (byte : ℕ) (xs : List ListedEdit) → FitFrom text byte xs
    → flat_map (λ (p : Change). p.old) (pieces_from text byte xs) ≡ drop byte text
pieces-old text byte [] fit = kept-old (drop byte text)
pieces-old text byte (x ∷ xs) fit =
    flat_map-append (λ (p : Change). p.old) (map kept (lines (slice_range text byte x.edit.start)))
    (record { old = slice_range text x.edit.start x.edit.end; new = x.edit.replacement }
    ∷ pieces_from text x.edit.end xs)
    ∙ rw (kept-old (slice_range text byte x.edit.start), pieces-old text x.edit.end xs fit.4)
    (ap (λ zs. slice_range text byte x.edit.start ++ zs)
    (part-rest text x.edit.start x.edit.end fit.1)
    ∙ part-rest text byte x.edit.start fit.0)

-- the new ones are the text after the edits
pieces-new : (text : List ℕ) (byte : ℕ) (xs : List ListedEdit)
    → flat_map (λ (p : Change). p.new) (pieces_from text byte xs) ≡ edited_from text byte xs
pieces-new text byte [] = kept-new (drop byte text)
pieces-new text byte (x ∷ xs) =
    flat_map-append (λ (p : Change). p.new) (map kept (lines (slice_range text byte x.edit.start)))
    (record { old = slice_range text x.edit.start x.edit.end; new = x.edit.replacement }
    ∷ pieces_from text x.edit.end xs)
    ∙ rw (kept-new (slice_range text byte x.edit.start), pieces-new text x.edit.end xs) refl

pub diff-has-all-lines : DiffHasAllLines
diff-has-all-lines text edits none =
    let ps = pieces_from text 0 (in_order (listed edits)) in
    let bs = blocks_from no_change ps in (
      blocks-with is_old (λ b. b.old) block-old bs
          ∙ (blocks-old ps
          ∙ ap lines (pieces-old text 0 (in_order (listed edits))
          (fit-in_order text edits none))),
      blocks-with is_new (λ b. b.new) block-new bs
          ∙ (blocks-new ps ∙ ap lines (pieces-new text 0 (in_order (listed edits)))),
    )
