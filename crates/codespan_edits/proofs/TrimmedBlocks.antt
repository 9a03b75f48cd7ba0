-- Blocks are trimmed, for the clauses of `laws::blocks_are_trimmed` and
-- `laws::unchanged_text_is_kept`.
use Rattle.codespan_core.proofs.Std.{◌≡◌, ℕ, zero, suc, ◌+◌, ◌-◌, ◌≤◌, Bool}
use Rattle.codespan_core.proofs.Std.{true, false, cond, List, [], ◌∷◌, ◌++◌, length, take}
use Rattle.codespan_core.proofs.Std.{drop, map, reverse, refl, sym, ap, ◌∙◌, arith}
use Rattle.codespan_core.proofs.Std.{append-nil, slice_range, if◌then◌else◌, flat_map}
use Rattle.codespan_core.proofs.Std.{bytes_eq, take-append-drop, reverse-append, length-drop, subst}
use Rattle.codespan_core.proofs.Std.{AllByRecursion, ◌==◌, true≢false, drop_all}
use Rattle.std.proofs.Math.Numerals.{one-add}
use Rattle.std.proofs.Math.Seq.{drop-append_seam}
use Rattle.std.proofs.lemmas.Slice.Eq.{bytes_eq-Decides}
use Rattle.std.proofs.lemmas.List.{length-reverse}
use Rattle.codespan_edits.specs.Edits.{ListedEdit, in_order, listed}
use Rattle.codespan_edits.specs.Diffs.{lines, Change, no_change, followed_by, kept, pieces_from}
use Rattle.codespan_edits.specs.Diffs.{is_block, blocks_from, rows_with, common_start, common_end}
use Rattle.codespan_edits.specs.Diffs.{rows_to_end, block_rows}
use Rattle.codespan_edits.specs.declared.rows.RowSign.{RowSign}
use Rattle.codespan_edits.specs.declared.rows.RowSign.TheVariants.{Kept, Removed, Added}
use Rattle.codespan_edits.specs.DiffLaws.{lines_with, is_removed, is_added, is_changed}
use Rattle.codespan_edits.specs.DiffLaws.{DifferAtStart, BlocksAreTrimmed, UnchangedTextIsKept}
use Rattle.codespan_edits.proofs.DiffLines.{with-append, with-sign, without-sign, common-le}
use Rattle.codespan_edits.proofs.OrderLemmas.{all-in_order, all-listed}

-- behind the lines in common at the start two lists differ
differ-after : (xs ys : List (List ℕ))
    → DifferAtStart (drop (common_start xs ys) xs) (drop (common_start xs ys) ys)
differ-after [] ys = tt
differ-after (x ∷ xs) [] = tt
differ-after (x ∷ xs) (y ∷ ys) = by_test (bytes_eq x y) refl (differ-after xs ys) where
  by_test : (t : Bool) → bytes_eq x y ≡ t
      → DifferAtStart (drop (common_start xs ys) xs) (drop (common_start xs ys) ys)
      → DifferAtStart (drop (cond t (1 + common_start xs ys) 0) (x ∷ xs))
      (drop (cond t (1 + common_start xs ys) 0) (y ∷ ys))
  by_test true h rest = rw one-add rest
  by_test false h rest = λ same. true≢false (sym ((bytes_eq-Decides x y).1 same) ∙ h)

-- and so do fronts of such lists
differ-fronts : (n m : ℕ) (xs ys : List (List ℕ)) → DifferAtStart xs ys
    → DifferAtStart (take n xs) (take m ys)
differ-fronts zero m xs ys h = tt
differ-fronts (suc n) m [] ys h = tt
differ-fronts (suc n) m (x ∷ xs) [] h = take-nothing m where
  take-nothing : (k : ℕ) → DifferAtStart (x ∷ take n xs) (take k [])
  take-nothing zero = tt
  take-nothing (suc k) = tt
differ-fronts (suc n) zero (x ∷ xs) (y ∷ ys) h = tt
differ-fronts (suc n) (suc m) (x ∷ xs) (y ∷ ys) h = h

-- the reverse of a front is what follows the end in the reverse
reverse-front : (n : ℕ) (xs : List (List ℕ)) → n ≤ length xs
    → reverse (take (length xs - n) xs) ≡ drop n (reverse xs)
reverse-front n xs h =
    let k = length xs - n in
    let split : reverse xs ≡ reverse (drop k xs) ++ reverse (take k xs) =
    ap reverse (sym (take-append-drop k xs)) ∙ reverse-append (take k xs) (drop k xs) in
    let size : length (reverse (drop k xs)) ≡ n =
    length-reverse (drop k xs) ∙ (length-drop k xs ∙ omega (arith, h)) in
    sym (ap (drop n) split
    ∙ (ap (λ m. drop m (reverse (drop k xs) ++ reverse (take k xs))) (sym size)
    ∙ drop-append_seam (reverse (drop k xs)) (reverse (take k xs))))

-- before the lines in common at the end two lists end differently
differ-before : (xs ys : List (List ℕ))
    → DifferAtStart (reverse (take (length xs - common_end xs ys) xs))
    (reverse (take (length ys - common_end xs ys) ys))
differ-before xs ys =
    let bound = common-le (reverse xs) (reverse ys) in
    rw (
      reverse-front (common_end xs ys) xs (omega (arith, bound.0, length-reverse xs)),
      reverse-front (common_end xs ys) ys (omega (arith, bound.1, length-reverse ys)),
    )
    (differ-after (reverse xs) (reverse ys))

-- the lines of rows to the end whose sign passes, where kept rows do not
end-with : (test : RowSign → Bool) (xs ys : List (List ℕ)) → test Kept ≡ false
    → lines_with test (rows_to_end xs ys)
    ≡ lines_with test (rows_with Removed (take (length xs - common_end xs ys) xs))
    ++ lines_with test (rows_with Added (take (length ys - common_end xs ys) ys))
end-with test xs ys h =
    let n = common_end xs ys in
    let gone = rows_with Removed (take (length xs - n) xs) in
    let new = rows_with Added (take (length ys - n) ys) in
    let same = rows_with Kept (drop (length xs - n) xs) in
    with-append test gone (new ++ same)
    ∙ ap (λ ls. lines_with test gone ++ ls)
    (with-append test new same
    ∙ (ap (λ ls. lines_with test new ++ ls)
    (without-sign test Kept (drop (length xs - n) xs) h)
    ∙ append-nil (lines_with test new)))

-- those of a block
block-with : (test : RowSign → Bool) (b : Change) → test Kept ≡ false
    → lines_with test (block_rows b)
    ≡ lines_with test (rows_to_end (drop (common_start (lines b.old) (lines b.new)) (lines b.old))
    (drop (common_start (lines b.old) (lines b.new)) (lines b.new)))
block-with test b h =
    let n = common_start (lines b.old) (lines b.new) in
    with-append test (rows_with Kept (take n (lines b.old)))
    (rows_to_end (drop n (lines b.old)) (drop n (lines b.new)))
    ∙ rw (without-sign test Kept (take n (lines b.old)) h) refl

-- the removed lines of rows to the end, and the added ones
end-removed : (xs ys : List (List ℕ)) → lines_with is_removed (rows_to_end xs ys)
    ≡ take (length xs - common_end xs ys) xs
end-removed xs ys =
    end-with is_removed xs ys refl
    ∙ rw (
      with-sign is_removed Removed (take (length xs - common_end xs ys) xs) refl,
      without-sign is_removed Added (take (length ys - common_end xs ys) ys) refl,
    )
    (append-nil (take (length xs - common_end xs ys) xs))

end-added : (xs ys : List (List ℕ)) → lines_with is_added (rows_to_end xs ys)
    ≡ take (length ys - common_end xs ys) ys
end-added xs ys =
    end-with is_added xs ys refl
    ∙ rw (
      without-sign is_added Removed (take (length xs - common_end xs ys) xs) refl,
      with-sign is_added Added (take (length ys - common_end xs ys) ys) refl,
    ) refl

-- a list has all of its lines in common with itself
common-same : (xs : List (List ℕ)) → common_start xs xs ≡ length xs
common-same [] = refl
common-same (x ∷ xs) = rw ((bytes_eq-Decides x x).1 refl) (omega (arith, common-same xs))

-- so a block of the same text twice changes no line
same-kept : (x : List ℕ) → lines_with is_changed (block_rows (record { old = x; new = x }))
    ≡ []
same-kept x =
    block-with is_changed (record { old = x; new = x }) refl
    ∙ ap (λ ls. lines_with is_changed (rows_to_end ls ls))
    (drop_all (common_start (lines x) (lines x)) (lines x)
    (omega (arith, common-same (lines x))))

block-kept : (old new : List ℕ) → old ≡ new
    → lines_with is_changed (block_rows (record { old = old; new = new })) ≡ []
block-kept old new same =
    ap (λ x. lines_with is_changed (block_rows (record { old = x; new = new }))) same
    ∙ same-kept new

pub blocks-are-trimmed : BlocksAreTrimmed
blocks-are-trimmed b =
    let n = common_start (lines b.old) (lines b.new) in
    let xs = drop n (lines b.old) in
    let ys = drop n (lines b.new) in
    let gone = block-with is_removed b refl ∙ end-removed xs ys in
    let new = block-with is_added b refl ∙ end-added xs ys in
    record {
      start = rw (gone, new)
          (differ-fronts (length xs - common_end xs ys) (length ys - common_end xs ys) xs ys
          (differ-after (lines b.old) (lines b.new)));
      end = rw (gone, new) (differ-before xs ys);
      same = block-kept b.old b.new;
    }

-- a change has the same text twice
abbrev Stays : Change → Type 0
Stays x = x.old ≡ x.new

-- kept lines do
kept-stay : (ls : List (List ℕ)) (ps : List Change) → AllByRecursion Stays ps
    → AllByRecursion Stays (map kept ls ++ ps)
kept-stay [] ps all = all
kept-stay (l ∷ ls) ps all = (refl, kept-stay ls ps all)

-- and so do all pieces, if each edit puts there what was there
pieces-stay : (text : List ℕ) (byte : ℕ) (xs : List ListedEdit)
    → AllByRecursion (λ x. slice_range text x.edit.start x.edit.end ≡ x.edit.replacement) xs
    → AllByRecursion Stays (pieces_from text byte xs)
pieces-stay text byte [] all =
    subst (AllByRecursion Stays) (append-nil (map kept (lines (drop byte text))))
    (kept-stay (lines (drop byte text)) [] tt)
pieces-stay text byte (x ∷ xs) all =
    kept-stay (lines (slice_range text byte x.edit.start)) _
    (all.0, pieces-stay text x.edit.end xs all.1)

-- the rows of blocks of such pieces change no line
blocks-stay : (held : Change) (ps : List Change) → Stays held → AllByRecursion Stays ps
    → lines_with is_changed (flat_map block_rows (blocks_from held ps)) ≡ []
blocks-stay held [] h all = by_test (length held.old + length held.new == 0) where
  by_test : (t : Bool)
      → lines_with is_changed (flat_map block_rows (if t then [] else held ∷ [])) ≡ []
  by_test true = refl
  by_test false =
      ap (lines_with is_changed) (append-nil (block_rows held)) ∙ block-kept held.old held.new h
blocks-stay held (p ∷ ps) h all =
    by_test (is_block (followed_by held p)) (blocks-stay no_change ps refl all.1)
    (blocks-stay (followed_by held p) ps stay all.1)
  where
    stay : Stays (followed_by held p)
    stay = rw (h, all.0) refl

    by_test : (t : Bool)
        → lines_with is_changed (flat_map block_rows (blocks_from no_change ps)) ≡ []
        → lines_with is_changed (flat_map block_rows (blocks_from (followed_by held p) ps)) ≡ []
        → lines_with is_changed (flat_map block_rows
        (if t then followed_by held p ∷ blocks_from no_change ps
        else blocks_from (followed_by held p) ps)) ≡ []
    by_test true anew on =
        with-append is_changed (block_rows (followed_by held p))
        (flat_map block_rows (blocks_from no_change ps))
        ∙ rw (block-kept (held.old ++ p.old) (held.new ++ p.new) stay, anew) refl
    by_test false anew on = on

pub unchanged-text-is-kept : UnchangedTextIsKept
unchanged-text-is-kept text edits all =
    blocks-stay no_change (pieces_from text 0 (in_order (listed edits))) refl
    (pieces-stay text 0 (in_order (listed edits))
    (all-in_order (λ x. slice_range text x.edit.start x.edit.end ≡ x.edit.replacement)
    (listed edits)
    (all-listed (λ e. slice_range text e.start e.end ≡ e.replacement) 0 edits all)))
