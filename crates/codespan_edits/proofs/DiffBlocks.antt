-- The rows of a block, and of the pieces that are to come, for the clauses of `rows`.
use Rattle.codespan_core.proofs.Std.{Bool, true, false, cond, arith, append-nil, ◌≡◌, ℕ}
use Rattle.codespan_core.proofs.Std.{◌+◌, ◌-◌, List, [], ◌∷◌, ◌++◌, length, take}
use Rattle.codespan_core.proofs.Std.{drop, map, refl, sym, ap, ◌∙◌, append_assoc, ◌==◌}
use Rattle.codespan_core.proofs.Std.{◌&&◌, if◌then◌else◌, flat_map, nat_tests, drop-map}
use Rattle.codespan_core.proofs.Std.{take-map, take_rest, length-map}
use Rattle.std.specs.Borrow.{Bor}
use Rattle.codespan_edits.specs.Diffs.{lines, is_whole, Change, Row, rows_with, common_start}
use Rattle.codespan_edits.specs.Diffs.{common_end, rows_to_end, block_rows, no_change, followed_by}
use Rattle.codespan_edits.specs.Diffs.{is_block, last_block, blocks_from}
use Rattle.codespan_edits.specs.declared.rows.RowSign.TheVariants.{Kept, Removed, Added}

-- the lines of a list of slices
abbrev shown : List (Bor (List ℕ)) → List (List ℕ)
shown = map (λ x. x.now)

-- the rows of lines that begin differently, by the number of lines in common at their end
pub to-end : (xs ys : List (Bor (List ℕ))) (n : ℕ) → n ≡ common_end (shown xs) (shown ys)
    → rows_with Removed (shown (take (length xs - n) xs))
    ++ (rows_with Added (shown (take (length ys - n) ys))
    ++ rows_with Kept (shown (drop (length xs - n) xs)))
    ≡ rows_to_end (shown xs) (shown ys)
to-end xs ys n is =
    let size_x : length (shown xs) ≡ length xs = rw length-map refl in
    let size_y : length (shown ys) ≡ length ys = rw length-map refl in
    let removed : shown (take (length xs - n) xs) ≡ take (length (shown xs) - n) (shown xs) =
    sym (take-map (λ x. x.now) (length xs - n) xs) ∙ ap (λ k. take (k - n) (shown xs))
    (sym size_x) in
    let added : shown (take (length ys - n) ys) ≡ take (length (shown ys) - n) (shown ys) =
    sym (take-map (λ x. x.now) (length ys - n) ys) ∙ ap (λ k. take (k - n) (shown ys))
    (sym size_y) in
    let kept : shown (drop (length xs - n) xs) ≡ drop (length (shown xs) - n) (shown xs) =
    sym (drop-map (λ x. x.now) (length xs - n) xs) ∙ ap (λ k. drop (k - n) (shown xs))
    (sym size_x) in
    rw (removed, added, kept)
    (ap (λ m. rows_with Removed (take (length (shown xs) - m) (shown xs))
    ++ (rows_with Added (take (length (shown ys) - m) (shown ys))
    ++ rows_with Kept (drop (length (shown xs) - m) (shown xs)))) is)

-- the rows of a block with these lines
abbrev block_rows_of : List (List ℕ) → List (List ℕ) → List Row
block_rows_of a b =
    rows_with Kept (take (common_start a b) a)
    ++ rows_to_end (drop (common_start a b) a) (drop (common_start a b) b)

-- the rows of a block, by the numbers of lines in common at its start and its end
pub block-made : (block : Change) (xs ys : List (Bor (List ℕ))) (n m : ℕ)
    (rows first second third all : List Row)
    → shown xs ≡ lines block.old → shown ys ≡ lines block.new
    → n ≡ common_start (shown xs) (shown ys)
    → m ≡ common_end (shown (drop n xs)) (shown (drop n ys))
    → first ≡ rows ++ rows_with Kept (shown (take n xs))
    → second ≡ first ++ rows_with Removed (shown (take (length (drop n xs) - m) (drop n xs)))
    → third ≡ second ++ rows_with Added (shown (take (length (drop n ys) - m) (drop n ys)))
    → all ≡ third ++ rows_with Kept (shown (drop (length (drop n xs) - m) (drop n xs)))
    → all ≡ rows ++ block_rows block
block-made block xs ys n m rows first second third all old new start end p q r s =
    let part = rows_with Kept (shown (take n xs)) in
    let removed = rows_with Removed (shown (take (length (drop n xs) - m) (drop n xs))) in
    let added = rows_with Added (shown (take (length (drop n ys) - m) (drop n ys))) in
    let kept = rows_with Kept (shown (drop (length (drop n xs) - m) (drop n xs))) in
    let joined : all ≡ rows ++ (part ++ (removed ++ (added ++ kept))) =
    rw (s, r, q, p)
    (append_assoc ((rows ++ part) ++ removed) added kept
    ∙ (append_assoc (rows ++ part) removed (added ++ kept)
    ∙ append_assoc rows part (removed ++ (added ++ kept)))) in
    joined
    ∙ (ap (λ rest. rows ++ (part ++ rest)) (to-end (drop n xs) (drop n ys) m end)
    ∙ (ap (λ ls. rows ++ (rows_with Kept ls ++ rows_to_end (shown (drop n xs)) (shown (drop n
    ys))))
    (sym (take-map (λ x. x.now) n xs))
    ∙ (ap (λ ls. rows ++ (rows_with Kept (take n (shown xs)) ++ rows_to_end ls (shown (drop n
    ys))))
    (sym (drop-map (λ x. x.now) n xs))
    ∙ (ap (λ ls. rows ++ (rows_with Kept (take n (shown xs)) ++ rows_to_end (drop n (shown xs))
    ls))
    (sym (drop-map (λ x. x.now) n ys))
    ∙ (ap (λ k. rows ++ (rows_with Kept (take k (shown xs))
    ++ rows_to_end (drop k (shown xs)) (drop k (shown ys)))) start
    ∙ (ap (λ a. rows ++ block_rows_of a (shown ys)) old
    ∙ ap (λ b. rows ++ block_rows_of (lines block.old) b) new))))))

-- the same of slices of the lines
pub block-shown : (block : Change) (xs ys a b c d e f : List (Bor (List ℕ))) (n m : ℕ)
    (rows first second third all : List Row)
    → a ≡ xs → b ≡ ys → c ≡ xs → d ≡ drop n xs → e ≡ drop n ys
    → f ≡ drop (length d - m) d
    → shown xs ≡ lines block.old → shown ys ≡ lines block.new
    → n ≡ common_start (shown a) (shown b)
    → m ≡ common_end (shown d) (shown e)
    → first ≡ rows ++ rows_with Kept (shown (take n c))
    → second ≡ first ++ rows_with Removed (shown (take (length d - m) d))
    → third ≡ second ++ rows_with Added (shown (take (length e - m) e))
    → all ≡ third ++ rows_with Kept (shown f)
    → all ≡ rows ++ block_rows block
block-shown block xs ys a b c d e f n m rows first second third all at_a at_b at_c at_d at_e at_f
    old new
    start end p q r s =
    block-made block xs ys n m rows first second third all old new (rw (at_a, at_b) at start)
    (rw (at_d, at_e) at end) (rw at_c at p) (rw at_d at q) (rw at_e at r) (rw (at_f, at_d) at s)

-- what is behind an index, as a slice
pub rest-slice : (n : ℕ) (d xs : List (Bor (List ℕ))) → d ≡ xs
    → take (length d - n) (drop n d) ≡ drop n xs
rest-slice n d xs is = take_rest d n ∙ ap (drop n) is

-- a piece that ends a block
pub push-block : (rows newer : List Row) (held p now : Change) (ps : List Change)
    → is_block (followed_by held p) ≡ true → newer ≡ rows ++ block_rows (followed_by held p)
    → now ≡ no_change
    → newer ++ flat_map block_rows (blocks_from now ps)
    ≡ rows ++ flat_map block_rows (blocks_from held (p ∷ ps))
push-block rows newer held p now ps whole made empty =
    ap (λ h. newer ++ flat_map block_rows (blocks_from h ps)) empty
    ∙ (ap (λ rs. rs ++ flat_map block_rows (blocks_from no_change ps)) made
    ∙ (append_assoc rows (block_rows (followed_by held p))
    (flat_map block_rows (blocks_from no_change ps))
    ∙ ap (λ t. rows ++ flat_map block_rows
    (cond t (followed_by held p ∷ blocks_from no_change ps)
    (blocks_from (followed_by held p) ps)))
    (sym whole)))

-- or one that is held
pub push-held : (rows : List Row) (held p now : Change) (ps : List Change)
    → is_block (followed_by held p) ≡ false → now ≡ followed_by held p
    → rows ++ flat_map block_rows (blocks_from now ps)
    ≡ rows ++ flat_map block_rows (blocks_from held (p ∷ ps))
push-held rows held p now ps part is =
    ap (λ h. rows ++ flat_map block_rows (blocks_from h ps)) is
    ∙ ap (λ t. rows ++ flat_map block_rows
    (cond t (followed_by held p ∷ blocks_from no_change ps)
    (blocks_from (followed_by held p) ps)))
    (sym part)

-- changes with the same texts are the same
pub same_change : (a b c d : List ℕ) → a ≡ b → c ≡ d
    → ◌≡◌ {A = Change} (record { old = a; new = c }) (record { old = b; new = d })
same_change a b c d p q = rw (p, q) refl

-- the rows of what is held at the end
pub last-rows : (a b : List ℕ) → block_rows (record { old = a; new = b })
    ≡ flat_map block_rows (last_block (record { old = a; new = b }))
last-rows [] [] = refl
last-rows (x ∷ a) b = by_test (length (x ∷ a) + length b == 0) refl where
  by_test : (t : Bool) → (length (x ∷ a) + length b == 0) ≡ t
      → block_rows (record { old = x ∷ a; new = b })
      ≡ flat_map block_rows (if t then [] else record { old = x ∷ a; new = b } ∷ [])
  by_test true h = absurd (grind (arith, nat_tests, h))
  by_test false h = sym (append-nil (block_rows (record { old = x ∷ a; new = b })))
last-rows [] (x ∷ b) = by_test (0 + length (x ∷ b) == 0) refl where
  by_test : (t : Bool) → (0 + length (x ∷ b) == 0) ≡ t
      → block_rows (record { old = []; new = x ∷ b })
      ≡ flat_map block_rows (if t then [] else record { old = []; new = x ∷ b } ∷ [])
  by_test true h = absurd (grind (arith, nat_tests, h))
  by_test false h = sym (append-nil (block_rows (record { old = []; new = x ∷ b })))

-- so all rows are there once they are added
pub finished : (rows all : List Row) (a b c d : List ℕ) → a ≡ c → b ≡ d
    → all ≡ rows ++ block_rows (record { old = a; new = b })
    → all ≡ rows ++ flat_map block_rows (blocks_from (record { old = c; new = d }) [])
finished rows all a b c d p q is =
    is ∙ (ap (λ x. rows ++ block_rows x) (same_change a c b d p q)
    ∙ ap (λ rs. rows ++ rs) (last-rows c d))

-- that a text is whole, by what was tested
is-whole : (x y z : List ℕ) (tested t : Bool) → x ≡ y → z ≡ x → tested ≡ is_whole z
    → tested ≡ t
    → is_whole y ≡ t
is-whole x y z tested t p q r s = ap is_whole (sym (q ∙ p)) ∙ (sym r ∙ s)

-- no block ends where one of the texts is not whole
pub not-first : (a b : Bool) → a ≡ false → (a && b) ≡ false
not-first a b h = rw h refl

pub not-second : (a b : Bool) → b ≡ false → (a && b) ≡ false
not-second true b h = h
not-second false b h = refl

-- in `push`: what is held, the piece, and the two texts with it
module _ (sb sa old new before after : List ℕ) (ps : List Change) (grown : before ≡ sb ++ old)
    (grown_too : after ≡ sa ++ new) where
  -- the piece ends a block
  pub pushed-block : (rows newer : List Row) (x y u v cleared cleared_too : List ℕ) (s t : Bool)
      → x ≡ before → s ≡ is_whole x → s ≡ true → y ≡ after → t ≡ is_whole y →
      t ≡ true
      → u ≡ before → v ≡ after → newer ≡ rows ++ block_rows
      (record { old = u; new = v })
      → cleared ≡ [] → cleared_too ≡ []
      → newer ++ flat_map block_rows
      (blocks_from (record { old = cleared; new = cleared_too }) ps)
      ≡ rows ++ flat_map block_rows (blocks_from (record { old = sb; new = sa })
      (record { old = old; new = new } ∷ ps))
  pushed-block rows newer x y u v cleared cleared_too s t x_is s_is s_true y_is t_is t_true u_is
      v_is
      made c_is d_is =
      let first = is-whole before (sb ++ old) x s true grown x_is s_is s_true in
      let second = is-whole after (sa ++ new) y t true grown_too y_is t_is t_true in
      push-block rows newer (record { old = sb; new = sa }) (record { old = old; new = new })
      (record { old = cleared; new = cleared_too }) ps (rw (first, second) refl)
      (made ∙ ap (λ b. rows ++ block_rows b)
      (same_change u (sb ++ old) v (sa ++ new) (u_is ∙ grown) (v_is ∙ grown_too)))
      (same_change cleared [] cleared_too [] c_is d_is)

  -- or the old text with it is not whole
  pub held-first : (rows : List Row) (x : List ℕ) (s : Bool) → x ≡ before → s ≡ is_whole x
      → s ≡ false
      → rows ++ flat_map block_rows (blocks_from (record { old = before; new = after }) ps)
      ≡ rows ++ flat_map block_rows (blocks_from (record { old = sb; new = sa })
      (record { old = old; new = new } ∷ ps))
  held-first rows x s x_is s_is s_false =
      push-held rows (record { old = sb; new = sa }) (record { old = old; new = new })
      (record { old = before; new = after }) ps
      (not-first (is_whole (sb ++ old)) (is_whole (sa ++ new))
      (is-whole before (sb ++ old) x s false grown x_is s_is s_false))
      (same_change before (sb ++ old) after (sa ++ new) grown grown_too)

  -- or the new one
  pub held-second : (rows : List Row) (y : List ℕ) (t : Bool) → y ≡ after → t ≡ is_whole y
      → t ≡ false
      → rows ++ flat_map block_rows (blocks_from (record { old = before; new = after }) ps)
      ≡ rows ++ flat_map block_rows (blocks_from (record { old = sb; new = sa })
      (record { old = old; new = new } ∷ ps))
  held-second rows y t y_is t_is t_false =
      push-held rows (record { old = sb; new = sa }) (record { old = old; new = new })
      (record { old = before; new = after }) ps
      (not-second (is_whole (sb ++ old)) (is_whole (sa ++ new))
      (is-whole after (sa ++ new) y t false grown_too y_is t_is t_false))
      (same_change before (sb ++ old) after (sa ++ new) grown grown_too)
