-- The rows of blocks of lines, for the clauses of `hunks` and `blocks`.
use Rattle.codespan_core.proofs.Std.{◌≡◌, ◌≤◌, ◌+◌, ◌-◌, ◌++◌, ◌∷◌, ◌∙◌, []}
use Rattle.codespan_core.proofs.Std.{ℕ, List, length, ap, sym, take}
use Rattle.codespan_core.proofs.Std.{drop, map, arith, append_assoc}
use Rattle.codespan_core.proofs.Std.{map-append, drop-drop, take-map, drop-map, slice_range}
use Rattle.codespan_core.proofs.Std.{take-append-drop}
use Rattle.std.specs.Borrow.{Bor}
use Rattle.std.proofs.Math.Seq.{take-add}
use Rattle.codespan_core.proofs.Std.{length-drop, length-take-le, nil_from_length}
use Rattle.std.proofs.lemmas.List.{drop-take, take-take, length-take}
use Rattle.codespan_edits.specs.Diffs.{Row, rows_with, lines, common_start, common_end, rows_to_end}
use Rattle.codespan_edits.specs.Private.Blocks.{LineBlock, line_rows, rows_of, FitLines}
use Rattle.codespan_edits.specs.declared.rows.RowSign.TheVariants.{Kept, Removed, Added}
use Rattle.codespan_edits.proofs.DiffBlocks.{to-end}

-- the lines of a list of slices
abbrev pub shown : List (Bor (List ℕ)) → List (List ℕ)
shown = map (λ x. x.now)

-- ---- parts of lists

pub slice-join : (xs : List (List ℕ)) (a b c : ℕ) → a ≤ b → b ≤ c
    → slice_range xs a b ++ slice_range xs b c ≡ slice_range xs a c
slice-join xs a b c h k =
    let sum : c - a ≡ (b - a) + (c - b) = omega (arith, h, k) in
    let there : a + (b - a) ≡ b = omega (arith, h) in
    sym (ap (λ n. take n (drop a xs)) sum
    ∙ (take-add (b - a) (c - b) (drop a xs)
    ∙ ap (λ ys. slice_range xs a b ++ take (c - b) ys)
    (drop-drop (b - a) a xs ∙ ap (λ n. drop n xs) there)))

pub slice-end : (xs : List (List ℕ)) (a b : ℕ) → a ≤ b
    → slice_range xs a b ++ drop b xs ≡ drop a xs
slice-end xs a b h =
    let there : a + (b - a) ≡ b = omega (arith, h) in
    ap (λ ys. slice_range xs a b ++ ys)
    (sym (drop-drop (b - a) a xs ∙ ap (λ n. drop n xs) there))
    ∙ take-append-drop (b - a) (drop a xs)

take-slice : (xs : List (List ℕ)) (a b k : ℕ) → k ≤ b - a
    → take k (slice_range xs a b) ≡ slice_range xs a (a + k)
take-slice xs a b k h =
    let size : k ≡ a + k - a = omega arith in
    take-take k (b - a) (drop a xs) h ∙ ap (λ n. take n (drop a xs)) size

drop-slice : (xs : List (List ℕ)) (a b k : ℕ) → k ≤ b - a
    → drop k (slice_range xs a b) ≡ slice_range xs (a + k) b
drop-slice xs a b k h =
    let sum : b - a ≡ k + (b - (a + k)) = omega (arith, h) in
    ap (λ n. drop k (take n (drop a xs))) sum
    ∙ (drop-take k (b - (a + k)) (drop a xs)
    ∙ ap (take (b - (a + k))) (drop-drop k a xs))

pub slice-shown : (xs : List (Bor (List ℕ))) (a b : ℕ)
    → slice_range (shown xs) a b ≡ shown (slice_range xs a b)
slice-shown xs a b =
    ap (take (b - a)) (drop-map (λ x. x.now) a xs) ∙ take-map (λ x. x.now) (b - a) (drop a xs)

-- kept lines before others
pub kept-join : (ls : List (List ℕ)) (i p : ℕ) (bs : List LineBlock) → i ≤ p
    → FitLines ls p bs
    → rows_with Kept (slice_range ls i p) ++ rows_of ls p bs ≡ rows_of ls i bs
kept-join ls i p [] h fit =
    sym (map-append _ (slice_range ls i p) (drop p ls))
    ∙ ap (rows_with Kept) (slice-end ls i p h)
kept-join ls i p (b ∷ bs) h fit =
    let rest = line_rows (slice_range ls b.first b.end) (lines b.new) ++ rows_of ls b.end bs in
    sym (append_assoc (rows_with Kept (slice_range ls i p))
    (rows_with Kept (slice_range ls p b.first)) rest)
    ∙ ap (λ xs. xs ++ rest)
    (sym (map-append _ (slice_range ls i p) (slice_range ls p b.first))
    ∙ ap (rows_with Kept) (slice-join ls i p b.first h fit.0))

-- the rows of a block, by the numbers of lines in common at its start and its end
line-rows-shown : (xs ys : List (Bor (List ℕ))) (n m : ℕ)
    → n ≡ common_start (shown xs) (shown ys)
    → m ≡ common_end (shown (drop n xs)) (shown (drop n ys))
    → rows_with Kept (shown (take n xs))
    ++ (rows_with Removed (shown (take (length (drop n xs) - m) (drop n xs)))
    ++ (rows_with Added (shown (take (length (drop n ys) - m) (drop n ys)))
    ++ rows_with Kept (shown (drop (length (drop n xs) - m) (drop n xs)))))
    ≡ line_rows (shown xs) (shown ys)
line-rows-shown xs ys n m start end =
    ap (λ rest. rows_with Kept (shown (take n xs)) ++ rest) (to-end (drop n xs) (drop n ys) m end)
    ∙ (ap (λ ls. rows_with Kept ls ++ rows_to_end (shown (drop n xs)) (shown (drop n ys)))
    (sym (take-map (λ x. x.now) n xs))
    ∙ (ap (λ ls. rows_with Kept (take n (shown xs)) ++ rows_to_end ls (shown (drop n ys)))
    (sym (drop-map (λ x. x.now) n xs))
    ∙ (ap (λ ls. rows_with Kept (take n (shown xs)) ++ rows_to_end (drop n (shown xs)) ls)
    (sym (drop-map (λ x. x.now) n ys))
    ∙ ap (λ k. rows_with Kept (take k (shown xs))
    ++ rows_to_end (drop k (shown xs)) (drop k (shown ys))) start)))

-- the rows from a line on, up to those that follow a block's changed ones
pub block-split : (lines_now : List (Bor (List ℕ))) (b : LineBlock) (bs : List LineBlock)
    (xs ys : List (Bor (List ℕ))) (i n m p q : ℕ)
    → i ≤ b.first → b.first ≤ b.end → FitLines (shown lines_now) b.end bs
    → xs ≡ slice_range lines_now b.first b.end → shown ys ≡ lines b.new
    → n ≡ common_start (shown xs) (shown ys)
    → m ≡ common_end (shown (drop n xs)) (shown (drop n ys))
    → p ≡ length (drop n xs) - m → q ≡ length (drop n ys) - m
    → n + p ≤ b.end - b.first
    → rows_of (shown lines_now) i (b ∷ bs)
    ≡ rows_with Kept (slice_range (shown lines_now) i (b.first + n))
    ++ (rows_with Removed (shown (take p (drop n xs)))
    ++ (rows_with Added (shown (take q (drop n ys)))
    ++ rows_of (shown lines_now) (b.first + n + p) bs))
block-split lines_now b bs xs ys i n m p q from ordered fit old new start end p_is q_is few =
    ap (λ r. rows_with Kept (slice_range ls i b.first) ++ (r ++ z)) rows
    ∙ (ap (λ r. rows_with Kept (slice_range ls i b.first) ++ r)
    (append_assoc front (removed ++ (added ++ back)) z
    ∙ ap (λ r. front ++ r) (append_assoc removed (added ++ back) z
    ∙ ap (λ r. removed ++ r) (append_assoc added back z)))
    ∙ (sym (append_assoc (rows_with Kept (slice_range ls i b.first)) front
    (removed ++ (added ++ (back ++ z))))
    ∙ (ap (λ r. r ++ (removed ++ (added ++ (back ++ z)))) first
    ∙ ap (λ r. rows_with Kept (slice_range ls i (b.first + n)) ++ (removed ++ (added ++ r)))
    last)))
  where
    ls : List (List ℕ)
    ls = shown lines_now

    z : List Row
    z = rows_of ls b.end bs

    front : List Row
    front = rows_with Kept (shown (take n xs))

    removed : List Row
    removed = rows_with Removed (shown (take p (drop n xs)))

    added : List Row
    added = rows_with Added (shown (take q (drop n ys)))

    back : List Row
    back = rows_with Kept (shown (drop p (drop n xs)))

    shown_xs : shown xs ≡ slice_range ls b.first b.end
    shown_xs = ap shown old ∙ sym (slice-shown lines_now b.first b.end)

    rows : line_rows (slice_range ls b.first b.end) (lines b.new)
        ≡ front ++ (removed ++ (added ++ back))
    rows =
        ap (λ x. line_rows x (lines b.new)) (sym shown_xs)
        ∙ (ap (line_rows (shown xs)) (sym new)
        ∙ (sym (line-rows-shown xs ys n m start end)
        ∙ (ap (λ k. front ++ (rows_with Removed (shown (take k (drop n xs)))
        ++ (rows_with Added (shown (take (length (drop n ys) - m) (drop n ys)))
        ++ rows_with Kept (shown (drop k (drop n xs)))))) (sym p_is)
        ∙ ap (λ k. front ++ (removed ++ (rows_with Added (shown (take k (drop n ys))) ++ back)))
        (sym q_is))))

    first : rows_with Kept (slice_range ls i b.first) ++ front
        ≡ rows_with Kept (slice_range ls i (b.first + n))
    first =
        let same : shown (take n xs) ≡ slice_range ls b.first (b.first + n) =
        sym (take-map (λ x. x.now) n xs) ∙ (ap (take n) shown_xs
        ∙ take-slice ls b.first b.end n (omega (arith, few))) in
        sym (map-append _ (slice_range ls i b.first) (shown (take n xs)))
        ∙ ap (rows_with Kept) (ap (λ x. slice_range ls i b.first ++ x) same
        ∙ slice-join ls i b.first (b.first + n) from (omega arith))

    last : back ++ z ≡ rows_of ls (b.first + n + p) bs
    last =
        let same : shown (drop p (drop n xs)) ≡ slice_range ls (b.first + n + p) b.end =
        sym (drop-map (λ x. x.now) p (drop n xs))
        ∙ (ap (drop p) (sym (drop-map (λ x. x.now) n xs) ∙ (ap (drop n) shown_xs
        ∙ drop-slice ls b.first b.end n (omega (arith, few))))
        ∙ drop-slice ls (b.first + n) b.end p (omega (arith, few))) in
        ap (λ x. rows_with Kept x ++ z) same
        ∙ kept-join ls (b.first + n + p) b.end bs (omega (arith, few, ordered)) fit

-- blocks that fit lines from an index on fit them from an earlier one on
pub fit-lower : (ls : List (List ℕ)) (i j : ℕ) (bs : List LineBlock) → i ≤ j
    → FitLines ls j bs → FitLines ls i bs
fit-lower ls i j [] h fit = omega (arith, h, fit)
fit-lower ls i j (b ∷ bs) h fit = (omega (arith, h, fit.0), fit.1, fit.2, fit.3)

-- at a block, by its lines and those behind the lines in common at the start
module _ (lines_now : List (Bor (List ℕ))) (b : LineBlock) (bs : List LineBlock)
    (xs ys old_rest new_rest : List (Bor (List ℕ))) (i n m : ℕ) (from : i ≤ b.first)
    (ordered : b.first ≤ b.end) (within : b.end ≤ length lines_now)
    (fit : FitLines (shown lines_now) b.end bs)
    (old : xs ≡ slice_range lines_now b.first b.end) (new : shown ys ≡ lines b.new)
    (start : n ≡ common_start (shown xs) (shown ys)) (few : n ≤ length xs)
    (end : m ≡ common_end (shown old_rest) (shown new_rest)) (few_end : m ≤ length old_rest)
    (old_is : old_rest ≡ drop n xs) (new_is : new_rest ≡ drop n ys) where
  size_xs : length xs ≡ b.end - b.first
  size_xs =
      ap length old
      ∙ omega (
        arith,
        length-take (b.end - b.first) (drop b.first lines_now),
        length-drop b.first lines_now,
        within,
      )

  size_rest : length old_rest ≡ length xs - n
  size_rest = ap length old_is ∙ length-drop n xs

  pub split-here : rows_of (shown lines_now) i (b ∷ bs)
      ≡ rows_with Kept (slice_range (shown lines_now) i (b.first + n))
      ++ (rows_with Removed (shown (take (length old_rest - m) old_rest))
      ++ (rows_with Added (shown (take (length new_rest - m) new_rest))
      ++ rows_of (shown lines_now) (b.first + n + (length old_rest - m)) bs))
  split-here =
      let bound : n + (length old_rest - m) ≤ b.end - b.first =
      omega (arith, few, size_rest, size_xs, few_end) in
      let p_is : length old_rest - m ≡ length (drop n xs) - m =
      ap (λ l. length l - m) old_is in
      let q_is : length new_rest - m ≡ length (drop n ys) - m =
      ap (λ l. length l - m) new_is in
      let end_is : m ≡ common_end (shown (drop n xs)) (shown (drop n ys)) =
      end ∙ (ap (λ l. common_end (shown l) (shown new_rest)) old_is
      ∙ ap (λ l. common_end (shown (drop n xs)) (shown l)) new_is) in
      block-split lines_now b bs xs ys i n m (length old_rest - m) (length new_rest - m) from
      ordered fit old new start end_is p_is q_is bound
      ∙ (ap (λ l. rows_with Kept (slice_range (shown lines_now) i (b.first + n))
      ++ (rows_with Removed (shown (take (length old_rest - m) l))
      ++ (rows_with Added (shown (take (length new_rest - m) (drop n ys)))
      ++ rows_of (shown lines_now) (b.first + n + (length old_rest - m)) bs))) (sym old_is)
      ∙ ap (λ l. rows_with Kept (slice_range (shown lines_now) i (b.first + n))
      ++ (rows_with Removed (shown (take (length old_rest - m) old_rest))
      ++ (rows_with Added (shown (take (length new_rest - m) l))
      ++ rows_of (shown lines_now) (b.first + n + (length old_rest - m)) bs))) (sym new_is))

  -- the line after the removed ones
  pub passed : length (take (length old_rest - m) old_rest) ≡ length old_rest - m
  passed = length-take-le (length old_rest - m) old_rest (omega arith)

  pub passed-end : b.first + n + (length old_rest - m) ≤ b.end
  passed-end = omega (arith, few, size_rest, size_xs, few_end, ordered)

  -- no line is removed or added
  pub same-here : length (take (length old_rest - m) old_rest) ≡ 0
      → length (take (length new_rest - m) new_rest) ≡ 0
      → rows_of (shown lines_now) i (b ∷ bs) ≡ rows_of (shown lines_now) i bs
  same-here none_old none_new =
      let p : length old_rest - m ≡ 0 = sym passed ∙ none_old in
      let at : b.first + n ≡ b.first + n + (length old_rest - m) = omega (arith, p) in
      split-here
      ∙ (ap (λ l. rows_with Kept (slice_range (shown lines_now) i (b.first + n))
      ++ (rows_with Removed (shown l)
      ++ (rows_with Added (shown (take (length new_rest - m) new_rest))
      ++ rows_of (shown lines_now) (b.first + n + (length old_rest - m)) bs)))
      (nil_from_length (take (length old_rest - m) old_rest) none_old)
      ∙ (ap (λ l. rows_with Kept (slice_range (shown lines_now) i (b.first + n))
      ++ (rows_with Added (shown l)
      ++ rows_of (shown lines_now) (b.first + n + (length old_rest - m)) bs))
      (nil_from_length (take (length new_rest - m) new_rest) none_new)
      ∙ (ap (λ k. rows_with Kept (slice_range (shown lines_now) i k)
      ++ rows_of (shown lines_now) (b.first + n + (length old_rest - m)) bs) at
      ∙ kept-join (shown lines_now) i (b.first + n + (length old_rest - m)) bs
      (omega (arith, from))
      (fit-lower (shown lines_now) (b.first + n + (length old_rest - m)) b.end bs passed-end
      fit))))
