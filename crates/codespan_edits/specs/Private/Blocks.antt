-- Blocks of lines that edits replace, and their rows.
use Rattle.std.specs.Prelude.{◌≡◌, ◌≤◌, ℕ, true, List, [], ◌∷◌, ◌++◌, ◌⊎◌, map, take, drop}
use Rattle.std.specs.Prelude.{length, slice_range, string_bytes}
use Rattle.std.specs.List.{flat_map}
use Rattle.codespan_edits.specs.Diffs.{Change, Row, lines, rows_with, common_start, rows_to_end}
use Rattle.codespan_edits.specs.Diffs.{is_whole, block_rows, blocks_from}
use Rattle.codespan_edits.specs.declared.rows.RowSign.TheVariants.{Kept}
use Rattle.codespan_edits.specs.declared.blocks.Block.{Block}
use Rattle.codespan_edits.specs.declared.blocks.Collector.{Collector}

-- the lines of a text at the indices from `first` to `end`, and the text that is put there
pub record LineBlock : Type 0 where
  pub first : ℕ
  pub end : ℕ
  pub new : List ℕ

abbrev pub block_view : Block → LineBlock
block_view block = record {
  first = block.first;
  end = block.end;
  new = string_bytes block.new;
}

-- the rows of a block with these lines
abbrev pub line_rows : List (List ℕ) → List (List ℕ) → List Row
line_rows a b =
    rows_with Kept (take (common_start a b) a)
    ++ rows_to_end (drop (common_start a b) a) (drop (common_start a b) b)

-- the rows of lines from an index on, of which blocks are replaced
abbrev pub rows_of : List (List ℕ) → ℕ → List LineBlock → List Row
rows_of ls i [] = rows_with Kept (drop i ls)
rows_of ls i (b ∷ bs) =
    rows_with Kept (slice_range ls i b.first)
    ++ (line_rows (slice_range ls b.first b.end) (lines b.new) ++ rows_of ls b.end bs)

-- blocks are in order among these lines, from an index on
abbrev pub FitLines : List (List ℕ) → ℕ → List LineBlock → Type 0
FitLines ls i [] = i ≤ length ls
FitLines ls i (b ∷ bs) =
    (i ≤ b.first) × (b.first ≤ b.end) × (b.end ≤ length ls) × FitLines ls b.end bs

-- the rows of lines up to an index, and that blocks are in order up to there
abbrev pub rows_to : List (List ℕ) → ℕ → List LineBlock → ℕ → List Row
rows_to ls i [] to = rows_with Kept (slice_range ls i to)
rows_to ls i (b ∷ bs) to =
    rows_with Kept (slice_range ls i b.first)
    ++ (line_rows (slice_range ls b.first b.end) (lines b.new) ++ rows_to ls b.end bs to)

abbrev pub FitTo : ℕ → List LineBlock → ℕ → Type 0
FitTo i [] to = i ≤ to
FitTo i (b ∷ bs) to = (i ≤ b.first) × (b.first ≤ b.end) × FitTo b.end bs to

-- the blocks so far are those of the lines up to an index; the lines from there on are those of
-- what is held and of this rest of the text
pub record HasLines (ls : List (List ℕ)) (c : Collector) (rest : List ℕ) : Type 0 where
  pub fit : FitTo 0 (map block_view c.blocks.items) c.line
  pub within : c.line ≤ length ls
  pub lines : drop c.line ls ≡ lines (string_bytes c.before ++ rest)

-- with the blocks that what is held and more pieces make the rows are all
pub record Holds (ls : List (List ℕ)) (all : List Row) (c : Collector) (rest : List ℕ)
    (ps : List Change) : Type 0 where
  pub has_lines : HasLines ls c rest
  pub rows : rows_to ls 0 (map block_view c.blocks.items) c.line
      ++ flat_map block_rows (blocks_from
      (record { old = string_bytes c.before; new = string_bytes c.after }) ps)
      ≡ all

-- with the rows of what is held, as a block, and more rows they are
pub record HoldsBlock (ls : List (List ℕ)) (all : List Row) (c : Collector) (rest : List ℕ)
    (rows : List Row) : Type 0 where
  pub has_lines : HasLines ls c rest
  pub whole : (is_whole (string_bytes c.before) ≡ true) ⊎ (rest ≡ [])
  pub all_rows : rows_to ls 0 (map block_view c.blocks.items) c.line
      ++ (block_rows (record { old = string_bytes c.before; new = string_bytes c.after }) ++ rows)
      ≡ all
