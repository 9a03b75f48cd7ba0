-- The lines of a text, and the rows of the diff that edits make.
use Rattle.std.specs.Prelude.{ℕ, ◌-◌, ◌+◌, Bool, ◌&&◌, ◌==◌, if◌then◌else◌}
use Rattle.std.specs.Prelude.{true, List, [], ◌∷◌, ◌++◌, map, take, drop, length}
use Rattle.std.specs.Prelude.{slice_range, reverse}
use Rattle.std.specs.List.{flat_map, common_prefix_len}
use Rattle.std.specs.Str.{byte, bytes_eq}
use Rattle.codespan_edits.specs.Edits.{TextEdit, ListedEdit, listed, in_order}
use Rattle.codespan_edits.specs.declared.rows.RowSign.{RowSign}
use Rattle.codespan_edits.specs.declared.rows.RowSign.TheVariants.{Kept, Removed, Added}

-- lines with one more byte before them
abbrev pub byte_before : ℕ → List (List ℕ) → List (List ℕ)
byte_before b [] = (b ∷ []) ∷ []
byte_before b (l ∷ ls) = (b ∷ l) ∷ ls

-- the lines of a text, which is cut after each newline
abbrev pub lines : List ℕ → List (List ℕ)
lines [] = []
lines (b ∷ bs) = if b == byte "\n" then (b ∷ []) ∷ lines bs else byte_before b (lines bs)

-- whether a text is empty or ends with a newline
abbrev pub is_whole : List ℕ → Bool
is_whole [] = true
is_whole (b ∷ []) = b == byte "\n"
is_whole (b ∷ (c ∷ cs)) = is_whole (c ∷ cs)

-- a part of the old text, and what it is in the new one
pub record Change : Type 0 where
  pub old : List ℕ
  pub new : List ℕ

-- the change of nothing
abbrev pub no_change : Change
no_change = record { old = []; new = [] }

-- a change followed by another one
abbrev pub followed_by : Change → Change → Change
followed_by x y = record { old = x.old ++ y.old; new = x.new ++ y.new }

-- a part that stays
abbrev pub kept : List ℕ → Change
kept text = record { old = text; new = text }

-- the pieces of a text from a byte on: each kept line, and each edit
abbrev pub pieces_from : List ℕ → ℕ → List ListedEdit → List Change
pieces_from text byte [] = map kept (lines (drop byte text))
pieces_from text byte (x ∷ xs) =
    map kept (lines (slice_range text byte x.edit.start))
    ++ (record { old = slice_range text x.edit.start x.edit.end; new = x.edit.replacement }
    ∷ pieces_from text x.edit.end xs)

-- whether both texts of a change are whole
abbrev pub is_block : Change → Bool
is_block x = is_whole x.old && is_whole x.new

-- what is held at the end is a block, unless it is nothing
abbrev pub last_block : Change → List Change
last_block x = if length x.old + length x.new == 0 then [] else x ∷ []

-- the blocks of pieces: each takes pieces until both of its texts are whole; some are held already
abbrev pub blocks_from : Change → List Change → List Change
blocks_from held [] = last_block held
blocks_from held (p ∷ ps) =
    if is_block (followed_by held p) then followed_by held p ∷ blocks_from no_change ps
    else blocks_from (followed_by held p) ps

-- a row of a diff: a line, with its sign
pub record Row : Type 0 where
  pub sign : RowSign
  pub line : List ℕ

-- rows with this sign
abbrev pub rows_with : RowSign → List (List ℕ) → List Row
rows_with sign = map (λ line. record { sign = sign; line = line })

-- how many lines at the start, and how many at the end, two lists of lines have in common
abbrev pub common_start : List (List ℕ) → List (List ℕ) → ℕ
common_start = common_prefix_len bytes_eq

abbrev pub common_end : List (List ℕ) → List (List ℕ) → ℕ
common_end a b = common_start (reverse a) (reverse b)

-- the rows of lines that begin differently: those removed, those added, and those in common at the
-- end
abbrev pub rows_to_end : List (List ℕ) → List (List ℕ) → List Row
rows_to_end a b =
    let n = common_end a b in
    rows_with Removed (take (length a - n) a) ++ (rows_with Added (take (length b - n) b)
    ++ rows_with Kept (drop (length a - n) a))

-- the rows of a block: the lines in common at its start, and the others
abbrev pub block_rows : Change → List Row
block_rows block =
    let n = common_start (lines block.old) (lines block.new) in
    rows_with Kept (take n (lines block.old))
    ++ rows_to_end (drop n (lines block.old)) (drop n (lines block.new))

-- the rows of the diff that edits of a text make
abbrev pub diff_rows : List ℕ → List TextEdit → List Row
diff_rows text edits =
    flat_map block_rows (blocks_from no_change (pieces_from text 0 (in_order (listed edits))))
