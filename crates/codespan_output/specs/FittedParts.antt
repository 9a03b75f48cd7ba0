-- What is shown of a line that is shortened, and what is left out of it.
use Rattle.std.specs.Prelude.{ℕ, ◌+◌, ◌-◌, min, Bool, true, false, ◌&&◌, ◌==◌}
use Rattle.std.specs.Prelude.{nat_lt, nat_le, if◌then◌else◌, List, [], ◌∷◌, ◌++◌}
use Rattle.std.specs.Prelude.{length, map, flat_map, take, drop, unwrap_or, zero, suc}
use Rattle.std.specs.List.{list_any}
use Rattle.std.specs.Str.{byte, chars}
use Rattle.std.specs.Char.{len_utf8}
use Rattle.unicode_width.specs.Width.{char_width}
use Rattle.codespan_core.specs.Labels.{LabelModel, LaneMark, MultiLabel, Top, Left, Bottom}
use Rattle.codespan_output.specs.CharMetrics.{leading_whitespace}
use Rattle.codespan_output.specs.Lanes.{begins_in_source_row}
use Rattle.codespan_output.specs.Rows.{Line}

-- ---- units

-- a unit of a text: a character with the characters without cells after it; how many bytes and
-- cells it has
pub record TextUnit : Type 0 where
  pub bytes : ℕ
  pub cells : ℕ

-- the cells of a character, of a tab as many as it can have: those between two tab stops
abbrev pub cells_at_most : ℕ → ℕ → ℕ
cells_at_most tab c = if c == byte "\t" then tab else unwrap_or (char_width false c) 0

-- a character before these units: it takes in the first of them, where that has no cells
abbrev pub with_char : ℕ → ℕ → List TextUnit → List TextUnit
with_char tab c [] = record { bytes = len_utf8 c; cells = cells_at_most tab c } ∷ []
with_char tab c (u ∷ us) =
    if u.cells == 0 then record { bytes = len_utf8 c + u.bytes; cells = cells_at_most tab c } ∷ us
    else record { bytes = len_utf8 c; cells = cells_at_most tab c } ∷ u ∷ us

-- the units of these characters
abbrev pub units_of : ℕ → List ℕ → List TextUnit
units_of tab [] = []
units_of tab (c ∷ cs) = with_char tab c (units_of tab cs)

-- the bytes of these units
abbrev pub unit_bytes : List TextUnit → ℕ
unit_bytes [] = 0
unit_bytes (u ∷ us) = u.bytes + unit_bytes us

-- the cells of these units
abbrev pub unit_cells : List TextUnit → ℕ
unit_cells [] = 0
unit_cells (u ∷ us) = u.cells + unit_cells us

-- ---- what has to be shown

-- the first byte of what starts at a byte index, on a line of `n` bytes
abbrev pub first_byte : ℕ → ℕ → ℕ
first_byte n start = min start (n - 1)

-- the last byte of what ends at a byte index, on a line of `n` bytes
abbrev pub last_byte : ℕ → ℕ → ℕ
last_byte n end = min end n - 1

-- a span is what has to be shown, by its first and its last byte; that of a label as a whole
abbrev pub whole_span : ℕ → LabelModel → List (ℕ × ℕ)
whole_span n x = (first_byte n x.start, last_byte n x.end) ∷ []

-- the spans of the two ends of a label
abbrev pub end_spans : ℕ → LabelModel → List (ℕ × ℕ)
end_spans n x =
    (first_byte n x.start, first_byte n x.start) ∷ (last_byte n x.end, last_byte n x.end) ∷ []

-- the span of a multi-line label's start or end; of a corner in the source row with what is before
abbrev pub mark_spans : ℕ → ℕ → MultiLabel → List (ℕ × ℕ)
mark_spans n leading (Top start) =
    ((if begins_in_source_row leading start then 0 else first_byte n start), first_byte n start)
    ∷ []
mark_spans n leading Left = []
mark_spans n leading (Bottom end message) = (last_byte n end, last_byte n end) ∷ []

-- these spans, that of the first byte of the line where there is none
abbrev pub or_line_start : List (ℕ × ℕ) → List (ℕ × ℕ)
or_line_start [] = (0, 0) ∷ []
or_line_start (s ∷ ss) = s ∷ ss

-- what has to be shown of a line: of its labels what `label_spans` has
abbrev pub needed_spans : (ℕ → LabelModel → List (ℕ × ℕ)) → Line → List (ℕ × ℕ)
needed_spans label_spans line =
    or_line_start (flat_map (label_spans (length line.text)) line.labels
    ++ flat_map
    (λ (m : LaneMark).
    mark_spans (length line.text) (leading_whitespace line.text) m.multi_label)
    line.lanes.lane_marks)

-- one of the bytes from `start` to before `end` is in a span
abbrev pub is_needed : List (ℕ × ℕ) → ℕ → ℕ → Bool
is_needed spans start end = list_any (λ (s : ℕ × ℕ). nat_lt s.0 end && nat_le start s.1) spans

-- ---- parts and pieces

-- a part of a line: a unit that has to be shown; or a gap, all units between two such, and whether
-- one is before it and one is after it
pub data Part : Type 0 where
  Needed : TextUnit → Part
  Gap : Bool → Bool → List TextUnit → Part

-- the parts of a line from byte `start` on, before which are the units of a gap
abbrev pub parts_from : List (ℕ × ℕ) → Bool → List TextUnit → ℕ → List TextUnit
    → List Part
parts_from spans after gap start [] = Gap after false gap ∷ []
parts_from spans after gap start (u ∷ us) =
    if is_needed spans start (start + u.bytes)
    then Gap after true gap ∷ Needed u ∷ parts_from spans true [] (start + u.bytes) us
    else parts_from spans after (gap ++ u ∷ []) (start + u.bytes) us

-- a piece of a line that is shortened: a unit that is shown, or units for which dots stand
pub data Piece : Type 0 where
  Kept : TextUnit → Piece
  Dots : List TextUnit → Piece

-- how many of these units are the first ones that have at most so many cells together
abbrev pub count_within : ℕ → List TextUnit → ℕ
count_within cells [] = 0
count_within cells (u ∷ us) =
    if nat_le u.cells cells then suc (count_within (cells - u.cells) us) else 0

-- how many of these units are before the last ones that have at most so many cells together
abbrev pub count_before : ℕ → List TextUnit → ℕ
count_before cells [] = 0
count_before cells (u ∷ us) =
    if nat_le (unit_cells (u ∷ us)) cells then 0 else suc (count_before cells us)

-- these units, but those from one index to before another left out, where they are more than three
abbrev pub leave_out : ℕ → ℕ → List TextUnit → List Piece
leave_out first end us =
    if nat_lt (first + 3) end
    then map Kept (take first us) ++ Dots (drop first (take end us)) ∷ map Kept (drop end us)
    else map Kept us

-- the pieces of a part: of a gap the units within the radius, in cells, of a unit that has to be
-- shown are kept
abbrev pub part_pieces : ℕ → Part → List Piece
part_pieces radius (Needed u) = Kept u ∷ []
part_pieces radius (Gap after before us) =
    leave_out (if after then count_within radius us else 0)
    (if before then count_before radius us else length us) us

-- the pieces of a line
abbrev pub pieces_of : ℕ → List Part → List Piece
pieces_of radius parts = flat_map (part_pieces radius) parts

-- ---- the radius

-- the cells of these pieces
abbrev pub piece_cells : List Piece → ℕ
piece_cells [] = 0
piece_cells (Kept u ∷ ps) = u.cells + piece_cells ps
piece_cells (Dots us ∷ ps) = 3 + piece_cells ps

-- the line has at most so many cells at a radius
abbrev pub fits_at : ℕ → List Part → ℕ → Bool
fits_at cells parts radius = nat_le (piece_cells (pieces_of radius parts)) cells

-- the greatest number up to `n` that passes the test, 0 where none does
abbrev pub greatest : (ℕ → Bool) → ℕ → ℕ
greatest passes zero = 0
greatest passes (suc n) = if passes (suc n) then suc n else greatest passes n

-- the parts of a line
abbrev pub parts_of : (ℕ → LabelModel → List (ℕ × ℕ)) → ℕ → Line → List Part
parts_of label_spans tab line =
    parts_from (needed_spans label_spans line) false [] 0 (units_of tab (chars line.text))

-- the parts of a line with whole labels where these fit, and else with the ends of labels
abbrev pub chosen_parts : ℕ → ℕ → Line → List Part
chosen_parts cells tab line =
    if fits_at cells (parts_of whole_span tab line) 0 then parts_of whole_span tab line
    else parts_of end_spans tab line

-- the pieces of a line at the greatest radius at which it has at most so many cells
abbrev pub shortened : ℕ → ℕ → Line → List Piece
shortened cells tab line =
    pieces_of (greatest (fits_at cells (chosen_parts cells tab line)) cells)
    (chosen_parts cells tab line)
