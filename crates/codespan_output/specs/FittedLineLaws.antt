-- The laws of lines that fit a width: what is shown of a line, where its labels are, and its rows.
use Rattle.std.specs.Prelude.{Contains, ◌≡◌, ℕ, ◌+◌, ◌-◌, ◌<◌, ◌≤◌, max, Bool, true, false, nat_lt}
use Rattle.std.specs.Prelude.{List, [], ◌∷◌, ◌++◌, length, map, Option, Some, if◌then◌else◌}
use Rattle.std.specs.Prelude.{slice_index, IfSome}
use Rattle.std.specs.List.{AllByRecursion}
use Rattle.std.specs.Str.{chars, IsUtf8}
use Rattle.codespan_core.specs.FileModel.{FileDatabase}
use Rattle.codespan_core.specs.Labels.{LabelModel, LaneMark, MultiLabel, Top, Left, Bottom}
use Rattle.codespan_core.specs.LawfulFiles.{IsLawful}
use Rattle.codespan_output.specs.Types.{Config}
use Rattle.codespan_output.specs.declared.char_metrics.Metrics.{Metrics}
use Rattle.codespan_output.specs.Carets.{is_overlapping, style_of_any, style_under}
use Rattle.codespan_output.specs.CharMetrics.{char_metrics, leading_whitespace}
use Rattle.codespan_output.specs.FittedLines.{fitted, fitted_pieces, fitted_row, line_cells, moved}
use Rattle.codespan_output.specs.FittedLines.{past_end, room, shown_text}
use Rattle.codespan_output.specs.FittedParts.{TextUnit, Piece, Kept, Dots, unit_bytes, units_of}
use Rattle.codespan_output.specs.FittedParts.{first_byte, last_byte, whole_span, end_spans}
use Rattle.codespan_output.specs.FittedParts.{is_needed, needed_spans, parts_of, pieces_of}
use Rattle.codespan_output.specs.FittedParts.{piece_cells, fits_at, shortened}
use Rattle.codespan_output.specs.RowParts.{multi_label_covers, source_style, starts_in}
use Rattle.codespan_output.specs.Rows.{RowContext, Line, hanging_labels, rows_of}

-- the text of the line is UTF-8, and no label's last byte is before its first one
pub record IsFittable (line : Line) : Type 0 where
  pub is_utf8 : IsUtf8 line.text
  pub forward : AllByRecursion
      (λ (x : LabelModel). first_byte (length line.text) x.start
      ≤ last_byte (length line.text) x.end)
      line.labels

-- where lines have to fit a width, the files are lawful: each line that is drawn is as above
abbrev pub CanFit : {Id : Type 0} → Config → FileDatabase Id → Type 0
CanFit {Id} renderer_config files =
    IfSome renderer_config.max_width (λ _. (id : Id) → IsLawful (files.file id))

-- ---- what is kept

-- the units that these pieces show or that dots stand for
abbrev pub piece_units : List Piece → List TextUnit
piece_units [] = []
piece_units (Kept u ∷ ps) = u ∷ piece_units ps
piece_units (Dots us ∷ ps) = us ++ piece_units ps

-- dots stand for more than three units
abbrev pub DotsAreMany : List Piece → Type 0
DotsAreMany [] = Unit
DotsAreMany (Kept u ∷ ps) = DotsAreMany ps
DotsAreMany (Dots us ∷ ps) = (3 < length us) × DotsAreMany ps

-- the byte is kept: no dots stand for it
abbrev pub is_kept : List Piece → ℕ → Bool
is_kept [] x = true
is_kept (Kept u ∷ ps) x = if nat_lt x u.bytes then true else is_kept ps (x - u.bytes)
is_kept (Dots us ∷ ps) x =
    if nat_lt x (unit_bytes us) then false else is_kept ps (x - unit_bytes us)

-- all bytes from one on up to before another are kept
abbrev pub AreKept : List Piece → ℕ → ℕ → Type 0
AreKept ps start end = (x : ℕ) → start ≤ x → x < end → is_kept ps x ≡ true

-- the first and the last byte of a label on a line of `n` bytes are kept
pub record LabelIsKept (ps : List Piece) (n : ℕ) (x : LabelModel) : Type 0 where
  pub first : is_kept ps (first_byte n x.start) ≡ true
  pub last : is_kept ps (last_byte n x.end) ≡ true

-- the first byte of a multi-line label that starts on the line is kept, with white space before it
-- where its corner is in the source row; and the last byte of one that ends there
abbrev pub MarkIsKept : List Piece → ℕ → ℕ → MultiLabel → Type 0
MarkIsKept ps n leading (Top start) =
    (is_kept ps (first_byte n start) ≡ true) × (start ≤ leading → AreKept ps 0 start)
MarkIsKept ps n leading Left = Unit
MarkIsKept ps n leading (Bottom end message) = is_kept ps (last_byte n end) ≡ true

-- these pieces are the units of the line, in order, and keep the ends of its labels
pub record PiecesAreLine (tab : ℕ) (line : Line) (ps : List Piece) : Type 0 where
  pub units : piece_units ps ≡ units_of tab (chars line.text)
  pub bytes : unit_bytes (piece_units ps) ≡ length line.text
  pub dots_are_many : DotsAreMany ps
  pub labels : AllByRecursion (LabelIsKept ps (length line.text)) line.labels
  pub marks : AllByRecursion
      (λ (m : LaneMark). MarkIsKept ps (length line.text) (leading_whitespace line.text)
      m.multi_label)
      line.lanes.lane_marks

-- so it is with a line that is shortened: it keeps all that has to be shown, of labels their ends,
-- and where labels fit they are kept as a whole
pub record ShortenedIsLine (cells tab : ℕ) (line : Line) : Type 0 where
  pub pieces : PiecesAreLine tab line (shortened cells tab line)
  pub needed : (x : ℕ) → is_needed (needed_spans end_spans line) x (x + 1) ≡ true
      → is_kept (shortened cells tab line) x ≡ true
  pub whole : fits_at cells (parts_of whole_span tab line) 0 ≡ true
      → AllByRecursion (λ (x : LabelModel). AreKept (shortened cells tab line) x.start x.end)
      line.labels

-- a line on which no label starts or ends is cut at its end alone
abbrev pub CutAtEnd : ℕ → ℕ → Line → Type 0
CutAtEnd cells tab line = line.labels ≡ []
    → AllByRecursion (λ (m : LaneMark). m.multi_label ≡ Left) line.lanes.lane_marks
    → (x : ℕ) → x < length line.text → is_kept (shortened cells tab line) x ≡ true
    → AreKept (shortened cells tab line) 0 x

-- ---- where bytes are

-- where these pieces of a line move its bytes
pub record BytesAreMoved (ps : List Piece) (line : Line) : Type 0 where
  -- none to the right, and none before an earlier one
  pub shrinks : (x : ℕ) → moved ps x ≤ x
  pub rises : (x y : ℕ) → x ≤ y → moved ps x ≤ moved ps y
  -- what is before a kept byte stays before it, and what is before the byte after one
  pub before_kept : (x y : ℕ) → x < y → is_kept ps y ≡ true → moved ps x < moved ps y
  pub behind_kept : (x y : ℕ) → x < y → is_kept ps (y - 1) ≡ true → moved ps x < moved ps y
  -- a kept byte is what is shown where it is moved to, and what is shown is UTF-8
  pub shown : (x : ℕ) → x < length line.text → is_kept ps x ≡ true
      → slice_index (shown_text ps line.text) (moved ps x) ≡ slice_index line.text x
  pub is_utf8 : IsUtf8 (shown_text ps line.text)

-- ---- where labels are

-- a character where it is shown
abbrev pub moved_char : List Piece → Metrics → Metrics
moved_char ps c = record c { byte_index = moved ps c.byte_index }

-- a character that is kept
pub record CharIsKept (ps : List Piece) (c : Metrics) : Type 0 where
  pub has_bytes : 0 < c.bytes
  pub are : AreKept ps c.byte_index (c.byte_index + c.bytes)

-- one of these characters is this one, at this byte
pub record HasCharAt (cs : List Metrics) (ch byte_index : ℕ) : Type 0 where
  pub metrics : Metrics
  pub contains : Contains cs metrics
  pub is_char : metrics.ch ≡ ch
  pub is_there : metrics.byte_index ≡ byte_index

-- a character of the line that is kept is shown where it is moved to
abbrev pub CharsAreShown : ℕ → List Piece → Line → Type 0
CharsAreShown tab ps line = (c : Metrics) → Contains (char_metrics tab line.text) c
    → CharIsKept ps c
    → HasCharAt (char_metrics tab (shown_text ps line.text)) c.ch (moved ps c.byte_index)

-- of bytes that are moved to one index, as those for which the same dots stand, the test passes all
-- or none
abbrev pub AllOrNone : List Piece → (ℕ → Bool) → Type 0
AllOrNone ps has = (x y : ℕ) → moved ps x ≡ moved ps y → has x ≡ has y

-- a multi-line label has the byte on this line
abbrev pub multi_label_has : MultiLabel → ℕ → Bool
multi_label_has m x =
    multi_label_covers
    (record { ch = 0; byte_index = x; bytes = 1; column = 0; unicode_width = 0 }) m

-- each label of a line is where it was
pub record LabelsStay (ps : List Piece) (line shown : Line) : Type 0 where
  -- a kept character has the same carets, the same color and the same pointers
  pub carets : (c : Metrics) → CharIsKept ps c
      → style_under shown.labels (moved_char ps c) ≡ style_under line.labels c
  pub colors : (c : Metrics) → CharIsKept ps c
      → source_style shown (moved_char ps c) ≡ source_style line c
  pub pointers : (c : Metrics) → CharIsKept ps c
      → style_of_any (starts_in (moved_char ps c)) (hanging_labels shown.labels)
      ≡ style_of_any (starts_in c) (hanging_labels line.labels)
  -- a label has all that dots stand for, or nothing of it
  pub dots : AllByRecursion
      (λ (x : LabelModel). AllOrNone ps (λ b. is_overlapping x b (b + 1))) line.labels
  pub mark_dots : AllByRecursion
      (λ (m : LaneMark). AllOrNone ps (multi_label_has m.multi_label)) line.lanes.lane_marks

-- ---- lines that fit

-- the cells of a line at the least that has to be shown of it
abbrev pub needed_cells : ℕ → Line → ℕ
needed_cells tab line = piece_cells (pieces_of 0 (parts_of end_spans tab line)) + past_end line

-- a line that fits a width has at most the cells that it leaves, or those that are needed
abbrev pub HasWidth : ℕ → RowContext → Line → Type 0
HasWidth width context line = line_cells context.tab_width (fitted (Some width) context line)
    ≤ max (room width context.padding line.lanes) (needed_cells context.tab_width line)

-- fitting it again changes nothing
abbrev pub FitsOnce : Option ℕ → RowContext → Line → Type 0
FitsOnce width context line =
    fitted width context (fitted width context line) ≡ fitted width context line

-- its rows are those of the line, each with the line that fits
abbrev pub FittedRowsAreRows : Option ℕ → RowContext → Line → Type 0
FittedRowsAreRows width context line =
    rows_of (fitted width context line) ≡ map (fitted_row width context) (rows_of line)

-- the line that fits a width is the line: its bytes, characters and labels are where they are moved
-- to, and its rows are those of the line
pub record FittedIsLine (width : Option ℕ) (context : RowContext) (line : Line) : Type 0 where
  pub bytes : BytesAreMoved (fitted_pieces width context line) line
  pub chars : CharsAreShown context.tab_width (fitted_pieces width context line) line
  pub labels : LabelsStay (fitted_pieces width context line) line (fitted width context line)
  pub rows : FittedRowsAreRows width context line

-- what it is to fit a line, for every line that can be fitted
pub record LinesFitWidths : Type 0 where
  pub is_line : (width : Option ℕ) (context : RowContext) (line : Line) → IsFittable line
      → FittedIsLine width context line
  pub fits_once : (width : Option ℕ) (context : RowContext) (line : Line) → IsFittable line
      → FitsOnce width context line
  pub has_width : (width : ℕ) (context : RowContext) (line : Line) → IsFittable line
      → HasWidth width context line
  pub shortened_is_line : (cells tab : ℕ) (line : Line) → IsFittable line
      → ShortenedIsLine cells tab line
  pub cut_at_end : (cells tab : ℕ) (line : Line) → IsFittable line → CutAtEnd cells tab line
