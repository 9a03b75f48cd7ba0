-- The laws of lanes: what a lane shows in each row says where its label goes, and is what the row's
-- stream has there.
use Rattle.std.specs.Prelude.{◌≡◌, ℕ, ◌<◌, ◌≤◌, ◌⊎◌, ◌↔◌, false, List}
use Rattle.std.specs.Prelude.{[], ◌++◌, length, slice_get, Option, Some}
use Rattle.std.specs.Option.{option_map, option_map_or}
use Rattle.codespan_output.specs.Types.{Layout}
use Rattle.codespan_core.specs.FileModel.{FileModel}
use Rattle.codespan_core.specs.Labels.{LabelModel, first_line, last_line, multi_line_labels}
use Rattle.codespan_core.specs.Streams.{Stream}
use Rattle.codespan_output.specs.declared.lane_shapes.Shape.{Shape}
use Rattle.codespan_output.specs.declared.lane_shapes.Shape.TheVariants.{Space, Bar, TopCorner}
use Rattle.codespan_output.specs.declared.lane_shapes.Shape.TheVariants.{BottomCorner}
use Rattle.codespan_output.specs.Lanes.{row_shape, lane_mark_in, shape_of, is_unbroken}
use Rattle.codespan_output.specs.Rows.{RowContext, Lanes, Line, Row, EmptyRow, BreakRow, SourceRow}
use Rattle.codespan_output.specs.RowStreams.{stream_of}
use Rattle.codespan_output.specs.Snippets.{LabeledFileModel, line_at}
use Rattle.codespan_output.specs.RowParts.{line_of_row, lane_row_kind_of, leading_of_row, gutters}

-- the lanes of a row that has them
abbrev pub lanes_of_row : Row → Option Lanes
lanes_of_row (EmptyRow lanes) = Some lanes
lanes_of_row (BreakRow lanes) = Some lanes
lanes_of_row row = option_map (λ (line : Line). line.lanes) (line_of_row row)

-- what a row shows in a lane
abbrev pub shape_in : Layout → Row → ℕ → Shape
shape_in layout row lane =
    shape_of (row_shape layout (leading_of_row row) (lane_row_kind_of row) lane)
    (lane_mark_in (option_map_or (λ (lanes : Lanes). lanes.lane_marks) (lanes_of_row row) []) lane)

-- the lane is that of this label of the file
abbrev pub HasLane : LabeledFileModel → ℕ → LabelModel → Type 0
HasLane s lane x = slice_get (multi_line_labels s.file s.labels) lane ≡ Some x

-- a bar line of a label: one after its first line, up to its last
abbrev pub IsBarLine : FileModel → LabelModel → ℕ → Type 0
IsBarLine f x l = (first_line f x < l) × (l ≤ last_line f x)

-- on source and break rows a lane has a bar exactly on the bar lines of its label
abbrev pub BarsAreLabels : Layout → LabeledFileModel → Type 0
BarsAreLabels layout s = (l lane : ℕ) (x : LabelModel) → HasLane s lane x
    → ((shape_in layout (SourceRow (line_at s l)) lane ≡ Bar) ↔ IsBarLine s.file x l)
    × ((shape_in layout (BreakRow (line_at s l).lanes) lane ≡ Bar) ↔ IsBarLine s.file x l)

-- ---- each lane is one line

-- what one of these rows shows in a lane
abbrev pub shape_at : Layout → List Row → ℕ → ℕ → Option Shape
shape_at layout rows k lane = option_map (λ row. shape_in layout row lane) (slice_get rows k)

-- below a top corner in a source row the other rows of its line may leave the lane out, but not in
-- the unbroken layout
pub record MayLeaveOut (layout : Layout) (s : LabeledFileModel) (rows : List Row) (lane : ℕ)
    (x : LabelModel) (top k : ℕ) : Type 0 where
  pub is_classic : is_unbroken layout ≡ false
  pub begins_in_source_row : slice_get rows top
      ≡ Some (SourceRow (line_at s (first_line s.file x)))
  pub shows_space : shape_at layout rows k lane ≡ Some Space
  pub is_of_line : (row : Row) → slice_get rows k ≡ Some row
      → line_of_row row ≡ Some (line_at s (first_line s.file x))

-- a lane has a top corner in one row, a bottom corner in a later one, and bars between; above and
-- below these rows it shows nothing
pub record IsCornerToCorner (layout : Layout) (s : LabeledFileModel) (rows : List Row) (lane : ℕ)
    (x : LabelModel) : Type 0 where
  pub top : ℕ
  pub bottom : ℕ
  pub in_order : top < bottom
  pub top_corner : shape_at layout rows top lane ≡ Some TopCorner
  pub bottom_corner : shape_at layout rows bottom lane ≡ Some BottomCorner
  pub between : (k : ℕ) → top < k → k < bottom
      → (shape_at layout rows k lane ≡ Some Bar) ⊎ MayLeaveOut layout s rows lane x top k
  pub before : (k : ℕ) → k < top → shape_at layout rows k lane ≡ Some Space
  pub after : (k : ℕ) → bottom < k → k < length rows
      → shape_at layout rows k lane ≡ Some Space

-- each lane of a file is one line through these rows
abbrev pub LanesJoinCorners : Layout → LabeledFileModel → List Row → Type 0
LanesJoinCorners layout s rows =
    (lane : ℕ) (x : LabelModel) → HasLane s lane x → IsCornerToCorner layout s rows lane x

-- ---- what each lane shows is what the stream of its row has there

-- the stream of a row that has lanes begins with its gutters, which have what it shows in each lane
abbrev pub LanesAreShown : RowContext → Type 0
LanesAreShown context = (row : Row) (lanes : Lanes) → lanes_of_row row ≡ Some lanes
    → (after : Stream) × (stream_of context row ≡ gutters context row lanes ++ after)
