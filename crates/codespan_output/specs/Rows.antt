-- The rows of an output, and what each is rendered from.
use Rattle.std.specs.Prelude.{ℕ, Bool, true, false, not, ◌&&◌, ◌==◌, List, [], ◌∷◌}
use Rattle.std.specs.Prelude.{◌++◌, map, filter, reverse, Option, Some, None}
use Rattle.std.specs.Prelude.{if◌then◌else◌}
use Rattle.std.specs.List.{list_any, last_or}
use Rattle.std.specs.Option.{option_and_then, option_map, option_map_or}
use Rattle.codespan_output.specs.Types.{Severity, Chars, Layout, Location}
use Rattle.codespan_core.specs.Labels.{LabelModel, has_message, LaneMark, MultiLabel, Top, Left}
use Rattle.codespan_core.specs.Labels.{Bottom}
use Rattle.codespan_output.specs.CharMetrics.{leading_whitespace}
use Rattle.codespan_output.specs.Carets.{is_overlapping, max_label_end}
use Rattle.codespan_output.specs.Lanes.{begins_in_source_row}

-- a file's name and a location in it, as users see them
pub record Locus : Type 0 where
  pub name : List ℕ
  pub location : Location

-- the code and the message of a header
pub record HeaderText : Type 0 where
  pub code : Option (List ℕ)
  pub message : List ℕ

-- what all rows of an output are rendered by
pub record RowContext : Type 0 where
  pub chars : Chars
  pub tab_width : ℕ
  pub layout : Layout
  pub severity : Severity
  pub padding : ℕ

-- how many lanes a row has, and the lane marks in them
pub record Lanes : Type 0 where
  pub count : ℕ
  pub lane_marks : List LaneMark

-- a drawn line with what its labels do on it
pub record Line : Type 0 where
  pub number : ℕ
  pub text : List ℕ
  pub labels : List LabelModel
  pub lanes : Lanes

-- one row of an output
pub data Row : Type 0 where
  HeaderRow : Option Locus → HeaderText → Row
  SnippetStartRow : Locus → Row
  EmptyRow : Lanes → Row
  BreakRow : Lanes → Row
  SourceRow : Line → Row
  CaretRow : Line → Row
  PointerRow : Line → Row
  HangingRow : Line → LabelModel → Row
  UnderlineRow : Line → LaneMark → Row
  FirstNoteRow : List ℕ → Row
  LaterNoteRow : List ℕ → Row
  FinalRow : Row

-- ---- trailing and hanging labels

-- each of the labels, with the others
abbrev pub with_others : List LabelModel → List (LabelModel × List LabelModel)
with_others [] = []
with_others (x ∷ xs) =
    (x, xs) ∷ map (λ (e : LabelModel × List LabelModel). (e.0, x ∷ e.1)) (with_others xs)

-- the message of a label among others trails: it is not empty, and none of them overlaps the label
abbrev pub trails : LabelModel × List LabelModel → Bool
trails e =
    has_message e.0
    && not (list_any (λ (y : LabelModel). is_overlapping e.0 y.start y.end) e.1)

-- the last of the labels with the greatest end, with the others, where its message trails
abbrev pub trailing_and_others : List LabelModel → Option (LabelModel × List LabelModel)
trailing_and_others labels =
    option_and_then (λ e. if trails e then Some e else None)
    (last_or None
    (filter (λ (e : LabelModel × List LabelModel). e.0.end == max_label_end labels)
    (with_others labels)))

-- the label whose message trails
abbrev pub trailing_label : List LabelModel → Option LabelModel
trailing_label labels =
    option_map (λ (e : LabelModel × List LabelModel). e.0) (trailing_and_others labels)

-- the labels that hang: all others with a message
abbrev pub hanging_labels : List LabelModel → List LabelModel
hanging_labels labels =
    filter has_message
    (option_map_or (λ (e : LabelModel × List LabelModel). e.1) (trailing_and_others labels)
    labels)

-- ---- underlines

-- a multi-line label mark has an underline row: a top whose corner is not in the source row, or a
-- bottom
abbrev pub has_underline : ℕ → MultiLabel → Bool
has_underline leading (Top start) = not (begins_in_source_row leading start)
has_underline leading Left = false
has_underline leading (Bottom end message) = true

-- ---- the rows of a line

-- this row, where the list has an element
abbrev pub row_if_any : {A : Type 0} → List A → Row → List Row
row_if_any [] row = []
row_if_any (x ∷ xs) row = row ∷ []

-- all rows of a line: the source, and the carets where it has labels; the pointers where labels
-- hang, and a row for each message, that of the last label first; the underlines by their lanes
abbrev pub rows_of : Line → List Row
rows_of line =
    (SourceRow line ∷ row_if_any line.labels (CaretRow line))
    ++ (row_if_any (hanging_labels line.labels) (PointerRow line)
    ++ map (HangingRow line) (reverse (hanging_labels line.labels)))
    ++ map (UnderlineRow line)
    (filter (λ (m : LaneMark). has_underline (leading_whitespace line.text) m.multi_label)
    line.lanes.lane_marks)
