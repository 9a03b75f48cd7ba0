-- The laws of carets and pointers: carets are under the characters that labels cover, and pointers
-- under those in which labels start.
use Rattle.std.specs.Prelude.{◌≡◌, ℕ, ◌<◌, Bool, ◌&&◌, ◌==◌, List, ◌++◌}
use Rattle.std.specs.Prelude.{map, Contains, IsTrue, encode_utf8_all, if◌then◌else◌, find}
use Rattle.std.specs.Prelude.{nat_le, nat_lt, ◌+◌}
use Rattle.std.specs.List.{list_any, range_with_len}
use Rattle.std.specs.Str.{byte}
use Rattle.codespan_output.specs.Types.{Chars}
use Rattle.codespan_core.specs.Labels.{LabelModel}
use Rattle.codespan_core.specs.Streams.{text_of, space}
use Rattle.codespan_output.specs.declared.char_metrics.Metrics.{Metrics}
use Rattle.codespan_output.specs.CharMetrics.{width_of}
use Rattle.codespan_output.specs.Rows.{RowContext, Line, trailing_label, hanging_labels, CaretRow}
use Rattle.codespan_output.specs.Rows.{PointerRow, HangingRow}
use Rattle.codespan_output.specs.RowParts.{line_metrics, line_metrics_to_end, trailing_message}
use Rattle.codespan_output.specs.RowParts.{starts_in, max_label_start, metrics_before}
use Rattle.codespan_output.specs.RowParts.{metrics_up_to, label_message, gutters}
use Rattle.codespan_output.specs.RowStreams.{stream_of}
use Rattle.codespan_output.specs.Carets.{caret_for, style_under, max_label_end}
use Rattle.std.specs.Option.{option_and_then}

-- the character occupies the cell
abbrev pub occupies : ℕ → Metrics → Bool
occupies k c = nat_le c.column k && nat_lt k (c.column + c.unicode_width)

-- the caret cells of a line, up to the last character that begins before the greatest end: each is
-- that of the style under the character that occupies it
abbrev pub caret_cells : Chars → List LabelModel → List Metrics → List ℕ
caret_cells chars labels cs =
    map (λ k. caret_for chars (option_and_then (style_under labels) (find (occupies k) cs)))
    (range_with_len 0 (width_of (metrics_before (max_label_end labels) cs)))

-- between the lanes and the trailing message of a caret row are its caret cells
abbrev pub CaretsAreCells : RowContext → Type 0
CaretsAreCells context = (line : Line)
    → text_of (stream_of context (CaretRow line))
    ≡ text_of (gutters context (CaretRow line) line.lanes ++ space)
    ++ encode_utf8_all (caret_cells context.chars line.labels (line_metrics_to_end context line))
    ++ text_of (trailing_message context.severity (trailing_label line.labels))

-- ---- pointers

-- a hanging label starts in a character whose first cell this is
abbrev pub points_at : List LabelModel → List Metrics → ℕ → Bool
points_at labels cs k =
    list_any (λ (c : Metrics). (c.column == k) && list_any (starts_in c) (hanging_labels labels))
    cs

-- the first `n` cells of a pointer row
abbrev pub pointer_cells : Chars → List LabelModel → List Metrics → ℕ → List ℕ
pointer_cells chars labels cs n =
    map (λ k. if points_at labels cs k then chars.pointer_left else byte " ") (range_with_len 0 n)

-- no hanging label starts in a character of width 0
abbrev pub StartsHaveCells : List LabelModel → List Metrics → Type 0
StartsHaveCells labels cs = (c : Metrics) (x : LabelModel)
    → Contains cs c → Contains (hanging_labels labels) x → IsTrue (starts_in c x)
    → 0 < c.unicode_width

-- pointers are in the first cells of the characters in which hanging labels start; a message that
-- hangs from a character begins in that character's first cell
pub record PointersAreCells (context : RowContext) (line : Line) : Type 0 where
  pub in_pointer_row : text_of (stream_of context (PointerRow line))
      ≡ text_of (gutters context (PointerRow line) line.lanes ++ space)
      ++ encode_utf8_all (pointer_cells context.chars line.labels (line_metrics context line)
      (width_of (metrics_up_to (max_label_start line.labels) (line_metrics context line))))
  pub in_hanging_row : (x : LabelModel) → Contains (hanging_labels line.labels) x
      → text_of (stream_of context (HangingRow line x))
      ≡ text_of (gutters context (HangingRow line x) line.lanes ++ space)
      ++ encode_utf8_all (pointer_cells context.chars line.labels (line_metrics context line)
      (width_of (metrics_before x.start (line_metrics context line))))
      ++ text_of (label_message context.severity x.style x.message)
  pub message_begins : (x : LabelModel) (c : Metrics)
      → Contains (hanging_labels line.labels) x → Contains (line_metrics context line) c
      → x.start ≡ c.byte_index
      → width_of (metrics_before x.start (line_metrics context line)) ≡ c.column
