-- Cursors over the labels of a line, which pass them as they start.
use Rattle.std.specs.Prelude.{◌≡◌, ℕ, ◌+◌, ◌≤◌, Bool, true, ◌||◌, ◌&&◌}
use Rattle.std.specs.Prelude.{nat_lt, max, if◌then◌else◌, List, drop, filter, Option}
use Rattle.codespan_core.specs.Labels.{LabelModel, has_message, is_primary}
use Rattle.codespan_output.specs.Types.{LabelStyle}
use Rattle.codespan_output.specs.declared.char_metrics.Metrics.{Metrics}
use Rattle.codespan_renderer.specs.declared.term.renderer.cached.label_cursor.LabelCursor.{LabelCursor}
use Rattle.codespan_renderer.specs.declared.term.renderer.cached.label_cursor.StartCursor.{StartCursor}
use Rattle.codespan_output.specs.Arguments.{single_label_views, starts_from, starts_in_order}
use Rattle.codespan_output.specs.RowParts.{starts_in}
use Rattle.codespan_output.specs.Private.CharCursors.{is_covered}
use Rattle.codespan_renderer.specs.Private.PreferredStyles.{preferred_style}

-- the greatest end with that of a label that meets the test, if it covers a byte
abbrev pub end_with : Bool → ℕ → LabelModel → ℕ
end_with counts end x = if counts && nat_lt x.start x.end then max end x.end else end

-- a character that ends at this byte index or later is covered by a label that meets the test,
-- exactly where it begins before `end` or is covered by a remaining label that meets it
pub record IsCoverEnd (test : LabelModel → Bool) (labels left : List LabelModel)
    (byte_index end : ℕ) : Type 0 where
  pub is : (c : Metrics) → byte_index ≤ c.byte_index + c.bytes → 1 ≤ c.bytes
      → is_covered test labels c ≡ (nat_lt c.byte_index end || is_covered test left c)

-- the labels that a cursor over the labels of a line has not passed
abbrev pub remaining_labels : LabelCursor → List LabelModel
remaining_labels s = single_label_views (drop s.next s.labels.now)

-- a cursor has passed the labels that start before this byte index
pub record HasPassedLabels (byte_index : ℕ) (s : LabelCursor) : Type 0 where
  pub primary :
      IsCoverEnd is_primary (single_label_views s.labels.now) (remaining_labels s) byte_index
      s.primary_end
  pub any :
      IsCoverEnd (λ _. true) (single_label_views s.labels.now) (remaining_labels s) byte_index
      s.end
  pub ordered : starts_in_order (remaining_labels s) ≡ true

-- the labels that a cursor over starts of labels has not passed
abbrev pub remaining_start_labels : StartCursor → List LabelModel
remaining_start_labels s = single_label_views (drop s.next s.labels.now)

-- the cursor has passed the labels that start before this byte index: none of them starts in a
-- later character
pub record HasPassedStarts (byte_index : ℕ) (s : StartCursor) : Type 0 where
  pub is : (c : Metrics) (found : Option LabelStyle) → byte_index ≤ c.byte_index
      → preferred_style (starts_in c) found (filter has_message (single_label_views s.labels.now))
      ≡ preferred_style (starts_in c) found (filter has_message (remaining_start_labels s))
  pub ordered : starts_from byte_index (remaining_start_labels s) ≡ true
