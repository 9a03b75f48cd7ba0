-- What a cursor over a cached line has returned, and which labels it has passed.
use Rattle.std.specs.Prelude.{ℕ, ◌+◌, ◌≤◌, List}
use Rattle.codespan_output.specs.declared.char_metrics.Metrics.{Metrics}
use Rattle.codespan_renderer.specs.declared.term.renderer.cached.label_cursor.LabelCursor.{LabelCursor}
use Rattle.codespan_renderer.specs.Private.LabelCursors.{HasPassedLabels}
use Rattle.codespan_output.specs.Private.CharCursors.{AreContiguous}

-- the cursor is before these characters, and has passed the labels that start before the first of
-- them
pub record IsBefore (s : LabelCursor) (left : List Metrics) : Type 0 where
  pub byte_index : ℕ
  pub passed : HasPassedLabels byte_index s
  pub contiguous : AreContiguous byte_index left

-- the cursor has just returned this character and is before these; it has passed the labels that
-- start before the character
pub record HasReturned (c : Metrics) (s : LabelCursor) (left : List Metrics) : Type 0 where
  pub has_byte : 1 ≤ c.bytes
  pub passed : HasPassedLabels c.byte_index s
  pub contiguous : AreContiguous (c.byte_index + c.bytes) left
