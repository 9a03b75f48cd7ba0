-- What the characters of a line are made from.
use Rattle.std.specs.Prelude.{◌≡◌, ℕ, ◌+◌, ◌≤◌, List, [], ◌∷◌, ◌++◌}
use Rattle.codespan_output.specs.declared.char_metrics.Metrics.{Metrics}
use Rattle.codespan_output.specs.CharMetrics.{char_metrics, char_metrics_to_end, width_of}
use Rattle.codespan_output.specs.Arguments.{SingleLabelTuple, single_label_views}
use Rattle.codespan_output.specs.Rows.{hanging_labels}
use Rattle.codespan_output.specs.declared.rows.pointer_cursor.Pointer.{Pointer}
use Rattle.codespan_output.specs.Private.PointerLists.{pointers_in}
use Rattle.codespan_output.specs.declared.rows.line.RowContext as rust_context
use Rattle.codespan_output.specs.declared.rows.line.Line as rust_line

-- what they are made from: the tab width, the text and the labels of the line
pub record CharInput : Type 0 where
  pub tab_width : ℕ
  pub text : List ℕ
  pub labels : List SingleLabelTuple

-- what those of a drawn line are made from
abbrev pub char_input : rust_context.RowContext → rust_line.Line → CharInput
char_input x line = record {
  tab_width = x.tab_width;
  text = line.text.now;
  labels = line.labels.now;
}

-- the characters of the line
abbrev pub metrics_of : CharInput → List Metrics
metrics_of x = char_metrics x.tab_width x.text

-- the characters of the line, and the placeholder after the last one
abbrev pub metrics_to_end_of : CharInput → List Metrics
metrics_to_end_of x = char_metrics_to_end x.tab_width x.text

-- the pointers of the line
abbrev pub pointers_of : CharInput → List Pointer
pointers_of x = pointers_in (hanging_labels (single_label_views x.labels)) (metrics_of x)

-- the characters end at this byte index or before it
abbrev pub EndBy : ℕ → List Metrics → Type 0
EndBy byte_index [] = Unit {0}
EndBy byte_index (c ∷ cs) = (c.byte_index + c.bytes ≤ byte_index) × EndBy byte_index cs

-- `remaining` are the characters `all` but for some at the start, which end at this byte index or
-- before it and occupy so many cells that the others begin at this column
pub record LeavesOut (byte_index : ℕ) (all : List Metrics) (column : ℕ)
    (remaining : List Metrics) : Type 0 where
  pub before : List Metrics
  pub whole : before ++ remaining ≡ all
  pub ended : EndBy byte_index before
  pub width : column ≡ width_of before
