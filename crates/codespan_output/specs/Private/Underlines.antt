-- An underline by its width, the number of cells that its run goes through.
use Rattle.std.specs.Prelude.{ℕ, List, [], ◌++◌, Option, Some, None, if◌then◌else◌}
use Rattle.codespan_output.specs.Types.{LabelStyle, Chars}
use Rattle.codespan_core.specs.Labels.{MultiLabel, Top, Left, Bottom}
use Rattle.codespan_core.specs.Streams.{Stream, glyph, repeated}
use Rattle.codespan_output.specs.declared.char_metrics.Metrics.{Metrics}
use Rattle.codespan_output.specs.CharMetrics.{width_of}
use Rattle.codespan_output.specs.Rows.{has_underline}
use Rattle.codespan_output.specs.RowParts.{metrics_before, metrics_up_to, end_caret, start_caret}
use Rattle.codespan_output.specs.RowParts.{underline_message}

-- how many cells an underline has between its lanes and its caret
abbrev pub underline_width : List Metrics → MultiLabel → ℕ
underline_width cs (Top start) = width_of (metrics_up_to start cs)
underline_width cs Left = 0
underline_width cs (Bottom end message) = width_of (metrics_before end cs)

-- the same of a label that has an underline row; none of one that has no such row, as a top whose
-- corner is in the source row
abbrev pub width_if_any : ℕ → List Metrics → MultiLabel → Option ℕ
width_if_any leading cs m =
    if has_underline leading m then Some (underline_width cs m) else None

-- the caret of an underline: under the start of a label for a top, else under its end
abbrev pub underline_caret : Chars → LabelStyle → MultiLabel → ℕ
underline_caret chars style (Top start) = start_caret chars style
underline_caret chars style _ = end_caret chars style

-- an underline right of the lanes: a run of this width, the caret, and the message
unfoldable pub underline_by_width : Chars → LabelStyle → ℕ → MultiLabel → Stream
underline_by_width chars style width (Top start) =
    repeated width chars.multi_top ++ glyph (start_caret chars style)
underline_by_width chars style width Left = []
underline_by_width chars style width (Bottom end message) =
    repeated width chars.multi_bottom ++ glyph (end_caret chars style)
    ++ underline_message message
