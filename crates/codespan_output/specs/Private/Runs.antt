-- Characters in their styles, one after another, and runs of carets.
use Rattle.std.specs.Prelude.{ℕ, Option, Some, None, nat_lt, List, [], ◌∷◌, ◌++◌}
use Rattle.std.specs.Prelude.{if◌then◌else◌}
use Rattle.codespan_output.specs.Types.{Severity, LabelStyle, Chars}
use Rattle.codespan_core.specs.Streams.{Stream, spaces, repeated}
use Rattle.codespan_output.specs.Carets.{caret_for}
use Rattle.codespan_output.specs.RowParts.{style_change}
use Rattle.codespan_output.specs.declared.char_metrics.Metrics.{Metrics}

-- the characters in their styles, after one of style `previous`
abbrev pub styled_after : Severity → (Metrics → Option LabelStyle) → (Metrics → Stream)
    → Option LabelStyle → List Metrics → Stream
styled_after severity style shown previous [] = style_change severity previous None
styled_after severity style shown previous (c ∷ cs) =
    style_change severity previous (style c) ++ shown c
    ++ styled_after severity style shown (style c) cs

-- a run of carets of a style, or of spaces
unfoldable pub caret_run : Chars → Option LabelStyle → ℕ → Stream
caret_run chars None count = spaces count
caret_run chars (Some style) count = repeated count (caret_for chars (Some style))

-- the carets under a character, or where it has no style the spaces, if it begins before the end
unfoldable pub caret_glyphs : Chars → ℕ → Option LabelStyle → Metrics → Stream
caret_glyphs chars end None c = if nat_lt c.byte_index end then spaces c.unicode_width else []
caret_glyphs chars end (Some style) c = repeated c.unicode_width (caret_for chars (Some style))
