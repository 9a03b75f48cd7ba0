-- For `write_colored_text`, `write_carets` and the laws of rows: the text of a source row and the
-- carets are characters in their styles, one after another.
use Rattle.codespan_core.proofs.Std.{◌≡◌, List, [], ◌∷◌, ◌++◌, Option, None}
use Rattle.codespan_core.proofs.Std.{Some, sym, ap, refl, ◌∙◌, append_assoc, map, flat_map}
use Rattle.std.specs.List.{zip, last_or}
use Rattle.std.specs.Option.{option_and_then}
use Rattle.codespan_core.specs.Labels.{LabelModel}
use Rattle.codespan_core.specs.Streams.{Stream, repeated}
use Rattle.codespan_output.specs.Types.{Severity, LabelStyle}
use Rattle.codespan_output.specs.declared.char_metrics.Metrics.{Metrics}
use Rattle.codespan_output.specs.{RowContext, Line, style_change, styled, source_style}
use Rattle.codespan_output.specs.{source_glyph, colored_text, carets, line_metrics, style_under}
use Rattle.codespan_output.specs.{caret_for, metrics_before, max_label_end}
use Rattle.codespan_output.specs.Private.{styled_after}

module _ (severity : Severity) (style : Metrics → Option LabelStyle) (shown : Metrics → Stream)
  where
    abbrev one : Option LabelStyle × Metrics → Stream
    one x = style_change severity x.0 (style x.1) ++ shown x.1

    -- after a character, or at the start of a line
    after : (o : Option Metrics) (cs : List Metrics)
        → styled_after severity style shown (option_and_then style o) cs
        ≡ flat_map one (zip (option_and_then style o ∷ map style cs) cs)
        ++ style_change severity (option_and_then style (last_or o cs)) None
    after o [] = refl
    after o (c ∷ cs) =
        ap (λ s. one (option_and_then style o, c) ++ s) (after (Some c) cs)
        ∙ sym (append_assoc (one (option_and_then style o, c))
        (flat_map one (zip (style c ∷ map style cs) cs))
        (style_change severity (option_and_then style (last_or (Some c) cs)) None))

    pub styled-is : (cs : List Metrics)
        → styled severity style shown cs ≡ styled_after severity style shown None cs
    styled-is cs = sym (after None cs)

-- the text of a source row
pub colored_text-is : (context : RowContext) (line : Line)
    → colored_text context line
    ≡ styled_after context.severity (source_style line) source_glyph None
    (line_metrics context line)
unfolding colored_text
colored_text-is context line =
    styled-is context.severity (source_style line) source_glyph (line_metrics context line)

-- the carets under these characters
pub carets-is : (context : RowContext) (labels : List LabelModel) (cs : List Metrics)
    → carets context labels cs
    ≡ styled_after context.severity (style_under labels)
    (λ c. repeated c.unicode_width (caret_for context.chars (style_under labels c))) None
    (metrics_before (max_label_end labels) cs)
unfolding carets
carets-is context labels cs =
    styled-is context.severity (style_under labels)
    (λ c. repeated c.unicode_width (caret_for context.chars (style_under labels c)))
    (metrics_before (max_label_end labels) cs)
