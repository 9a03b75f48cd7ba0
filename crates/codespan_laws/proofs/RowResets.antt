-- For `rows_end_reset`: the rows of an output.
use Rattle.std.proofs.Common.{◌≡◌, ℕ, ◌+◌, ◌-◌, Bool, true, false, List, []}
use Rattle.std.proofs.Common.{◌++◌, Option, Some, None, refl}
use Rattle.std.specs.Prelude.{◌==◌, if◌then◌else◌}
use Rattle.codespan_base.specs.declared.diagnostic.Severity.{Severity}
use Rattle.codespan_base.specs.declared.diagnostic.LabelStyle.{LabelStyle}
use Rattle.codespan_base.specs.declared.term.config.chars.Chars.{Chars}
use Rattle.codespan_base.specs.Labels.{LabelModel}
use Rattle.codespan_base.specs.Streams.{Stream, byte_stream, spaces, glyph, space, repeated}
use Rattle.codespan_base.specs.declared.term.config.style_mark.StyleMark.TheVariants.{Label}
use Rattle.codespan_output.specs.declared.char_metrics.Metrics.{Metrics}
use Rattle.codespan_output.specs.Carets.{style_under, max_label_end, style_of_any, caret_for}
use Rattle.codespan_output.specs.Lanes.{label_glyph}
use Rattle.codespan_output.specs.Rows.{Locus, RowContext, Line, Row, HeaderRow, SnippetStartRow}
use Rattle.codespan_output.specs.Rows.{EmptyRow, BreakRow, SourceRow, CaretRow, PointerRow}
use Rattle.codespan_output.specs.Rows.{HangingRow, UnderlineRow, FirstNoteRow, LaterNoteRow}
use Rattle.codespan_output.specs.Rows.{FinalRow, hanging_labels}
use Rattle.codespan_output.specs.RowParts.{inner_gutter, source_glyph, source_style, colored_text}
use Rattle.codespan_output.specs.RowParts.{carets, trailing_message, label_message, pointers}
use Rattle.codespan_output.specs.RowParts.{starts_in, max_label_start, outer_gutter}
use Rattle.codespan_output.specs.RowParts.{outer_gutter_number, border_left, border_left_break}
use Rattle.codespan_output.specs.RowParts.{snippet_locus, line_metrics, pointer_glyphs}
use Rattle.codespan_output.specs.RowParts.{metrics_up_to, metrics_before}
use Rattle.codespan_output.specs.RowStreams.{stream_of, header_row, snippet_start_row}
use Rattle.codespan_output.specs.RowStreams.{first_note_row, later_note_row}
use Rattle.codespan_output.specs.RowLaws.{ends_reset, RowsEndReset}
use Rattle.codespan_laws.proofs.ResetLemmas.{Closes, closes-append, closes-reset}
use Rattle.codespan_laws.proofs.ResetLemmas.{ends_reset-byte_stream, ends_reset-spaces}
use Rattle.codespan_laws.proofs.ResetLemmas.{ends_reset-repeated, closes-in_style}
use Rattle.codespan_laws.proofs.ResetLemmas.{closes-label_glyph, closes-flat_map, closes-lanes_in}
use Rattle.codespan_laws.proofs.ResetLemmas.{ends_reset-styled}
use Rattle.codespan_output.specs.Private.LineRows.{row_start}
use Rattle.codespan_output.proofs.Characters.Styled.{carets-is, colored_text-is}

-- ---- rows

closes-byte_stream : (bs : List ℕ) → Closes (byte_stream bs)
closes-byte_stream bs = record { closed = ends_reset-byte_stream true bs }

ends_reset-source_glyph : (closed : Bool) (c : Metrics)
    → ends_reset closed (source_glyph c) ≡ closed
unfolding source_glyph
ends_reset-source_glyph closed c = by_test (c.ch == 9)
  where
    by_test : (b : Bool)
        → ends_reset closed (if b then spaces c.unicode_width else glyph c.ch) ≡ closed
    by_test true = ends_reset-spaces closed c.unicode_width
    by_test false = ends_reset-byte_stream closed _

closes-carets : (context : RowContext) (labels : List LabelModel) (cs : List Metrics)
    → Closes (carets context labels cs)
closes-carets context labels cs =
    rw (carets-is context labels cs) (record {
      closed =
          ends_reset-styled context.severity (style_under labels)
          (λ c. repeated c.unicode_width (caret_for context.chars (style_under labels c)))
          (λ closed c. ends_reset-repeated closed c.unicode_width _) None
          (metrics_before (max_label_end labels) cs);
    })

closes-colored_text : (context : RowContext) (line : Line) → Closes (colored_text context line)
closes-colored_text context line =
    rw (colored_text-is context line) (record {
      closed =
          ends_reset-styled context.severity (source_style line) source_glyph
          ends_reset-source_glyph None
          (line_metrics context line);
    })

closes-label_message : (severity : Severity) (style : LabelStyle) (message : Stream)
    → Closes (label_message severity style message)
unfolding label_message
closes-label_message severity style message =
    closes-in_style (Label severity style) message

closes-trailing_message : (severity : Severity) (x : Option LabelModel)
    → Closes (trailing_message severity x)
unfolding trailing_message
closes-trailing_message severity None = record { closed = refl }
closes-trailing_message severity (Some x) =
    closes-append space _ (closes-byte_stream _) (closes-label_message severity x.style x.message)

closes-pointer_glyphs : (context : RowContext) (style : Option LabelStyle) (c : Metrics)
    → Closes (pointer_glyphs context style c)
unfolding pointer_glyphs
closes-pointer_glyphs context None c = record { closed = ends_reset-spaces true c.unicode_width }
closes-pointer_glyphs context (Some style) c =
    closes-append (label_glyph context.severity style context.chars.pointer_left)
    (spaces (c.unicode_width - 1))
    (closes-label_glyph context.severity style context.chars.pointer_left)
    (record { closed = ends_reset-spaces true (c.unicode_width - 1) })

closes-pointers : (context : RowContext) (labels : List LabelModel) (cs : List Metrics)
    → Closes (pointers context labels cs)
unfolding pointers
closes-pointers context labels cs =
    closes-flat_map
    (λ c. pointer_glyphs context (style_of_any (starts_in c) (hanging_labels labels)) c)
    (λ c. closes-pointer_glyphs context _ c) (metrics_up_to (max_label_start labels) cs)

closes-outer_gutter : (n : ℕ) → Closes (outer_gutter n)
unfolding outer_gutter
closes-outer_gutter n = record { closed = ends_reset-spaces true (n + 1) }

closes-outer_gutter_number : (padding n : ℕ) → Closes (outer_gutter_number padding n)
unfolding outer_gutter_number
closes-outer_gutter_number padding n = closes-append _ space (closes-reset _) (closes-byte_stream _)

closes-border_left : (chars : Chars) → Closes (border_left chars)
unfolding border_left
closes-border_left chars = closes-reset _

closes-border_left_break : (chars : Chars) → Closes (border_left_break chars)
unfolding border_left_break
closes-border_left_break chars = closes-reset _

closes-locus : (p : Locus) → Closes (snippet_locus p)
unfolding snippet_locus
closes-locus p =
    closes-append _ _
    (closes-append _ _
    (closes-append _ _ (closes-append _ _ (closes-byte_stream _) (closes-byte_stream _))
    (closes-byte_stream _))
    (closes-byte_stream _))
    (closes-byte_stream _)

closes-row_start : (context : RowContext) (line : Line) → Closes (row_start context line)
unfolding inner_gutter
closes-row_start context line =
    closes-append _ space
    (closes-append _ _ (closes-append _ _ (closes-outer_gutter _) (closes-border_left _))
    (closes-lanes_in context _ _ line.lanes))
    (closes-byte_stream _)

closes-row : (context : RowContext) (row : Row) → Closes (stream_of context row)
unfolding header_row snippet_start_row first_note_row later_note_row inner_gutter
closes-row context (HeaderRow at header_text) = closes-reset _
closes-row context (SnippetStartRow at) =
    closes-append _ (snippet_locus at)
    (closes-append _ space (closes-reset _) (closes-byte_stream _))
    (closes-locus at)
closes-row context (EmptyRow lanes) =
    closes-append _ _ (closes-append _ _ (closes-outer_gutter _) (closes-border_left _))
    (closes-lanes_in context _ _ lanes)
closes-row context (BreakRow lanes) =
    closes-append _ _ (closes-append _ _ (closes-outer_gutter _) (closes-border_left_break _))
    (closes-lanes_in context _ _ lanes)
closes-row context (SourceRow line) =
    closes-append _ _
    (closes-append _ space
    (closes-append _ _
    (closes-append _ _ (closes-outer_gutter_number _ _) (closes-border_left _))
    (closes-lanes_in context _ _ line.lanes))
    (closes-byte_stream _))
    (closes-colored_text context line)
closes-row context (CaretRow line) =
    closes-append _ _
    (closes-append _ _ (closes-row_start context line) (closes-carets context line.labels _))
    (closes-trailing_message context.severity _)
closes-row context (PointerRow line) =
    closes-append _ _ (closes-row_start context line) (closes-pointers context line.labels _)
closes-row context (HangingRow line x) =
    closes-append _ _
    (closes-append _ _ (closes-row_start context line) (closes-pointers context line.labels _))
    (closes-label_message context.severity x.style x.message)
closes-row context (UnderlineRow line m) = closes-reset _
closes-row context (FirstNoteRow note_line) =
    closes-append _ (byte_stream note_line)
    (closes-append _ space (closes-reset _) (closes-byte_stream _))
    (closes-byte_stream note_line)
closes-row context (LaterNoteRow note_line) =
    closes-append _ (byte_stream note_line)
    (closes-append _ space (closes-append _ space (closes-outer_gutter _) (closes-byte_stream _))
    (closes-byte_stream _))
    (closes-byte_stream note_line)
closes-row context FinalRow = record { closed = refl }

pub rows_end_reset : RowsEndReset
rows_end_reset context row = (closes-row context row).closed
