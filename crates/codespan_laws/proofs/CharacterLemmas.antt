-- For `chars_change_no_row_length`: the length of rows does not depend on the characters that they
-- are rendered with.
use Rattle.std.proofs.Common.{◌≡◌, ℕ, ◌-◌, List, [], ◌∷◌, ◌++◌, flat_map}
use Rattle.std.proofs.Common.{Option, Some, None, refl, sym, ap, ◌∙◌, arith}
use Rattle.std.proofs.Common.{if◌then◌else◌}
use Rattle.codespan_base.specs.declared.diagnostic.Severity.{Severity}
use Rattle.codespan_base.specs.declared.diagnostic.LabelStyle.{LabelStyle}
use Rattle.codespan_base.specs.declared.term.config.chars.Chars.{Chars}
use Rattle.codespan_base.specs.Labels.{LabelModel, LaneMark, MultiLabel, Top, Left, Bottom}
use Rattle.codespan_base.specs.Streams.{Stream, style_mark, byte_stream, glyph, repeated, space}
use Rattle.codespan_base.specs.Streams.{spaces}
use Rattle.codespan_base.specs.declared.term.config.style_mark.StyleMark.{StyleMark}
use Rattle.codespan_base.specs.declared.term.config.style_mark.StyleMark.TheVariants.{NoteBullet}
use Rattle.codespan_base.specs.declared.term.config.style_mark.StyleMark.TheVariants.{SourceBorder}
use Rattle.codespan_base.specs.declared.term.config.style_mark.StyleMark.TheVariants.{Label, Reset}
use Rattle.codespan_base.specs.SnippetStarts.{start_text}
use Rattle.codespan_output.specs.RowLaws.{row_length, character_count, CharsChangeNoRowLength}
use Rattle.codespan_output.specs.declared.char_metrics.Metrics.{Metrics}
use Rattle.codespan_output.specs.Carets.{style_under, max_label_end, style_of_any}
use Rattle.codespan_output.specs.Lanes.{label_glyph}
use Rattle.codespan_output.specs.Rows.{RowContext, Locus, Lanes, Line, Row, HeaderRow}
use Rattle.codespan_output.specs.Rows.{SnippetStartRow, EmptyRow, BreakRow, SourceRow, CaretRow}
use Rattle.codespan_output.specs.Rows.{PointerRow, HangingRow, UnderlineRow, FirstNoteRow}
use Rattle.codespan_output.specs.Rows.{LaterNoteRow, FinalRow, hanging_labels, trailing_label}
use Rattle.codespan_output.specs.RowParts.{outer_gutter, outer_gutter_number, border_left}
use Rattle.codespan_output.specs.RowParts.{border_left_break, style_change, snippet_locus}
use Rattle.codespan_output.specs.RowParts.{line_metrics, line_metrics_to_end, inner_gutter}
use Rattle.codespan_output.specs.RowParts.{colored_text, carets, trailing_message, label_message}
use Rattle.codespan_output.specs.RowParts.{starts_in, max_label_start, pointers, metrics_before}
use Rattle.codespan_output.specs.RowParts.{underline, underline_message, pointer_glyphs}
use Rattle.codespan_output.specs.RowParts.{metrics_up_to}
use Rattle.codespan_output.specs.RowStreams.{stream_of, snippet_start_row, first_note_row}
use Rattle.codespan_output.proofs.Utf8.Texts.{row_length-append, row_length-glyph}
use Rattle.codespan_output.proofs.Utf8.Texts.{row_length-repeated, text_of-byte_stream}
use Rattle.codespan_laws.proofs.LaneWidths.{row_length-lanes_in, row_length-label_glyph}
use Rattle.codespan_output.specs.Private.LineViews.{lanes_in}
use Rattle.codespan_output.specs.Private.LineRows.{row_start}
use Rattle.codespan_output.specs.Private.Runs.{styled_after}
use Rattle.codespan_output.proofs.Characters.Styled.{carets-is}

-- two streams have equally many characters
record AreAsLong (s t : Stream) : Type 0 where
  same : row_length s ≡ row_length t

as_long : (s : Stream) → AreAsLong s s
as_long s = record { same = refl }

joined : (s t u v : Stream) → AreAsLong s t → AreAsLong u v → AreAsLong (s ++ u) (t ++ v)
joined s t u v e f =
    record { same = row_length-append s u ∙ omega (arith, row_length-append t v, e.same, f.same) }

same_before : (s t after : Stream) → AreAsLong s t → AreAsLong (s ++ after) (t ++ after)
same_before s t after e = joined s t after after e (as_long after)

same_after : (before s t : Stream) → AreAsLong s t → AreAsLong (before ++ s) (before ++ t)
same_after before s t e = joined before before s t (as_long before) e

flat_as_long : {A : Type 0} (f g : A → Stream) → ((x : A) → AreAsLong (f x) (g x))
    → (xs : List A)
    → AreAsLong (flat_map f xs) (flat_map g xs)
flat_as_long f g e [] = as_long []
flat_as_long f g e (x ∷ xs) =
    joined (f x) (g x) (flat_map f xs) (flat_map g xs) (e x) (flat_as_long f g e xs)

-- ---- single characters

texts : (a b : List ℕ) → character_count a ≡ character_count b
    → AreAsLong (byte_stream a) (byte_stream b)
texts a b e =
    record {
      same =
          ap character_count (text_of-byte_stream a) ∙ e
          ∙ sym (ap character_count (text_of-byte_stream b));
    }

glyphs : (c d : ℕ) → AreAsLong (glyph c) (glyph d)
glyphs c d = record { same = row_length-glyph c ∙ sym (row_length-glyph d) }

repeats : (n c d : ℕ) → AreAsLong (repeated n c) (repeated n d)
repeats n c d = record { same = row_length-repeated n c ∙ sym (row_length-repeated n d) }

in_style : (severity : Severity) (style : LabelStyle) (c d : ℕ)
    → AreAsLong (label_glyph severity style c) (label_glyph severity style d)
in_style severity style c d =
    record {
      same =
          row_length-label_glyph severity style c ∙ sym (row_length-label_glyph severity style d);
    }

marked : (m : StyleMark) (c d : ℕ)
    → AreAsLong (style_mark m ++ glyph c ++ style_mark Reset)
    (style_mark m ++ glyph d ++ style_mark Reset)
marked m c d =
    same_before (style_mark m ++ glyph c) (style_mark m ++ glyph d) (style_mark Reset)
    (same_after (style_mark m) (glyph c) (glyph d) (glyphs c d))

-- ---- parts of rows

module _ (context : RowContext) (chars : Chars) where
  -- the context with the other characters
  abbrev other : RowContext
  other = record context { chars = chars }

  lanes_as_long : (crossing crossing' : ℕ → Option LaneMark)
      (shape shape' : ℕ → MultiLabel → _)
      (lanes : Lanes)
      → AreAsLong (lanes_in other crossing shape lanes) (lanes_in context crossing' shape' lanes)
  lanes_as_long crossing crossing' shape shape' lanes =
      record {
        same =
            row_length-lanes_in other crossing shape lanes
            ∙ sym (row_length-lanes_in context crossing' shape' lanes);
      }

  border_left_as_long : AreAsLong (border_left chars) (border_left context.chars)
  unfolding border_left
  border_left_as_long =
      marked SourceBorder chars.source_border_left context.chars.source_border_left

  border_left_break_as_long : AreAsLong (border_left_break chars) (border_left_break context.chars)
  unfolding border_left_break
  border_left_break_as_long =
      marked SourceBorder chars.source_border_left_break context.chars.source_border_left_break

  row_start_as_long : (line : Line) → AreAsLong (row_start other line) (row_start context line)
  unfolding inner_gutter
  row_start_as_long line =
      same_before _ _ space
      (joined (outer_gutter context.padding ++ border_left chars)
      (outer_gutter context.padding ++ border_left context.chars) _ _
      (same_after (outer_gutter context.padding) (border_left chars) (border_left context.chars)
      border_left_as_long)
      (lanes_as_long _ _ _ _ line.lanes))

  styled_as_long : (style : Metrics → Option LabelStyle) (shown shown' : Metrics → Stream)
      → ((c : Metrics) → AreAsLong (shown c) (shown' c))
      → (previous : Option LabelStyle) (cs : List Metrics)
      → AreAsLong (styled_after context.severity style shown previous cs)
      (styled_after context.severity style shown' previous cs)
  styled_as_long style shown shown' e previous [] = as_long
      (style_change context.severity previous None)
  styled_as_long style shown shown' e previous (c ∷ cs) =
      joined (style_change context.severity previous (style c) ++ shown c)
      (style_change context.severity previous (style c) ++ shown' c) _ _
      (same_after (style_change context.severity previous (style c)) (shown c) (shown' c) (e c))
      (styled_as_long style shown shown' e (style c) cs)

  carets_as_long : (labels : List LabelModel) (cs : List Metrics)
      → AreAsLong (carets other labels cs) (carets context labels cs)
  carets_as_long labels cs =
      rw (carets-is other labels cs, carets-is context labels cs)
      (styled_as_long (style_under labels) _ _ (λ c. repeats c.unicode_width _ _) None
      (metrics_before (max_label_end labels) cs))

  pointer_glyphs_as_long : (style : Option LabelStyle) (c : Metrics)
      → AreAsLong (pointer_glyphs other style c) (pointer_glyphs context style c)
  unfolding pointer_glyphs
  pointer_glyphs_as_long None c = as_long (spaces c.unicode_width)
  pointer_glyphs_as_long (Some style) c =
      same_before _ _ (spaces (c.unicode_width - 1))
      (in_style context.severity style chars.pointer_left context.chars.pointer_left)

  pointers_as_long : (labels : List LabelModel) (cs : List Metrics)
      → AreAsLong (pointers other labels cs) (pointers context labels cs)
  unfolding pointers
  pointers_as_long labels cs =
      flat_as_long _ _
      (λ c. pointer_glyphs_as_long (style_of_any (starts_in c) (hanging_labels labels)) c)
      (metrics_up_to (max_label_start labels) cs)

  underline_as_long : (style : LabelStyle) (cs : List Metrics) (multi_label : MultiLabel)
      → AreAsLong (underline chars style cs multi_label)
      (underline context.chars style cs multi_label)
  unfolding underline
  underline_as_long style cs (Top start) = joined _ _ _ _ (repeats _ _ _) (glyphs _ _)
  underline_as_long style cs Left = as_long []
  underline_as_long style cs (Bottom end message) =
      same_before _ _ (underline_message message) (joined _ _ _ _ (repeats _ _ _) (glyphs _ _))

  -- ---- rows

  start_as_long : character_count (start_text chars.snippet_start) ≡ character_count
      (start_text context.chars.snippet_start)
      → (at : Locus)
      → AreAsLong (snippet_start_row chars context.padding at)
      (snippet_start_row context.chars context.padding at)
  unfolding snippet_start_row
  start_as_long e at =
      same_before _ _ (snippet_locus at) (same_before _ _ space (same_before _ _ (style_mark Reset)
      (same_after (outer_gutter context.padding ++ style_mark SourceBorder) _ _
      (texts (start_text chars.snippet_start) (start_text context.chars.snippet_start) e))))

  rows_as_long : character_count (start_text chars.snippet_start) ≡ character_count
      (start_text context.chars.snippet_start)
      → (row : Row)
      → AreAsLong (stream_of other row) (stream_of context row)
  unfolding first_note_row colored_text inner_gutter
  rows_as_long e (HeaderRow at header_text) = as_long _
  rows_as_long e (SnippetStartRow at) = start_as_long e at
  rows_as_long e (EmptyRow lanes) =
      joined _ _ _ _
      (same_after (outer_gutter context.padding) (border_left chars) (border_left context.chars)
      border_left_as_long)
      (lanes_as_long _ _ _ _ lanes)
  rows_as_long e (BreakRow lanes) =
      joined _ _ _ _
      (same_after (outer_gutter context.padding) (border_left_break chars)
      (border_left_break context.chars) border_left_break_as_long)
      (lanes_as_long _ _ _ _ lanes)
  rows_as_long e (SourceRow line) =
      same_before _ _ (colored_text context line) (same_before _ _ space
      (joined _ _ _ _
      (same_after (outer_gutter_number context.padding line.number) (border_left chars)
      (border_left context.chars) border_left_as_long)
      (lanes_as_long _ _ _ _ line.lanes)))
  rows_as_long e (CaretRow line) =
      same_before _ _ (trailing_message context.severity (trailing_label line.labels))
      (joined _ _ _ _ (row_start_as_long line)
      (carets_as_long line.labels (line_metrics_to_end context line)))
  rows_as_long e (PointerRow line) =
      joined _ _ _ _ (row_start_as_long line)
      (pointers_as_long line.labels (line_metrics context line))
  rows_as_long e (HangingRow line x) =
      same_before _ _ (label_message context.severity x.style x.message)
      (joined _ _ _ _ (row_start_as_long line)
      (pointers_as_long line.labels (metrics_before x.start (line_metrics context line))))
  rows_as_long e (UnderlineRow line m) =
      same_before _ _ (style_mark Reset)
      (joined _ _ _ _ (same_before _ _ (style_mark (Label context.severity m.style))
      (joined _ _ _ _
      (same_after (outer_gutter context.padding) (border_left chars) (border_left context.chars)
      border_left_as_long)
      (lanes_as_long _ _ _ _ line.lanes)))
      (underline_as_long m.style (line_metrics context line) m.multi_label))
  rows_as_long e (FirstNoteRow note_line) =
      same_before _ _ (byte_stream note_line)
      (same_before _ _ space (same_before _ _ (style_mark Reset)
      (same_after (outer_gutter context.padding ++ style_mark NoteBullet) (glyph chars.note_bullet)
      (glyph context.chars.note_bullet) (glyphs chars.note_bullet context.chars.note_bullet))))
  rows_as_long e (LaterNoteRow note_line) = as_long _
  rows_as_long e FinalRow = as_long []

-- with other characters each row is as long
pub chars_change_no_row_length : CharsChangeNoRowLength
chars_change_no_row_length context chars row e = (rows_as_long context chars e row).same
