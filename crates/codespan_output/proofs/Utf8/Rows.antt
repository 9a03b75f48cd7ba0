-- For `outputs_are_utf8`: the streams of rows are texts.
use Rattle.codespan_core.proofs.Std.{◌≡◌, ℕ, ◌-◌, Bool, true, false, List, []}
use Rattle.codespan_core.proofs.Std.{◌∷◌, ◌++◌, Option, Some, None, refl, sym, subst}
use Rattle.codespan_core.proofs.Std.{arith, Contains, codes, IfSome, IsScalar, AllByRecursion}
use Rattle.codespan_core.proofs.Std.{range_with_len, IsUtf8, All-from_recursion}
use Rattle.codespan_core.proofs.Std.{if◌then◌else◌}
use Rattle.std.proofs.lemmas.List.Elements.{All-contains, Contains-append_right}
use Rattle.codespan_core.specs.SnippetStarts.{start_text}
use Rattle.codespan_core.specs.Labels.{LabelModel, LaneMark, MultiLabel, Top, Left, Bottom}
use Rattle.codespan_core.specs.Streams.{Stream, byte_stream, spaces, space, newline, repeated}
use Rattle.codespan_core.specs.declared.term.config.style_mark.StyleMark.TheVariants.{Header}
use Rattle.codespan_core.specs.declared.term.config.style_mark.StyleMark.TheVariants.{HeaderMessage}
use Rattle.codespan_core.specs.declared.term.config.style_mark.StyleMark.TheVariants.{NoteBullet}
use Rattle.codespan_core.specs.declared.term.config.style_mark.StyleMark.TheVariants.{SourceBorder}
use Rattle.codespan_core.specs.declared.term.config.style_mark.StyleMark.TheVariants.{Label, Reset}
use Rattle.codespan_output.specs.Types.{LabelStyle, Severity, Metrics}
use Rattle.codespan_output.specs.declared.lane_shapes.Shape.{Shape}
use Rattle.codespan_output.specs.{caret_for, max_label_end, style_under, width_of, LaneRowKind}
use Rattle.codespan_output.specs.{Source, EmptyOrBreak, SingleLabels, Underline, label_glyph}
use Rattle.codespan_output.specs.{lane_mark_in, row_crossing, row_shape, shape_of}
use Rattle.codespan_output.specs.{style_of_lane_mark, Locus, RowContext, Line, Row, HeaderRow}
use Rattle.codespan_output.specs.{SnippetStartRow, EmptyRow, BreakRow, SourceRow, CaretRow}
use Rattle.codespan_output.specs.{PointerRow, HangingRow, UnderlineRow, FirstNoteRow, LaterNoteRow}
use Rattle.codespan_output.specs.{FinalRow, hanging_labels, trailing_label, snippet_locus}
use Rattle.codespan_output.specs.{label_message, inner_gutter, line_metrics, line_metrics_to_end}
use Rattle.codespan_output.specs.{source_style, source_glyph, colored_text, carets}
use Rattle.codespan_output.specs.{trailing_message, starts_in, max_label_start, pointers}
use Rattle.codespan_output.specs.{metrics_before, metrics_up_to, start_caret, end_caret}
use Rattle.codespan_output.specs.{underline_message, underline, bracketed, header_locus, header_row}
use Rattle.codespan_output.specs.{snippet_start_row, first_note_row, later_note_row, stream_of}
use Rattle.codespan_output.specs.{stream_of_rows, StreamIsUtf8, CharsAreScalars, style_of_any}
use Rattle.codespan_output.specs.{pointer_glyphs}
use Rattle.codespan_output.specs.Rows.{Lanes}
use Rattle.codespan_output.proofs.Lanes.LineLemmas.{each_all}
use Rattle.codespan_output.proofs.Messages.Pass.{Around, around_trails, around_rightmost}
use Rattle.codespan_output.proofs.Messages.Pass.{trailing_of, around_is}
use Rattle.codespan_output.proofs.Messages.Rightmost.{trailing_is}
use Rattle.codespan_output.proofs.Utf8.ListElements.{all-weaker}
use Rattle.codespan_output.proofs.Utf8.Streams.{text-none, text-both, followed, text-byte_stream}
use Rattle.codespan_output.proofs.Utf8.Streams.{text-style_mark, text-glyph, text-space}
use Rattle.codespan_output.proofs.Utf8.Streams.{text-newline, text-colon_space, text-open}
use Rattle.codespan_output.proofs.Utf8.Streams.{text-close, text-spaces, text-repeated, text-each}
use Rattle.codespan_output.proofs.Utf8.Streams.{text-severity, text-locus, text-outer_gutter}
use Rattle.codespan_output.proofs.Utf8.Streams.{text-outer_gutter_number, text-border_left}
use Rattle.codespan_output.proofs.Utf8.Streams.{text-border_left_break, text-styled}
use Rattle.codespan_output.proofs.Utf8.Streams.{text-label_message}
use Rattle.codespan_output.proofs.Utf8.Lanes.{text-label_glyph, text-lane_characters}
use Rattle.codespan_output.proofs.Utf8.Lanes.{scalar-caret_for, scalar-start_caret}
use Rattle.codespan_output.proofs.Utf8.Lanes.{scalar-end_caret, scalar-char_metrics}
use Rattle.codespan_output.proofs.Utf8.Lanes.{text-source_glyph, MultiLabelIsUtf8, RowIsUtf8}
use Rattle.codespan_output.specs.Private.{inner_gutter_column, leading_of, row_start}
use Rattle.codespan_output.proofs.Characters.Styled.{carets-is, colored_text-is}

-- ---- rows

text-header_locus : (at : Option Locus) → IfSome at (λ p. IsUtf8 p.name)
    → StreamIsUtf8 (header_locus at)
unfolding header_locus
text-header_locus None h = text-none
text-header_locus (Some p) h =
    text-both (snippet_locus p) (byte_stream (codes ": ")) (text-locus p h) text-colon_space

text-bracketed : (code : Option (List ℕ)) → IfSome code IsUtf8 → StreamIsUtf8 (bracketed code)
unfolding bracketed
text-bracketed None h = text-none
text-bracketed (Some []) h = text-none
text-bracketed (Some (c ∷ cs)) h =
    text-both (byte_stream (codes "[") ++ byte_stream (c ∷ cs)) (byte_stream (codes "]"))
    (text-both (byte_stream (codes "[")) (byte_stream (c ∷ cs)) text-open
    (text-byte_stream (c ∷ cs) h)) text-close

-- the trailing message is a text where the labels' messages are
text-trailing_label : (severity : Severity) (labels : List LabelModel)
    → AllByRecursion (λ (x : LabelModel). StreamIsUtf8 x.message) labels
    → StreamIsUtf8 (trailing_message severity (trailing_label labels))
unfolding trailing_message
text-trailing_label severity [] h = text-none
text-trailing_label severity (x ∷ xs) h =
    subst (λ t. StreamIsUtf8 (trailing_message severity t)) (sym (trailing_is (x ∷ xs)))
    (by (around_rightmost (x ∷ xs)) refl)
  where
    shown : (y : LabelModel) → StreamIsUtf8 y.message
        → StreamIsUtf8 (trailing_message severity (Some y))
    shown y t =
        text-both space (label_message severity y.style y.message) text-space
        (text-label_message severity y.style y.message t)

    here : (a : Around) → a.before ++ (a.here ∷ a.after) ≡ x ∷ xs
        → StreamIsUtf8 a.here.message
    here a whole =
        All-contains (λ (y : LabelModel). StreamIsUtf8 y.message) (x ∷ xs) a.here
        (All-from_recursion (λ (y : LabelModel). StreamIsUtf8 y.message) (x ∷ xs) h)
        (subst (λ ys. Contains ys a.here) whole
        (Contains-append_right a.before (a.here ∷ a.after) a.here (0, omega arith, refl)))

    tested : (a : Around) → StreamIsUtf8 a.here.message → (b : Bool)
        → StreamIsUtf8 (trailing_message severity (if b then Some a.here else None))
    tested a t true = shown a.here t
    tested a t false = text-none

    by : (r : Option Around) → around_rightmost (x ∷ xs) ≡ r
        → StreamIsUtf8 (trailing_message severity (trailing_of r))
    by None is = text-none
    by (Some a) is =
        tested a (here a (around_is (max_label_end (x ∷ xs)) (x ∷ xs) a is)) (around_trails a)

module _ (context : RowContext) (ok : CharsAreScalars context.chars) where
  text-inner_gutter_column : (crossing : Option LaneMark) (shape : MultiLabel → Shape)
      (lane_mark : Option LaneMark)
      → StreamIsUtf8 (inner_gutter_column context crossing shape lane_mark)
  text-inner_gutter_column crossing shape lane_mark =
      text-lane_characters context.chars ok context.severity crossing (style_of_lane_mark lane_mark)
      (shape_of shape lane_mark)

  text-inner_gutter : (leading : ℕ) (row : LaneRowKind) (lanes : Lanes)
      → StreamIsUtf8 (inner_gutter context leading row lanes)
  unfolding inner_gutter
  text-inner_gutter leading row lanes =
      let shown : ℕ → Stream = λ lane. inner_gutter_column context (row_crossing row lane)
      (row_shape context.layout leading row lane) (lane_mark_in lanes.lane_marks lane) in
      text-each shown (range_with_len 0 lanes.count)
      (each_all (λ lane. StreamIsUtf8 (shown lane)) (range_with_len 0 lanes.count)
      (λ lane. text-inner_gutter_column (row_crossing row lane)
      (row_shape context.layout leading row lane) (lane_mark_in lanes.lane_marks lane)))

  -- the source
  text-colored : (line : Line) → IsUtf8 line.text → StreamIsUtf8 (colored_text context line)
  text-colored line u =
      rw (colored_text-is context line)
      (text-styled context.severity (source_style line) source_glyph None
      (line_metrics context line)
      (all-weaker (λ (c : Metrics). IsScalar c.ch)
      (λ (c : Metrics). StreamIsUtf8 (source_glyph c))
      text-source_glyph (line_metrics context line)
      (scalar-char_metrics context.tab_width line.text u)))

  -- the carets
  text-carets : (labels : List LabelModel) (cs : List Metrics)
      → StreamIsUtf8 (carets context labels cs)
  text-carets labels cs =
      rw (carets-is context labels cs) (text-styled context.severity (style_under labels)
      (λ c. repeated c.unicode_width (caret_for context.chars (style_under labels c))) None
      (metrics_before (max_label_end labels) cs)
      (each_all
      (λ c. StreamIsUtf8
      (repeated c.unicode_width (caret_for context.chars (style_under labels c))))
      (metrics_before (max_label_end labels) cs)
      (λ c. text-repeated c.unicode_width (caret_for context.chars (style_under labels c))
      (scalar-caret_for context.chars ok (style_under labels c)))))

  -- the pointers
  text-pointer_glyphs : (style : Option LabelStyle) (c : Metrics)
      → StreamIsUtf8 (pointer_glyphs context style c)
  unfolding pointer_glyphs
  text-pointer_glyphs None c = text-spaces c.unicode_width
  text-pointer_glyphs (Some style) c =
      text-both (label_glyph context.severity style context.chars.pointer_left)
      (spaces (c.unicode_width - 1))
      (text-label_glyph context.severity style context.chars.pointer_left ok.pointer_left)
      (text-spaces (c.unicode_width - 1))

  text-pointers : (labels : List LabelModel) (cs : List Metrics)
      → StreamIsUtf8 (pointers context labels cs)
  unfolding pointers
  text-pointers labels cs =
      let near = metrics_up_to (max_label_start labels) cs in
      let shown : Metrics → Stream =
      λ c. pointer_glyphs context (style_of_any (starts_in c) (hanging_labels labels)) c in
      text-each shown near
      (each_all (λ c. StreamIsUtf8 (shown c)) near (λ c. text-pointer_glyphs _ c))

  -- the underlines
  text-underline_message : (message : Stream) → StreamIsUtf8 message
      → StreamIsUtf8 (underline_message message)
  unfolding underline_message
  text-underline_message [] t = text-none
  text-underline_message (p ∷ ps) t = text-both space (p ∷ ps) text-space t

  text-underline : (style : LabelStyle) (cs : List Metrics) (multi_label : MultiLabel)
      → MultiLabelIsUtf8 multi_label
      → StreamIsUtf8 (underline context.chars style cs multi_label)
  unfolding underline
  text-underline style cs (Top start) t =
      followed
      (text-repeated (width_of (metrics_up_to start cs)) context.chars.multi_top ok.multi_top)
      (text-glyph (start_caret context.chars style) (scalar-start_caret context.chars ok style))
  text-underline style cs Left t = text-none
  text-underline style cs (Bottom end message) t =
      followed
      (followed
      (text-repeated (width_of (metrics_before end cs)) context.chars.multi_bottom
      ok.multi_bottom)
      (text-glyph (end_caret context.chars style) (scalar-end_caret context.chars ok style)))
      (text-underline_message message t)

  text-row_start : (line : Line) → StreamIsUtf8 (row_start context line)
  text-row_start line =
      followed
      (followed (followed (text-outer_gutter context.padding) (text-border_left context.chars ok))
      (text-inner_gutter (leading_of line) SingleLabels line.lanes))
      text-space

  -- the stream of a row is a text where what it is rendered from are texts
  pub text-row : (row : Row) → RowIsUtf8 row → StreamIsUtf8 (stream_of context row)
  unfolding header_row snippet_start_row first_note_row later_note_row
  text-row (HeaderRow at header_text) h =
      followed
      (followed
      (followed
      (followed
      (followed
      (followed
      (followed (text-header_locus at h.0) (text-style_mark (Header context.severity)))
      (text-severity context.severity))
      (text-bracketed header_text.code h.1))
      (text-style_mark HeaderMessage))
      text-colon_space)
      (text-byte_stream header_text.message h.2))
      (text-style_mark Reset)
  text-row (SnippetStartRow at) h =
      followed
      (followed
      (followed
      (followed (followed (text-outer_gutter context.padding) (text-style_mark SourceBorder))
      (text-byte_stream (start_text context.chars.snippet_start) ok.snippet_start))
      (text-style_mark Reset))
      text-space)
      (text-locus at h)
  text-row (EmptyRow lanes) h =
      followed (followed (text-outer_gutter context.padding) (text-border_left context.chars ok))
      (text-inner_gutter 0 EmptyOrBreak lanes)
  text-row (BreakRow lanes) h =
      followed
      (followed (text-outer_gutter context.padding) (text-border_left_break context.chars ok))
      (text-inner_gutter 0 EmptyOrBreak lanes)
  text-row (SourceRow line) h =
      followed
      (followed
      (followed
      (followed (text-outer_gutter_number context.padding line.number)
      (text-border_left context.chars ok))
      (text-inner_gutter (leading_of line) Source line.lanes))
      text-space)
      (text-colored line h)
  text-row (CaretRow line) h =
      followed
      (followed (text-row_start line)
      (text-carets line.labels (line_metrics_to_end context line)))
      (text-trailing_label context.severity line.labels h)
  text-row (PointerRow line) h =
      followed (text-row_start line) (text-pointers line.labels (line_metrics context line))
  text-row (HangingRow line x) h =
      followed
      (followed (text-row_start line)
      (text-pointers line.labels (metrics_before x.start (line_metrics context line))))
      (text-label_message context.severity x.style x.message h)
  text-row (UnderlineRow line m) h =
      followed
      (followed
      (followed
      (followed
      (followed (text-outer_gutter context.padding) (text-border_left context.chars ok))
      (text-inner_gutter (leading_of line) (Underline m) line.lanes))
      (text-style_mark (Label context.severity m.style)))
      (text-underline m.style (line_metrics context line) m.multi_label h))
      (text-style_mark Reset)
  text-row (FirstNoteRow note_line) h =
      followed
      (followed
      (followed
      (followed (followed (text-outer_gutter context.padding) (text-style_mark NoteBullet))
      (text-glyph context.chars.note_bullet ok.note_bullet))
      (text-style_mark Reset))
      text-space)
      (text-byte_stream note_line h)
  text-row (LaterNoteRow note_line) h =
      followed (followed (followed (text-outer_gutter context.padding) text-space) text-space)
      (text-byte_stream note_line h)
  text-row FinalRow h = text-none

  -- and so are those of many rows
  pub text-rows : (rows : List Row) → AllByRecursion RowIsUtf8 rows
      → StreamIsUtf8 (stream_of_rows context rows)
  text-rows rows h =
      text-each (λ row. stream_of context row ++ newline) rows
      (all-weaker RowIsUtf8 (λ row. StreamIsUtf8 (stream_of context row ++ newline))
      (λ row r. text-both (stream_of context row) newline (text-row row r) text-newline) rows h)
