-- For `messages_appear_once`: the slots in each part of a row.
use Rattle.codespan_core.proofs.Std.{◌≡◌, ℕ, zero, suc, ◌+◌, Bool, true, false}
use Rattle.codespan_core.proofs.Std.{cond, ◌==◌, List, [], ◌∷◌, ◌++◌, replicate}
use Rattle.codespan_core.proofs.Std.{Option, Some, None, refl, ap₂, ◌∙◌, arith, count_by}
use Rattle.codespan_core.proofs.Std.{flat_map, repeat, range_with_len, sum_by-cons, sum_by-append}
use Rattle.codespan_core.proofs.Std.{if◌then◌else◌}
use Rattle.codespan_core.specs.Streams.{Stream, Byte, style_mark, byte_stream, spaces, space, glyph}
use Rattle.codespan_core.specs.Streams.{repeated}
use Rattle.codespan_core.specs.declared.term.config.style_mark.StyleMark.{StyleMark}
use Rattle.codespan_core.specs.Labels.{LabelModel, LaneMark, MultiLabel}
use Rattle.codespan_output.specs.Types.{Severity, LabelStyle, Primary, Secondary, Chars, Metrics}
use Rattle.codespan_output.specs.{style_under, max_label_end, lane_mark_in, label_glyph}
use Rattle.codespan_output.specs.{crossing_characters, lane_characters, LaneRowKind, Locus}
use Rattle.codespan_output.specs.{RowContext, Line, hanging_labels, snippet_locus, outer_gutter}
use Rattle.codespan_output.specs.{outer_gutter_number, border_left, border_left_break, style_change}
use Rattle.codespan_output.specs.{label_message, inner_gutter, line_metrics, source_style}
use Rattle.codespan_output.specs.{source_glyph, colored_text, carets, trailing_message, pointers}
use Rattle.codespan_output.specs.{starts_in, max_label_start, underline_message, is_slot}
use Rattle.codespan_output.specs.{style_of_any, pointer_glyphs, metrics_before, metrics_up_to}
use Rattle.codespan_output.specs.{caret_for}
use Rattle.codespan_output.specs.declared.lane_shapes.Shape.{Shape}
use Rattle.codespan_output.specs.declared.lane_shapes.Shape.TheVariants.{Space, Bar, TopCorner}
use Rattle.codespan_output.specs.declared.lane_shapes.Shape.TheVariants.{BottomCorner}
use Rattle.codespan_output.specs.Rows.{Lanes}
use Rattle.codespan_output.proofs.Messages.TrailOrHang.{weight_of}
use Rattle.codespan_output.specs.Private.{inner_gutter_column, lanes_in, styled_after}
use Rattle.codespan_output.proofs.Characters.Styled.{carets-is, colored_text-is}

-- how many slots of a label a stream has, folded unless a proof unfolds it
unfoldable pub slots : ℕ → Stream → ℕ
slots k s = count_by (is_slot k) s

pub slots-is : (k : ℕ) (s : Stream) → count_by (is_slot k) s ≡ slots k s
unfolding slots
slots-is k s = refl

pub slots-append : (k : ℕ) (s t : Stream) → slots k (s ++ t) ≡ slots k s + slots k t
unfolding slots
slots-append k s t = sum_by-append (λ x. cond (is_slot k x) 1 0) s t

pub slots-nil : (k : ℕ) → slots k [] ≡ 0
unfolding slots
slots-nil k = refl

pub slots-byte_stream : (k : ℕ) (bs : List ℕ) → slots k (byte_stream bs) ≡ 0
unfolding slots byte_stream
slots-byte_stream k [] = refl
slots-byte_stream k (b ∷ bs) = omega (
  arith,
  sum_by-cons (λ x. cond (is_slot k x) 1 0) (Byte b) (byte_stream bs),
  slots-byte_stream k
      bs,
)

pub slots-style_mark : (k : ℕ) (m : StyleMark) → slots k (style_mark m) ≡ 0
unfolding slots style_mark
slots-style_mark k m = refl

pub slots-spaces : (k n : ℕ) → slots k (spaces n) ≡ 0
unfolding spaces
slots-spaces k n = slots-byte_stream k (replicate n 32)

pub slots-repeat : (k n : ℕ) (s : Stream) → slots k s ≡ 0 → slots k (repeat n s) ≡ 0
slots-repeat k zero s h = slots-nil k
slots-repeat k (suc n) s h = slots-append k s (repeat n s) ∙ ap₂
    (λ a b. a + b) h (slots-repeat k n s h)

pub slots-repeated : (k n c : ℕ) → slots k (repeated n c) ≡ 0
unfolding repeated
slots-repeated k n c = slots-repeat k n (glyph c) (slots-byte_stream k _)

pub slots-flat_map : {X : Type 0} (k : ℕ) (f : X → Stream) (xs : List X)
    → ((x : X) → slots k (f x) ≡ 0) → slots k (flat_map f xs) ≡ 0
slots-flat_map k f [] h = slots-nil k
slots-flat_map k f (x ∷ xs) h = slots-append k (f x) (flat_map f xs) ∙ ap₂
    (λ a b. a + b) (h x) (slots-flat_map k f xs h)

pub ruleset slots_of_parts = (
  slots-append,
  slots-nil,
  slots-byte_stream,
  slots-style_mark,
  slots-spaces,
  slots-repeated,
)

pub slots-label_glyph : (k : ℕ) (severity : Severity) (style : LabelStyle) (c : ℕ)
    → slots k (label_glyph severity style c) ≡ 0
unfolding label_glyph
slots-label_glyph k severity style c = simp slots_of_parts

pub slots-crossing_characters : (k : ℕ) (severity : Severity) (chars : Chars)
    (m : Option LaneMark)
    (n : ℕ)
    → slots k (crossing_characters severity chars m n) ≡ 0
unfolding crossing_characters
slots-crossing_characters k severity chars None n = slots-spaces k n
slots-crossing_characters k severity chars (Some m) n = simp slots_of_parts

pub slots-lane_characters : (k : ℕ) (severity : Severity) (chars : Chars) (m : Option LaneMark)
    (style : LabelStyle) (shape : Shape)
    → slots k (lane_characters severity chars m style shape) ≡ 0
unfolding lane_characters
slots-lane_characters k severity chars m style Space = slots-crossing_characters k severity chars m
    2
slots-lane_characters k severity chars m style Bar = simp
    (slots_of_parts, slots-crossing_characters, slots-label_glyph)
slots-lane_characters k severity chars m style TopCorner = simp
    (slots_of_parts, slots-crossing_characters, slots-label_glyph)
slots-lane_characters k severity chars m style BottomCorner = simp
    (slots_of_parts, slots-crossing_characters, slots-label_glyph)

pub slots-inner_gutter_column : (k : ℕ) (context : RowContext) (crossing : Option LaneMark)
    (shape : MultiLabel → Shape) (m : Option LaneMark)
    → slots k (inner_gutter_column context crossing shape m) ≡ 0
slots-inner_gutter_column k context crossing shape None = slots-lane_characters k context.severity
    context.chars crossing Primary Space
slots-inner_gutter_column k context crossing shape (Some m) = slots-lane_characters k
    context.severity context.chars crossing m.style (shape m.multi_label)

pub slots-lanes_in : (k : ℕ) (context : RowContext) (crossing : ℕ → Option LaneMark)
    (shape : ℕ → MultiLabel → Shape) (lanes : Lanes)
    → slots k (lanes_in context crossing shape lanes) ≡ 0
slots-lanes_in k context crossing shape lanes =
    slots-flat_map k (λ lane. inner_gutter_column context (crossing lane) (shape lane)
    (lane_mark_in lanes.lane_marks lane)) (range_with_len 0 lanes.count)
    (λ lane. slots-inner_gutter_column k context (crossing lane) (shape lane)
    (lane_mark_in lanes.lane_marks lane))

pub slots-inner_gutter : (k : ℕ) (context : RowContext) (leading : ℕ) (row : LaneRowKind)
    (lanes : Lanes)
    → slots k (inner_gutter context leading row lanes) ≡ 0
unfolding inner_gutter
slots-inner_gutter k context leading row lanes = slots-lanes_in k context _ _ lanes

pub slots-locus : (k : ℕ) (p : Locus) → slots k (snippet_locus p) ≡ 0
unfolding snippet_locus
slots-locus k p = simp slots_of_parts

pub slots-outer_gutter : (k n : ℕ) → slots k (outer_gutter n) ≡ 0
unfolding outer_gutter
slots-outer_gutter k n = slots-spaces k (n + 1)

pub slots-outer_gutter_number : (k p n : ℕ) → slots k (outer_gutter_number p n) ≡ 0
unfolding outer_gutter_number
slots-outer_gutter_number k p n = simp slots_of_parts

pub slots-border_left : (k : ℕ) (chars : Chars) → slots k (border_left chars) ≡ 0
unfolding border_left
slots-border_left k chars = simp slots_of_parts

pub slots-border_left_break : (k : ℕ) (chars : Chars) → slots k (border_left_break chars) ≡ 0
unfolding border_left_break
slots-border_left_break k chars = simp slots_of_parts

pub slots-style_change : (k : ℕ) (severity : Severity) (a b : Option LabelStyle)
    → slots k (style_change severity a b) ≡ 0
unfolding style_change
slots-style_change k severity None None = slots-nil k
slots-style_change k severity None (Some style) = slots-style_mark k _
slots-style_change k severity (Some style) None = slots-style_mark k _
slots-style_change k severity (Some Primary) (Some Primary) = slots-nil k
slots-style_change k severity (Some Secondary) (Some Secondary) = slots-nil k
slots-style_change k severity (Some Primary) (Some Secondary) = slots-style_mark k _
slots-style_change k severity (Some Secondary) (Some Primary) = slots-style_mark k _

pub slots-styled : (k : ℕ) (severity : Severity) (style : Metrics → Option LabelStyle)
    (shown : Metrics → Stream)
    → ((c : Metrics) → slots k (shown c) ≡ 0)
    → (previous : Option LabelStyle) (cs : List Metrics)
    → slots k (styled_after severity style shown previous cs) ≡ 0
slots-styled k severity style shown h previous [] = slots-style_change k severity previous None
slots-styled k severity style shown h previous (c ∷ cs) =
    let rest = slots-styled k severity style shown h (style c) cs in
    simp (slots-append, slots-style_change, h, rest)

pub slots-source_glyph : (k : ℕ) (c : Metrics) → slots k (source_glyph c) ≡ 0
unfolding source_glyph
slots-source_glyph k c = by_test (c.ch == 9)
  where
    by_test : (b : Bool) → slots k (if b then spaces c.unicode_width else glyph c.ch) ≡ 0
    by_test true = slots-spaces k c.unicode_width
    by_test false = slots-byte_stream k _

pub slots-colored_text : (k : ℕ) (context : RowContext) (line : Line)
    → slots k (colored_text context line) ≡ 0
slots-colored_text k context line =
    rw (colored_text-is context line)
    (slots-styled k context.severity (source_style line) source_glyph (slots-source_glyph k) None
    (line_metrics context line))

pub slots-carets : (k : ℕ) (context : RowContext) (labels : List LabelModel) (cs : List Metrics)
    → slots k (carets context labels cs) ≡ 0
slots-carets k context labels cs =
    rw (carets-is context labels cs) (slots-styled k context.severity (style_under labels)
    (λ c. repeated c.unicode_width (caret_for context.chars (style_under labels c)))
    (λ c. slots-repeated k c.unicode_width _) None (metrics_before (max_label_end labels) cs))

pub slots-pointer_glyphs : (k : ℕ) (context : RowContext) (style : Option LabelStyle)
    (c : Metrics)
    → slots k (pointer_glyphs context style c) ≡ 0
unfolding pointer_glyphs
slots-pointer_glyphs k context None c = slots-spaces k c.unicode_width
slots-pointer_glyphs k context (Some style) c =
    simp (slots-append, slots-label_glyph, slots-spaces)

pub slots-pointers : (k : ℕ) (context : RowContext) (labels : List LabelModel) (cs : List Metrics)
    → slots k (pointers context labels cs) ≡ 0
unfolding pointers
slots-pointers k context labels cs =
    slots-flat_map k
    (λ c. pointer_glyphs context (style_of_any (starts_in c) (hanging_labels labels)) c)
    (metrics_up_to (max_label_start labels) cs) (λ c. slots-pointer_glyphs k context _ c)

pub ruleset parts = (
  slots_of_parts,
  slots-inner_gutter,
  slots-locus,
  slots-outer_gutter,
  slots-outer_gutter_number,
  slots-border_left,
  slots-border_left_break,
  slots-colored_text,
  slots-carets,
  slots-pointers,
)

pub slots-label_message : (k : ℕ) (severity : Severity) (style : LabelStyle) (message : Stream)
    → slots k (label_message severity style message) ≡ slots k message
unfolding label_message
slots-label_message k severity style message = simp slots_of_parts (omega arith)

pub slots-trailing_message : (k : ℕ) (severity : Severity) (x : Option LabelModel)
    → slots k (trailing_message severity x) ≡ weight_of (λ y. slots k y.message) x
unfolding trailing_message
slots-trailing_message k severity None = slots-nil k
slots-trailing_message k severity (Some x) = simp (slots_of_parts, slots-label_message)
    (omega arith)

pub slots-underline_message : (k : ℕ) (message : Stream)
    → slots k (underline_message message) ≡ slots k message
unfolding underline_message
slots-underline_message k [] = refl
slots-underline_message k (p ∷ ps) = omega
    (arith, slots-append k space (p ∷ ps), slots-byte_stream k (32 ∷ []))
