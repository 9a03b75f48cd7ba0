-- For `lanes_take_two_characters`: each lane takes two characters.
use Rattle.std.proofs.Common.{◌≡◌, ℕ, zero, suc, ◌+◌, ◌*◌, ◌++◌, flat_map}
use Rattle.std.proofs.Common.{Option, Some, None, refl, ◌∙◌, arith}
use Rattle.std.specs.List.{range_with_len}
use Rattle.codespan_base.specs.declared.diagnostic.Severity.{Severity}
use Rattle.codespan_base.specs.declared.diagnostic.LabelStyle.{LabelStyle}
use Rattle.codespan_base.specs.declared.term.config.chars.Chars.{Chars}
use Rattle.codespan_base.specs.declared.diagnostic.LabelStyle.TheVariants.{Primary}
use Rattle.codespan_base.specs.Labels.{LaneMark, MultiLabel}
use Rattle.codespan_base.specs.Streams.{Stream, style_mark, glyph, repeated}
use Rattle.codespan_base.specs.declared.term.config.style_mark.StyleMark.{StyleMark}
use Rattle.codespan_base.specs.declared.term.config.style_mark.StyleMark.TheVariants.{Label, Reset}
use Rattle.codespan_output.specs.RowLaws.{row_length}
use Rattle.codespan_output.specs.declared.lane_shapes.Shape.{Shape}
use Rattle.codespan_output.specs.declared.lane_shapes.Shape.TheVariants.{Space, Bar, TopCorner}
use Rattle.codespan_output.specs.declared.lane_shapes.Shape.TheVariants.{BottomCorner}
use Rattle.codespan_output.specs.Lanes.{underline_char, crossing_characters, label_glyph}
use Rattle.codespan_output.specs.Lanes.{lane_mark_in, lane_characters}
use Rattle.codespan_output.specs.Rows.{RowContext, Lanes}
use Rattle.codespan_output.proofs.Utf8.Texts.{row_length-append, row_length-glyph}
use Rattle.codespan_output.proofs.Utf8.Texts.{row_length-style_mark, row_length-repeated}
use Rattle.codespan_output.proofs.Utf8.Texts.{row_length-spaces}
use Rattle.codespan_output.specs.Private.LineViews.{inner_gutter_column, lanes_in}

-- a stream between two style marks is as long as it is alone
row_length-between_style_marks : (m : StyleMark) (s : Stream)
    → row_length (style_mark m ++ s ++ style_mark Reset) ≡ row_length s
row_length-between_style_marks m s =
    row_length-append (style_mark m ++ s) (style_mark Reset)
    ∙ omega (
      arith,
      row_length-append (style_mark m) s,
      row_length-style_mark m,
      row_length-style_mark Reset,
    )

row_length-crossing_characters : (severity : Severity) (chars : Chars) (crossing : Option LaneMark)
    (n : ℕ)
    → row_length (crossing_characters severity chars crossing n) ≡ n
unfolding crossing_characters
row_length-crossing_characters severity chars None n = row_length-spaces n
row_length-crossing_characters severity chars (Some m) n =
    row_length-between_style_marks (Label severity m.style)
    (repeated n (underline_char chars m.multi_label))
    ∙ row_length-repeated n (underline_char chars m.multi_label)

pub row_length-label_glyph : (severity : Severity) (style : LabelStyle) (c : ℕ)
    → row_length (label_glyph severity style c) ≡ 1
unfolding label_glyph
row_length-label_glyph severity style c =
    row_length-between_style_marks (Label severity style) (glyph c) ∙ row_length-glyph c

-- a character of the crossing, or a space, and the lane's own character
filled_and_own : (severity : Severity) (chars : Chars) (crossing : Option LaneMark)
    (style : LabelStyle) (own : ℕ)
    → row_length (crossing_characters severity chars crossing 1 ++ label_glyph severity style own)
    ≡ 2
filled_and_own severity chars crossing style own =
    row_length-append (crossing_characters severity chars crossing 1)
    (label_glyph severity style own)
    ∙ omega (
      arith,
      row_length-crossing_characters severity chars crossing 1,
      row_length-label_glyph severity style own,
    )

pub row_length-lane_characters : (severity : Severity) (chars : Chars) (crossing : Option LaneMark)
    (style : LabelStyle) (shape : Shape)
    → row_length (lane_characters severity chars crossing style shape) ≡ 2
unfolding lane_characters
row_length-lane_characters severity chars crossing style Space =
    row_length-crossing_characters severity chars crossing 2
row_length-lane_characters severity chars crossing style Bar =
    filled_and_own severity chars crossing style chars.multi_left
row_length-lane_characters severity chars crossing style TopCorner =
    filled_and_own severity chars crossing style chars.multi_top_left
row_length-lane_characters severity chars crossing style BottomCorner =
    filled_and_own severity chars crossing style chars.multi_bottom_left

pub row_length-inner_gutter_column : (context : RowContext) (crossing : Option LaneMark)
    (shape : MultiLabel → Shape) (lane_mark : Option LaneMark)
    → row_length (inner_gutter_column context crossing shape lane_mark) ≡ 2
row_length-inner_gutter_column context crossing shape None =
    row_length-lane_characters context.severity context.chars crossing Primary Space
row_length-inner_gutter_column context crossing shape (Some m) =
    row_length-lane_characters context.severity context.chars crossing m.style (shape m.multi_label)

twice : (f : ℕ → Stream) → ((k : ℕ) → row_length (f k) ≡ 2) → (a n : ℕ)
    → row_length (flat_map f (range_with_len a n)) ≡ 2 * n
twice f two a zero = refl
twice f two a (suc n) =
    row_length-append (f a) (flat_map f (range_with_len (a + 1) n))
    ∙ omega (arith, two a, twice f two (a + 1) n)

-- the lanes of any row
pub row_length-lanes_in : (context : RowContext) (crossing : ℕ → Option LaneMark)
    (shape : ℕ → MultiLabel → Shape) (lanes : Lanes)
    → row_length (lanes_in context crossing shape lanes) ≡ 2 * lanes.count
row_length-lanes_in context crossing shape lanes =
    twice
    (λ lane. inner_gutter_column context (crossing lane) (shape lane)
    (lane_mark_in lanes.lane_marks lane))
    (λ lane. row_length-inner_gutter_column context (crossing lane) (shape lane)
    (lane_mark_in lanes.lane_marks lane))
    0 lanes.count
