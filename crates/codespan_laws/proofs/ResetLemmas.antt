-- For `rows_end_reset`: the last style mark of a row is a reset.
use Rattle.std.proofs.Common.{◌≡◌, ℕ, zero, suc, ◌+◌, ◌-◌, Bool, true, false, List}
use Rattle.std.proofs.Common.{[], ◌∷◌, ◌++◌, flat_map, Option, Some, None, refl, ap}
use Rattle.std.proofs.Common.{◌∙◌}
use Rattle.std.specs.List.{repeat, range_with_len}
use Rattle.codespan_base.specs.declared.diagnostic.Severity.{Severity}
use Rattle.codespan_base.specs.declared.diagnostic.LabelStyle.{LabelStyle}
use Rattle.codespan_base.specs.declared.diagnostic.LabelStyle.TheVariants.{Primary, Secondary}
use Rattle.codespan_base.specs.declared.term.config.chars.Chars.{Chars}
use Rattle.codespan_base.specs.Labels.{LaneMark, MultiLabel}
use Rattle.codespan_base.specs.Streams.{Stream, Byte, Mark, Slot, byte_stream, style_mark, spaces}
use Rattle.codespan_base.specs.Streams.{repeated, glyph}
use Rattle.codespan_base.specs.declared.term.config.style_mark.StyleMark.{StyleMark}
use Rattle.codespan_base.specs.declared.term.config.style_mark.StyleMark.TheVariants.{Label, Reset}
use Rattle.codespan_output.specs.declared.char_metrics.Metrics.{Metrics}
use Rattle.codespan_output.specs.declared.lane_shapes.Shape.{Shape}
use Rattle.codespan_output.specs.declared.lane_shapes.Shape.TheVariants.{Space, Bar, TopCorner}
use Rattle.codespan_output.specs.declared.lane_shapes.Shape.TheVariants.{BottomCorner}
use Rattle.codespan_output.specs.Lanes.{crossing_characters, label_glyph, lane_characters}
use Rattle.codespan_output.specs.Lanes.{lane_mark_in}
use Rattle.codespan_output.specs.Rows.{RowContext, Lanes}
use Rattle.codespan_output.specs.RowParts.{style_change}
use Rattle.codespan_output.specs.RowLaws.{is_reset, ends_reset}
use Rattle.codespan_output.specs.Private.LineViews.{inner_gutter_column, lanes_in}
use Rattle.codespan_output.specs.Private.Runs.{styled_after}

-- one stream after another
pub ends_reset-append : (closed : Bool) (s t : Stream)
    → ends_reset closed (s ++ t) ≡ ends_reset (ends_reset closed s) t
ends_reset-append closed [] t = refl
ends_reset-append closed (Byte b ∷ s) t = ends_reset-append closed s t
ends_reset-append closed (Mark m ∷ s) t = ends_reset-append (is_reset m) s t
ends_reset-append closed (Slot k ∷ s) t = ends_reset-append closed s t

-- the last style mark, if there is one, is a reset
pub record Closes (s : Stream) : Type 0 where
  pub closed : ends_reset true s ≡ true

pub closes-append : (s t : Stream) → Closes s → Closes t → Closes (s ++ t)
closes-append s t h k =
    record {
      closed = ends_reset-append true s t ∙ ap (λ c. ends_reset c t) h.closed
          ∙ k.closed;
    }

-- a stream that ends with a reset closes
pub closes-reset : (s : Stream) → Closes (s ++ style_mark Reset)
unfolding style_mark
closes-reset s = record { closed = ends_reset-append true s (Mark Reset ∷ []) }

-- text changes nothing
pub ends_reset-byte_stream : (closed : Bool) (bs : List ℕ) → ends_reset closed (byte_stream bs)
    ≡ closed
unfolding byte_stream
ends_reset-byte_stream closed [] = refl
ends_reset-byte_stream closed (b ∷ bs) = ends_reset-byte_stream closed bs

pub ends_reset-spaces : (closed : Bool) (n : ℕ) → ends_reset closed (spaces n) ≡ closed
unfolding spaces
ends_reset-spaces closed n = ends_reset-byte_stream closed _

pub ends_reset-repeated : (closed : Bool) (n c : ℕ)
    → ends_reset closed (repeated n c) ≡ closed
unfolding repeated
ends_reset-repeated closed zero c = refl
ends_reset-repeated closed (suc n) c =
    ends_reset-append closed (glyph c) (repeat n (glyph c))
    ∙ ap (λ o. ends_reset o (repeat n (glyph c))) (ends_reset-byte_stream closed _)
    ∙ ends_reset-repeated closed n c

-- a stream between a style mark and a reset closes
pub closes-in_style : (m : StyleMark) (s : Stream)
    → Closes (style_mark m ++ s ++ style_mark Reset)
closes-in_style m s = closes-reset (style_mark m ++ s)

-- ---- lanes

closes-crossing_characters : (severity : Severity) (chars : Chars) (crossing : Option LaneMark)
    (n : ℕ)
    → Closes (crossing_characters severity chars crossing n)
unfolding crossing_characters
closes-crossing_characters severity chars None n = record { closed = ends_reset-spaces true n }
closes-crossing_characters severity chars (Some m) n =
    closes-in_style (Label severity m.style) _

pub closes-label_glyph : (severity : Severity) (style : LabelStyle) (c : ℕ)
    → Closes (label_glyph severity style c)
unfolding label_glyph
closes-label_glyph severity style c = closes-in_style (Label severity style) (glyph c)

closes-lane_characters : (severity : Severity) (chars : Chars) (crossing : Option LaneMark)
    (style : LabelStyle) (shape : Shape)
    → Closes (lane_characters severity chars crossing style shape)
unfolding lane_characters
closes-lane_characters severity chars crossing style Space =
    closes-crossing_characters severity chars crossing 2
closes-lane_characters severity chars crossing style Bar =
    closes-append _ _ (closes-crossing_characters severity chars crossing 1)
    (closes-label_glyph severity style chars.multi_left)
closes-lane_characters severity chars crossing style TopCorner =
    closes-append _ _ (closes-crossing_characters severity chars crossing 1)
    (closes-label_glyph severity style chars.multi_top_left)
closes-lane_characters severity chars crossing style BottomCorner =
    closes-append _ _ (closes-crossing_characters severity chars crossing 1)
    (closes-label_glyph severity style chars.multi_bottom_left)

closes-inner_gutter_column : (context : RowContext) (crossing : Option LaneMark)
    (shape : MultiLabel → Shape) (lane_mark : Option LaneMark)
    → Closes (inner_gutter_column context crossing shape lane_mark)
closes-inner_gutter_column context crossing shape None =
    closes-lane_characters context.severity context.chars crossing Primary Space
closes-inner_gutter_column context crossing shape (Some m) =
    closes-lane_characters context.severity context.chars crossing m.style (shape m.multi_label)

-- a stream closes where each part does
pub closes-flat_map : {X : Type 0} (f : X → Stream) → ((x : X) → Closes (f x))
    → (xs : List X)
    → Closes (flat_map f xs)
closes-flat_map f each [] = record { closed = refl }
closes-flat_map f each (x ∷ xs) =
    closes-append (f x) (flat_map f xs) (each x) (closes-flat_map f each xs)

pub closes-lanes_in : (context : RowContext) (crossing : ℕ → Option LaneMark)
    (shape : ℕ → MultiLabel → Shape) (lanes : Lanes)
    → Closes (lanes_in context crossing shape lanes)
closes-lanes_in context crossing shape lanes =
    closes-flat_map
    (λ lane. inner_gutter_column context (crossing lane) (shape lane)
    (lane_mark_in lanes.lane_marks lane))
    (λ lane. closes-inner_gutter_column context (crossing lane) (shape lane)
    (lane_mark_in lanes.lane_marks lane))
    (range_with_len 0 lanes.count)

-- ---- styled characters

-- no style is set
abbrev pub is_none : Option LabelStyle → Bool
is_none None = true
is_none (Some style) = false

ends_reset-style_change : (severity : Severity) (previous now : Option LabelStyle)
    → ends_reset (is_none previous) (style_change severity previous now) ≡ is_none now
unfolding style_change style_mark
ends_reset-style_change severity None None = refl
ends_reset-style_change severity None (Some style) = refl
ends_reset-style_change severity (Some style) None = refl
ends_reset-style_change severity (Some Primary) (Some Primary) = refl
ends_reset-style_change severity (Some Primary) (Some Secondary) = refl
ends_reset-style_change severity (Some Secondary) (Some Primary) = refl
ends_reset-style_change severity (Some Secondary) (Some Secondary) = refl

pub ends_reset-styled : (severity : Severity) (style : Metrics → Option LabelStyle)
    (shown : Metrics → Stream)
    → ((closed : Bool) (c : Metrics) → ends_reset closed (shown c) ≡ closed)
    → (previous : Option LabelStyle) (cs : List Metrics)
    → ends_reset (is_none previous) (styled_after severity style shown previous cs) ≡ true
ends_reset-styled severity style shown plain previous [] = ends_reset-style_change severity previous
    None
ends_reset-styled severity style shown plain previous (c ∷ cs) =
    let rest = styled_after severity style shown (style c) cs in
    let first = style_change severity previous (style c) in
    ends_reset-append (is_none previous) (first ++ shown c) rest
    ∙ ap (λ o. ends_reset o rest)
    (ends_reset-append (is_none previous) first (shown c)
    ∙ plain (ends_reset (is_none previous) first) c ∙ ends_reset-style_change severity previous
    (style c))
    ∙ ends_reset-styled severity style shown plain (style c) cs
