-- For `pointers_are_cells`: the texts of pointer rows, and the law.
use Rattle.codespan_core.proofs.Std.{◌≡◌, ℕ, chars, ◌-◌, ◌≤◌, Bool, true, false}
use Rattle.codespan_core.proofs.Std.{cond, nat_lt, nat_le, List, [], ◌∷◌, ◌++◌, filter}
use Rattle.codespan_core.proofs.Std.{flat_map, replicate, encode_utf8_all, refl, sym, ap, ap₂}
use Rattle.codespan_core.proofs.Std.{◌∙◌, arith, append-nil, Contains, encode_utf8, nat_tests}
use Rattle.codespan_core.specs.Labels.{LabelModel}
use Rattle.codespan_core.specs.Streams.{style_mark, glyph, spaces, text_of}
use Rattle.codespan_core.specs.declared.term.config.style_mark.StyleMark.TheVariants.{Label, Reset}
use Rattle.codespan_output.specs.Types.{Severity, LabelStyle, Chars, Metrics}
use Rattle.codespan_output.specs.{width_of, label_glyph, pointer_cells, StartsHaveCells}
use Rattle.codespan_output.specs.{PointersAreCells, RowContext, Line, hanging_labels, starts_in}
use Rattle.codespan_output.specs.{max_label_start, pointers, metrics_before, line_metrics}
use Rattle.codespan_output.proofs.Utf8.Texts.{text_of-append, text_of-style_mark, text_of-glyph}
use Rattle.codespan_output.proofs.Utf8.Texts.{text_of-spaces, encode_utf8_all-append}
use Rattle.codespan_output.proofs.Utf8.Texts.{encode_utf8_all-spaces}
use Rattle.codespan_output.proofs.Pointers.HangingStarts.{any-hanging_labels, any-below}
use Rattle.codespan_output.proofs.Characters.Consecutive.{AreConsecutive, char_metrics-consecutive}
use Rattle.codespan_output.proofs.Pointers.Cells.{contains-later, some_in, any_in, column-at}
use Rattle.codespan_output.proofs.Pointers.Cells.{points, codes_at, IsWide, char_metrics-codes}
use Rattle.codespan_output.proofs.Pointers.Cells.{far-codes}
use Rattle.codespan_output.specs.Private.{pointer_style, spaces_up_to, pointer_at}
use Rattle.codespan_output.proofs.Pointers.Forms.{pointers-each}

-- ---- texts

text_of-spaces_up_to : (byte_index n : ℕ) (c : Metrics)
    → text_of (spaces_up_to byte_index c n) ≡ encode_utf8_all
    (cond (nat_le c.byte_index byte_index) (replicate n 32) [])
unfolding spaces_up_to
text_of-spaces_up_to byte_index n c = by_test (nat_le c.byte_index byte_index)
  where
    by_test : (b : Bool)
        → text_of (cond b (spaces n) []) ≡ encode_utf8_all (cond b (replicate n 32) [])
    by_test true = text_of-spaces n ∙ sym (encode_utf8_all-spaces n)
    by_test false = refl

text_of-label_glyph : (severity : Severity) (style : LabelStyle) (c : ℕ)
    → text_of (label_glyph severity style c) ≡ encode_utf8 c
unfolding label_glyph
text_of-label_glyph severity style c =
    text_of-append (style_mark (Label severity style) ++ glyph c) (style_mark Reset)
    ∙ ap₂ (λ s t. s ++ t)
    (text_of-append (style_mark (Label severity style)) (glyph c)
    ∙ ap₂ (λ s t. s ++ t) (text_of-style_mark _) (text_of-glyph c))
    (text_of-style_mark _)
    ∙ append-nil (encode_utf8 c)

module _ (context : RowContext) (labels : List LabelModel) where
  text_of-pointer_at : (c : Metrics)
      → text_of (pointer_at context labels (hanging_labels labels) c) ≡ encode_utf8_all
      (codes_at context.chars labels c)
  unfolding pointer_at
  text_of-pointer_at c = by_points (points context.chars labels c)
    where
      by_points : (b : Bool)
          → text_of
          (cond b
          (label_glyph context.severity (pointer_style (hanging_labels labels) c)
          context.chars.pointer_left
          ++ spaces_up_to (max_label_start labels) c (c.unicode_width - 1))
          (spaces_up_to (max_label_start labels) c c.unicode_width))
          ≡ encode_utf8_all
          (cond b
          (context.chars.pointer_left
          ∷ cond (nat_le c.byte_index (max_label_start labels)) (replicate (c.unicode_width - 1)
          32) [])
          (cond (nat_le c.byte_index (max_label_start labels)) (replicate c.unicode_width 32) []))
      by_points true =
          text_of-append
          (label_glyph context.severity (pointer_style (hanging_labels labels) c)
          context.chars.pointer_left)
          (spaces_up_to (max_label_start labels) c (c.unicode_width - 1))
          ∙ ap₂ (λ s t. s ++ t)
          (text_of-label_glyph context.severity (pointer_style (hanging_labels labels) c)
          context.chars.pointer_left)
          (text_of-spaces_up_to (max_label_start labels) (c.unicode_width - 1) c)
      by_points false = text_of-spaces_up_to (max_label_start labels) c.unicode_width c

  text_of-all : (cs : List Metrics)
      → text_of (flat_map (pointer_at context labels (hanging_labels labels)) cs)
      ≡ encode_utf8_all
      (flat_map (codes_at context.chars labels) cs)
  text_of-all [] = refl
  text_of-all (c ∷ cs) =
      text_of-append (pointer_at context labels (hanging_labels labels) c)
      (flat_map (pointer_at context labels (hanging_labels labels)) cs)
      ∙ ap₂ (λ s t. s ++ t) (text_of-pointer_at c) (text_of-all cs)
      ∙ sym
      (encode_utf8_all-append (codes_at context.chars labels c)
      (flat_map (codes_at context.chars labels) cs))

  text_of-pointers : (cs : List Metrics)
      → text_of (pointers context labels cs) ≡ encode_utf8_all
      (flat_map (codes_at context.chars labels) cs)
  text_of-pointers cs = ap text_of (pointers-each context labels cs) ∙ text_of-all cs

-- ---- the law

wide-all : (chars : Chars) (labels : List LabelModel) (cs : List Metrics)
    → StartsHaveCells labels cs → IsWide chars labels cs
wide-all chars labels [] h = tt
wide-all chars labels (c ∷ cs) h = (
  λ holds. let r = some_in (starts_in c) (hanging_labels labels) holds in
      h c r.0 (0, omega arith, refl) r.1 r.2,
  wide-all chars labels cs (λ d x inside. h d x (contains-later c d cs inside)),
)

le-down : (g p q : ℕ) → nat_le p g ≡ false → p ≤ q → nat_le q g ≡ false
le-down g p q h low = grind (arith, nat_tests)

lt-down : (g p q : ℕ) → nat_lt p g ≡ false → p ≤ q → nat_lt q g ≡ false
lt-down g p q h low = grind (arith, nat_tests)

pub pointers_are_cells : (context : RowContext) (line : Line)
    → StartsHaveCells line.labels (line_metrics context line) → PointersAreCells context line
pointers_are_cells context line wide = record {
  in_pointer_row = rw (text_of-append, row_text) refl;
  in_hanging_row = λ x inside. rw (text_of-append, text_of-append, before_text x inside) refl;
  message_begins =
      λ x c inside at start.
      (let column = column-at 0 0 cs c adjacent at in rw start (omega (arith, column)));
}
  where
    cs : List Metrics
    cs = line_metrics context line

    adjacent : AreConsecutive 0 0 cs
    adjacent = char_metrics-consecutive context.tab_width 0 0 (chars line.text)

    row_text : text_of (pointers context line.labels cs)
        ≡ encode_utf8_all
        (pointer_cells context.chars line.labels cs
        (width_of
        (filter (λ (c : Metrics). nat_le c.byte_index (max_label_start line.labels)) cs)))
    row_text =
        text_of-pointers context line.labels cs
        ∙ ap encode_utf8_all (far-codes context.chars line.labels cs
        ∙ sym
        (char_metrics-codes context.chars line.labels (λ q. nat_le q (max_label_start line.labels))
        (λ q h. grind (arith, nat_tests)) (le-down (max_label_start line.labels)) 0 0 cs adjacent
        (wide-all context.chars line.labels cs wide)))

    before_text : (x : LabelModel) → Contains (hanging_labels line.labels) x
        → text_of (pointers context line.labels (metrics_before x.start cs)) ≡ encode_utf8_all
        (pointer_cells context.chars line.labels cs (width_of (metrics_before x.start cs)))
    before_text x inside =
        let near : x.start ≤ max_label_start line.labels =
        any-below 0 x.start (λ y. nat_le x.start y.start) line.labels
        (λ y h. grind (arith, nat_tests))
        (any-hanging_labels (λ y. nat_le x.start y.start) line.labels
        (any_in (λ y. nat_le x.start y.start) (hanging_labels line.labels) x inside
        (grind (arith, nat_tests)))) in
        text_of-pointers context line.labels (metrics_before x.start cs)
        ∙ ap encode_utf8_all
        (sym
        (char_metrics-codes context.chars line.labels (λ q. nat_lt q x.start)
        (λ q h. grind (arith, nat_tests)) (lt-down x.start) 0 0 cs adjacent
        (wide-all context.chars line.labels cs wide)))
