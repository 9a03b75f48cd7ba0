-- For `messages_appear_once` and `reordering_changes_nothing`: labels with other messages have the
-- same rows but for these messages. `re φ` is a label whose message a function `φ` has changed;
-- it changes no message to an empty one or back.
use Rattle.codespan_core.proofs.Std.{◌≡◌, max, ◌&&◌, ◌||◌, List, map, flat_map, Some}
use Rattle.codespan_core.proofs.Std.{None, refl, ap, ap₂, ◌∙◌, list_any}
use Rattle.codespan_core.proofs.Std.{if◌then◌else◌}
use Rattle.codespan_core.specs.Streams.{Stream, repeated}
use Rattle.codespan_core.specs.Labels.{LabelModel, is_empty, is_primary, is_primary_style, LaneMark}
use Rattle.codespan_core.specs.Labels.{MultiLabel, Top, Left, Bottom}
use Rattle.codespan_output.specs.Types.{Primary, Secondary, Metrics}
use Rattle.codespan_output.specs.{style_under, covers, RowContext, Line, hanging_labels, styled}
use Rattle.codespan_output.specs.{line_metrics, multi_label_covers, source_style, source_glyph}
use Rattle.codespan_output.specs.{colored_text, carets, pointers, starts_in, max_label_start}
use Rattle.codespan_output.specs.{style_of_any, pointer_glyphs, metrics_before, metrics_up_to}
use Rattle.codespan_output.specs.{caret_for}
use mathlib.Core.Path.{fun_ext}
use Rattle.codespan_output.proofs.Slots.RefilledLabels.{any-map, fold-map, refilled_multi_label}
use Rattle.codespan_output.proofs.Slots.RefilledLabels.{refilled, refilled_lane_mark, refilled_line}
use Rattle.codespan_output.proofs.Slots.RefilledLanes.{greatest, hanging_labels-refilled}

module _ (φ : Stream → Stream)
    (keeps : (s : Stream) → is_empty (φ s) ≡ is_empty s)
  where
    -- ---- text, carets and pointers

    multi_label_covers-refilled : (c : Metrics) (multi_label : MultiLabel)
        → multi_label_covers c (refilled_multi_label φ multi_label)
        ≡ multi_label_covers c multi_label
    multi_label_covers-refilled c (Top start) = refl
    multi_label_covers-refilled c Left = refl
    multi_label_covers-refilled c (Bottom end message) = refl

    source_style-refilled : (line : Line) (c : Metrics) → source_style (refilled_line φ line) c
        ≡ source_style line c
    source_style-refilled line c =
        ap₂ (λ a b. if a || b then Some Primary else None)
        (any-map (λ x. is_primary x && covers x c) (refilled φ) line.labels)
        (any-map (λ (m : LaneMark). is_primary_style m.style && multi_label_covers c m.multi_label)
        (refilled_lane_mark φ) line.lanes.lane_marks
        ∙ ap (λ p. list_any p line.lanes.lane_marks)
        (fun_ext (λ (m : LaneMark). ap (λ b. is_primary_style m.style && b)
        (multi_label_covers-refilled c m.multi_label))))

    pub colored_text-refilled : (context : RowContext) (line : Line)
        → colored_text context (refilled_line φ line) ≡ colored_text context line
    unfolding colored_text
    colored_text-refilled context line = ap
        (λ style. styled context.severity style source_glyph (line_metrics context line))
        (fun_ext (source_style-refilled line))

    style_under-refilled : (labels : List LabelModel) (c : Metrics)
        → style_under (map (refilled φ) labels) c ≡ style_under labels c
    style_under-refilled labels c =
        ap₂ (λ a b. if a then Some Primary else if b then Some Secondary else None)
        (any-map (λ x. is_primary x && covers x c) (refilled φ) labels)
        (any-map (λ x. covers x c) (refilled φ) labels)

    pub carets-refilled : (context : RowContext) (labels : List LabelModel) (cs : List Metrics)
        → carets context (map (refilled φ) labels) cs ≡ carets context labels cs
    unfolding carets
    carets-refilled context labels cs =
        ap₂ (λ style end. styled context.severity style
        (λ c. repeated c.unicode_width (caret_for context.chars (style c)))
        (metrics_before end cs))
        (fun_ext (style_under-refilled labels)) ((greatest φ keeps) labels)

    max_label_start-refilled : (labels : List LabelModel)
        → max_label_start (map (refilled φ) labels)
        ≡ max_label_start labels
    max_label_start-refilled labels = fold-map (λ m (x : LabelModel). max m x.start) (refilled φ)
        0
        labels

    pointer_style-refilled : (labels : List LabelModel) (c : Metrics)
        → style_of_any (starts_in c) (map (refilled φ) labels)
        ≡ style_of_any (starts_in c) labels
    pointer_style-refilled labels c =
        ap₂ (λ a b. if a then Some Primary else if b then Some Secondary else None)
        (any-map (λ x. is_primary x && starts_in c x) (refilled φ) labels)
        (any-map (starts_in c) (refilled φ) labels)

    pub pointers-refilled : (context : RowContext) (labels : List LabelModel) (cs : List Metrics)
        → pointers context (map (refilled φ) labels) cs ≡ pointers context labels cs
    unfolding pointers
    pointers-refilled context labels cs =
        ap₂ (λ hangs reach. flat_map
        (λ c. pointer_glyphs context (style_of_any (starts_in c) hangs) c)
        (metrics_up_to reach cs))
        ((hanging_labels-refilled φ keeps) labels) (max_label_start-refilled labels)
        ∙ ap (λ f. flat_map f (metrics_up_to (max_label_start labels) cs))
        (fun_ext (λ c. ap (λ style. pointer_glyphs context style c)
        (pointer_style-refilled (hanging_labels labels) c)))
