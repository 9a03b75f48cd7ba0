-- For `messages_appear_once` and `reordering_changes_nothing`: the trailing label, the hanging ones
-- and the lanes of labels with other messages.
use Rattle.codespan_core.proofs.Std.{◌≡◌, ℕ, max, Bool, true, false, not, ◌&&◌}
use Rattle.codespan_core.proofs.Std.{◌==◌, nat_lt, List, [], ◌∷◌, map, filter, flat_map}
use Rattle.codespan_core.proofs.Std.{Option, Some, None, option_map, refl, sym, ap, ap₂}
use Rattle.codespan_core.proofs.Std.{◌∙◌, list_any, range_with_len, if◌then◌else◌}
use Rattle.codespan_core.specs.Streams.{Stream}
use Rattle.codespan_core.specs.Labels.{LabelModel, has_message, is_empty, LaneMark, MultiLabel, Top}
use Rattle.codespan_core.specs.Labels.{Left, Bottom}
use Rattle.codespan_output.specs.Types.{LabelStyle, Primary}
use Rattle.codespan_output.specs.{max_label_end, is_overlapping, lane_mark_in, underline_char}
use Rattle.codespan_output.specs.{crossing_characters, lane_characters, Source, EmptyOrBreak}
use Rattle.codespan_output.specs.{SingleLabels, Underline, RowContext, trailing_label}
use Rattle.codespan_output.specs.{hanging_labels, inner_gutter, LaneRowKind, row_shape}
use Rattle.codespan_output.specs.declared.lane_shapes.Shape.{Shape}
use Rattle.codespan_output.specs.declared.lane_shapes.Shape.TheVariants.{Space, Bar, TopCorner}
use Rattle.codespan_output.specs.declared.lane_shapes.Shape.TheVariants.{BottomCorner}
use Rattle.codespan_output.specs.Rows.{Lanes}
use mathlib.Core.Path.{fun_ext}
use Rattle.codespan_output.proofs.Messages.Pass.{Around, others, behind, around_with_end}
use Rattle.codespan_output.proofs.Messages.Pass.{around_trails, around_rightmost, trailing_of}
use Rattle.codespan_output.proofs.Messages.Pass.{hanging_of}
use Rattle.codespan_output.proofs.Messages.Rightmost.{trailing_is, hanging_is}
use Rattle.codespan_output.specs.Private.{inner_gutter_column, lanes_in}
use Rattle.codespan_output.proofs.Slots.RefilledLabels.{any-map, fold-map, filter-map, find-map}
use Rattle.codespan_output.proofs.Slots.RefilledLabels.{map-append', refilled_multi_label, refilled}
use Rattle.codespan_output.proofs.Slots.RefilledLabels.{refilled_lane_mark, refilled_lanes}
use Rattle.codespan_output.proofs.Slots.RefilledLabels.{refilled_around}

module _ (φ : Stream → Stream)
    (keeps : (s : Stream) → is_empty (φ s) ≡ is_empty s)
  where
    -- ---- trailing and hanging

    pub kept_message : (x : LabelModel) → has_message (refilled φ x) ≡ has_message x
    kept_message x = ap not (keeps x.message)

    pub greatest : (labels : List LabelModel) → max_label_end (map (refilled φ) labels)
        ≡ max_label_end labels
    greatest labels = fold-map (λ m (x : LabelModel). max m x.end) (refilled φ) 0 labels

    around : (end : ℕ) (xs : List LabelModel) → around_with_end end (map (refilled φ) xs)
        ≡ option_map (refilled_around φ) (around_with_end end xs)
    around end [] = refl
    around end (x ∷ xs) = by_rest (around_with_end end xs) (x.end == end) (around end xs)
      where
        by_rest : (rest : Option Around) (b : Bool) → around_with_end end (map (refilled φ) xs)
            ≡ option_map (refilled_around φ) rest
            → behind (refilled φ x) (around_with_end end (map (refilled φ) xs))
            (if b then Some
            (record { before = []; here = refilled φ x; after = map (refilled φ) xs })
            else None)
            ≡ option_map (refilled_around φ)
            (behind x rest (if b then Some (record { before = []; here = x; after = xs }) else
            None))
        by_rest None true e = rw e refl
        by_rest None false e = rw e refl
        by_rest (Some a) b e = rw e refl

    others-refilled : (a : Around)
        → others (refilled_around φ a) ≡ map (refilled φ) (others a)
    others-refilled a = sym (map-append' (refilled φ) a.before a.after)

    trails : (a : Around) → around_trails (refilled_around φ a) ≡ around_trails a
    trails a =
        ap₂ (λ b c. b && not c) (kept_message a.here)
        (ap (list_any (λ (x : LabelModel). is_overlapping a.here x.start x.end))
        (others-refilled a)
        ∙ any-map (λ (x : LabelModel). is_overlapping a.here x.start x.end) (refilled φ)
        (others a))

    rightmost-refilled : (labels : List LabelModel) → around_rightmost (map (refilled φ) labels)
        ≡ option_map (refilled_around φ) (around_rightmost labels)
    rightmost-refilled labels = ap (λ e. around_with_end e (map (refilled φ) labels))
        (greatest labels) ∙ around (max_label_end labels) labels

    pub trailing_label-refilled : (labels : List LabelModel)
        → trailing_label (map (refilled φ) labels)
        ≡ option_map (refilled φ) (trailing_label labels)
    trailing_label-refilled labels =
        trailing_is (map (refilled φ) labels)
        ∙ ap trailing_of (rightmost-refilled labels)
        ∙ by_around (around_rightmost labels)
        ∙ ap (option_map (refilled φ)) (sym (trailing_is labels))
      where
        by_around : (r : Option Around) → trailing_of (option_map (refilled_around φ) r)
            ≡ option_map (refilled φ) (trailing_of r)
        by_around None = refl
        by_around (Some a) = ap (λ b. if b then Some (refilled φ a.here) else None) (trails a)
            ∙ by_test (around_trails a)
          where
            by_test : (b : Bool) → (if b then Some (refilled φ a.here) else None)
                ≡ option_map (refilled φ) (if b then Some a.here else None)
            by_test true = refl
            by_test false = refl

    with_message : (xs : List LabelModel) → filter has_message (map (refilled φ) xs)
        ≡ map (refilled φ) (filter has_message xs)
    with_message xs = filter-map has_message (refilled φ) xs ∙ ap
        (λ p. map (refilled φ) (filter p xs)) (fun_ext kept_message)

    pub hanging_labels-refilled : (labels : List LabelModel)
        → hanging_labels (map (refilled φ) labels) ≡ map (refilled φ) (hanging_labels labels)
    hanging_labels-refilled labels =
        hanging_is (map (refilled φ) labels)
        ∙ ap (hanging_of (map (refilled φ) labels)) (rightmost-refilled labels)
        ∙ by_around (around_rightmost labels)
        ∙ ap (map (refilled φ)) (sym (hanging_is labels))
      where
        by_around : (r : Option Around)
            → hanging_of (map (refilled φ) labels) (option_map (refilled_around φ) r)
            ≡ map (refilled φ) (hanging_of labels r)
        by_around None = refl
        by_around (Some a) =
            ap₂ (λ b xs. filter has_message (if b then xs else map (refilled φ) labels))
            (trails a)
            (others-refilled a) ∙ by_test (around_trails a)
          where
            by_test : (b : Bool)
                → filter has_message
                (if b then map (refilled φ) (others a) else map (refilled φ)
                labels) ≡ map
                (refilled φ) (filter has_message (if b then others a else labels))
            by_test true = with_message (others a)
            by_test false = with_message labels

    -- ---- lanes

    corner : (chars : _) (multi_label : MultiLabel)
        → underline_char chars (refilled_multi_label φ multi_label)
        ≡ underline_char chars multi_label
    corner chars (Top start) = refl
    corner chars Left = refl
    corner chars (Bottom end message) = refl

    pub crossing_characters-refilled : (severity : _) (chars : _) (m : Option LaneMark) (n : ℕ)
        → crossing_characters severity chars (option_map (refilled_lane_mark φ) m) n
        ≡ crossing_characters severity
        chars m n
    unfolding crossing_characters
    crossing_characters-refilled severity chars None n = refl
    crossing_characters-refilled severity chars (Some m) n = simp (corner chars m.multi_label)

    lane_characters-refilled : (severity : _) (chars : _) (m : Option LaneMark) (style : LabelStyle)
        (shape : Shape)
        → lane_characters severity chars (option_map (refilled_lane_mark φ) m) style shape
        ≡ lane_characters severity chars m style shape
    unfolding lane_characters
    lane_characters-refilled severity chars m style Space = crossing_characters-refilled severity
        chars m 2
    lane_characters-refilled severity chars m style Bar = simp
        (crossing_characters-refilled severity chars m 1)
    lane_characters-refilled severity chars m style TopCorner = simp
        (crossing_characters-refilled severity chars m 1)
    lane_characters-refilled severity chars m style BottomCorner = simp
        (crossing_characters-refilled severity chars m 1)

    lane-refilled : (context : RowContext) (c m : Option LaneMark) (shape : MultiLabel → Shape)
        → ((multi_label : MultiLabel) → shape (refilled_multi_label φ multi_label)
        ≡ shape multi_label)
        → inner_gutter_column context (option_map (refilled_lane_mark φ) c) shape
        (option_map (refilled_lane_mark φ) m) ≡ inner_gutter_column context c shape m
    lane-refilled context c None shape h = lane_characters-refilled context.severity context.chars c
        Primary _
    lane-refilled context c (Some m) shape h = simp (h m.multi_label)
        (lane_characters-refilled context.severity context.chars c m.style (shape m.multi_label))

    lanes-refilled : (context : RowContext) (crossing crossing' : ℕ → Option LaneMark)
        (shape : ℕ → MultiLabel → Shape) (lanes : Lanes)
        → ((lane : ℕ) → crossing' lane ≡ option_map (refilled_lane_mark φ) (crossing lane))
        → ((lane : ℕ) (multi_label : MultiLabel)
        → shape lane (refilled_multi_label φ multi_label)
        ≡ shape lane multi_label)
        → lanes_in context crossing' shape (refilled_lanes φ lanes) ≡ lanes_in context crossing
        shape
        lanes
    lanes-refilled context crossing crossing' shape lanes h same =
        ap (λ f. flat_map f (range_with_len 0 lanes.count)) (fun_ext each)
      where
        each : (lane : ℕ)
            → inner_gutter_column context (crossing' lane) (shape lane)
            (lane_mark_in (map (refilled_lane_mark φ) lanes.lane_marks) lane)
            ≡ inner_gutter_column context (crossing lane) (shape lane)
            (lane_mark_in lanes.lane_marks lane)
        each lane =
            ap₂ (λ c m. inner_gutter_column context c (shape lane) m) (h lane)
            (find-map (λ (m : LaneMark). m.lane == lane) (refilled_lane_mark φ) lanes.lane_marks)
            ∙ lane-refilled context (crossing lane) (lane_mark_in lanes.lane_marks lane)
            (shape lane)
            (same lane)

    row_shape-refilled : (layout : _) (leading : ℕ) (row : LaneRowKind) (lane : ℕ)
        (multi_label : MultiLabel)
        → row_shape layout leading row lane (refilled_multi_label φ multi_label)
        ≡ row_shape layout leading row lane multi_label
    row_shape-refilled layout leading Source lane (Top start) = refl
    row_shape-refilled layout leading Source lane Left = refl
    row_shape-refilled layout leading Source lane (Bottom end message) = refl
    row_shape-refilled layout leading EmptyOrBreak lane (Top start) = refl
    row_shape-refilled layout leading EmptyOrBreak lane Left = refl
    row_shape-refilled layout leading EmptyOrBreak lane (Bottom end message) = refl
    row_shape-refilled layout leading SingleLabels lane (Top start) = refl
    row_shape-refilled layout leading SingleLabels lane Left = refl
    row_shape-refilled layout leading SingleLabels lane (Bottom end message) = refl
    row_shape-refilled layout leading (Underline m) lane (Top start) = refl
    row_shape-refilled layout leading (Underline m) lane Left = refl
    row_shape-refilled layout leading (Underline m) lane (Bottom end message) = refl

    pub source_lanes-refilled : (context : RowContext) (leading : ℕ) (lanes : Lanes)
        → inner_gutter context leading Source (refilled_lanes φ lanes)
        ≡ inner_gutter context leading
        Source
        lanes
    unfolding inner_gutter
    source_lanes-refilled context leading lanes = lanes-refilled context (λ _. None) (λ _. None)
        (row_shape context.layout leading Source) lanes (λ _. refl)
        (row_shape-refilled context.layout leading Source)

    pub plain_lanes-refilled : (context : RowContext) (lanes : Lanes)
        → inner_gutter context 0 EmptyOrBreak (refilled_lanes φ lanes)
        ≡ inner_gutter context 0 EmptyOrBreak lanes
    unfolding inner_gutter
    plain_lanes-refilled context lanes = lanes-refilled context (λ _. None) (λ _. None)
        (row_shape context.layout 0 EmptyOrBreak) lanes (λ _. refl)
        (row_shape-refilled context.layout 0 EmptyOrBreak)

    pub below_lanes-refilled : (context : RowContext) (leading : ℕ) (lanes : Lanes)
        → inner_gutter context leading SingleLabels (refilled_lanes φ lanes)
        ≡ inner_gutter context leading
        SingleLabels lanes
    unfolding inner_gutter
    below_lanes-refilled context leading lanes = lanes-refilled context (λ _. None) (λ _. None)
        (row_shape context.layout leading SingleLabels) lanes (λ _. refl)
        (row_shape-refilled context.layout leading SingleLabels)

    pub underline_lanes-refilled : (context : RowContext) (leading : ℕ) (m : LaneMark)
        (lanes : Lanes)
        → inner_gutter context leading (Underline (refilled_lane_mark φ m))
        (refilled_lanes φ lanes)
        ≡ inner_gutter context leading (Underline m) lanes
    unfolding inner_gutter
    underline_lanes-refilled context leading m lanes =
        lanes-refilled context (λ lane. if nat_lt m.lane lane then Some m else None)
        (λ lane. if nat_lt m.lane lane then Some (refilled_lane_mark φ m) else None)
        (row_shape context.layout leading (Underline m)) lanes
        (λ lane. by_test (nat_lt m.lane lane))
        (row_shape-refilled context.layout leading (Underline m))
      where
        by_test : (b : Bool) → (if b then Some (refilled_lane_mark φ m) else None)
            ≡ option_map (refilled_lane_mark φ) (if b then Some m else None)
        by_test true = refl
        by_test false = refl
