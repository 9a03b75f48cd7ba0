-- For `messages_appear_once`: a row whose slots are filled is the row of the filled labels.
use Rattle.codespan_core.proofs.Std.{◌≡◌, ℕ, ◌+◌, ◌<◌, true, false, cond, ◌==◌}
use Rattle.codespan_core.proofs.Std.{nat_le, List, [], ◌∷◌, ◌++◌, map, filter, Option}
use Rattle.codespan_core.proofs.Std.{Some, None, option_map, refl, sym, ap, ap₂, ◌∙◌}
use Rattle.codespan_core.proofs.Std.{append_assoc, arith, sum_by-cons, nat_tests}
use Rattle.codespan_core.specs.Streams.{Stream, Item, Byte, Mark, Slot, style_mark, space, glyph}
use Rattle.codespan_core.specs.Streams.{repeated, newline, with_messages}
use Rattle.codespan_core.specs.declared.term.config.style_mark.StyleMark.TheVariants.{Label, Reset}
use Rattle.codespan_core.specs.Labels.{LabelModel, is_empty, MultiLabel, Top, Left, Bottom}
use Rattle.codespan_output.specs.Types.{Severity, LabelStyle, Chars, Metrics}
use Rattle.codespan_output.specs.{width_of, RowContext, Line, Row, HeaderRow, SnippetStartRow}
use Rattle.codespan_output.specs.{EmptyRow, BreakRow, SourceRow, CaretRow, PointerRow, HangingRow}
use Rattle.codespan_output.specs.{UnderlineRow, FirstNoteRow, LaterNoteRow, FinalRow}
use Rattle.codespan_output.specs.{trailing_label, outer_gutter, outer_gutter_number, border_left}
use Rattle.codespan_output.specs.{border_left_break, label_message, inner_gutter, line_metrics}
use Rattle.codespan_output.specs.{line_metrics_to_end, carets, trailing_message, pointers}
use Rattle.codespan_output.specs.{metrics_before, underline_message, underline, end_caret}
use Rattle.codespan_output.specs.{stream_of, stream_of_rows, is_slot, Underline}
use Rattle.codespan_output.proofs.Slots.Parts.{slots}
use Rattle.codespan_output.proofs.Slots.RefilledLabels.{refilled, refilled_multi_label}
use Rattle.codespan_output.proofs.Slots.RefilledLabels.{refilled_lane_mark, refilled_lanes}
use Rattle.codespan_output.proofs.Slots.RefilledLabels.{refilled_line}
use Rattle.codespan_output.proofs.Slots.RefilledLanes.{source_lanes-refilled, plain_lanes-refilled}
use Rattle.codespan_output.proofs.Slots.RefilledLanes.{below_lanes-refilled}
use Rattle.codespan_output.proofs.Slots.RefilledLanes.{underline_lanes-refilled}
use Rattle.codespan_output.proofs.Slots.RefilledLanes.{trailing_label-refilled}
use Rattle.codespan_output.proofs.Slots.RefilledLines.{colored_text-refilled, carets-refilled}
use Rattle.codespan_output.proofs.Slots.RefilledLines.{pointers-refilled}
use Rattle.codespan_output.specs.Private.{leading_of, row_start}
use Rattle.codespan_output.proofs.Slots.Rows as slot
use Rattle.codespan_output.proofs.Slots.Parts as slot_part

-- the stream with each slot filled, folded unless a proof unfolds it
unfoldable pub fill : (ℕ → List ℕ) → Stream → Stream
fill m s = with_messages m s

pub fill-is : (m : ℕ → List ℕ) (s : Stream) → with_messages m s ≡ fill m s
unfolding fill
fill-is m s = refl

pub fill-append : (m : ℕ → List ℕ) (s t : Stream) → fill m (s ++ t) ≡ fill m s ++ fill m t
unfolding fill
fill-append m [] t = refl
fill-append m (Byte b ∷ s) t = ap (λ (r : Stream). Byte b ∷ r) (fill-append m s t)
fill-append m (Mark a ∷ s) t = ap (λ (r : Stream). Mark a ∷ r) (fill-append m s t)
fill-append m (Slot k ∷ s) t =
    ap (λ (r : Stream). map Byte (m k) ++ r) (fill-append m s t)
    ∙ sym (append_assoc (map Byte (m k)) (with_messages m s) (with_messages m t))

slots-cons : (k : ℕ) (i : Item) (s : Stream)
    → slots k (i ∷ s) ≡ cond (is_slot k i) 1 0 + slots k s
unfolding slots
slots-cons k i s = sum_by-cons (λ x. cond (is_slot k x) 1 0) i s

slots-slot : (k : ℕ) (s : Stream) → slots k (Slot k ∷ s) ≡ 1 + slots k s
slots-slot k s =
    let same : (k == k) ≡ true = grind (arith, nat_tests) in
    let e = ap {B = ℕ} (λ b. cond b 1 0) same in
    omega (arith, e, slots-cons k (Slot k) s)

-- two fillings are equal where they have one text for each slot of the stream
pub fill_same : (m m' : ℕ → List ℕ) (s : Stream)
    → ((k : ℕ) → 0 < slots k s → m k ≡ m' k)
    → fill m s ≡ fill m' s
unfolding fill
fill_same m m' [] h = refl
fill_same m m' (Byte b ∷ s) h =
    ap (λ (r : Stream). Byte b ∷ r)
    (fill_same m m' s (λ k some. h k (omega (arith, some, slots-cons k (Byte b) s))))
fill_same m m' (Mark a ∷ s) h =
    ap (λ (r : Stream). Mark a ∷ r)
    (fill_same m m' s (λ k some. h k (omega (arith, some, slots-cons k (Mark a) s))))
fill_same m m' (Slot j ∷ s) h =
    ap₂ (λ (b : List ℕ) (r : Stream). map Byte b ++ r) (h j (omega (arith, slots-slot j s)))
    (fill_same m m' s (λ k some. h k (omega (arith, some, slots-cons k (Slot j) s))))

-- a stream without a slot is unchanged
fill_without_slots : (m : ℕ → List ℕ) (s : Stream) → ((k : ℕ) → slots k s ≡ 0)
    → fill m s ≡ s
unfolding fill
fill_without_slots m [] h = refl
fill_without_slots m (Byte b ∷ s) h =
    ap (λ (r : Stream). Byte b ∷ r)
    (fill_without_slots m s (λ k. let e = h k in omega (arith, e, slots-cons k (Byte b) s)))
fill_without_slots m (Mark a ∷ s) h =
    ap (λ (r : Stream). Mark a ∷ r)
    (fill_without_slots m s (λ k. let e = h k in omega (arith, e, slots-cons k (Mark a) s)))
fill_without_slots m (Slot j ∷ s) h = let e = h j in absurd (omega (arith, e, slots-slot j s))

abbrev pub refilled_row : (Stream → Stream) → Row → Row
refilled_row φ (HeaderRow at header_text) = HeaderRow at header_text
refilled_row φ (SnippetStartRow at) = SnippetStartRow at
refilled_row φ (EmptyRow lanes) = EmptyRow (refilled_lanes φ lanes)
refilled_row φ (BreakRow lanes) = BreakRow (refilled_lanes φ lanes)
refilled_row φ (SourceRow line) = SourceRow (refilled_line φ line)
refilled_row φ (CaretRow line) = CaretRow (refilled_line φ line)
refilled_row φ (PointerRow line) = PointerRow (refilled_line φ line)
refilled_row φ (HangingRow line x) = HangingRow (refilled_line φ line) (refilled φ x)
refilled_row φ (UnderlineRow line m) = UnderlineRow (refilled_line φ line)
    (refilled_lane_mark φ m)
refilled_row φ (FirstNoteRow note_line) = FirstNoteRow note_line
refilled_row φ (LaterNoteRow note_line) = LaterNoteRow note_line
refilled_row φ FinalRow = FinalRow

not_empty-append : (s t : Stream) → is_empty s ≡ false
    → is_empty (s ++ t) ≡ false
not_empty-append [] t h = cc
not_empty-append (p ∷ s) t h = refl

module _ (m : ℕ → List ℕ) (full : (k : ℕ) → is_empty (map Byte (m k)) ≡ false)
  where
    pub keeps : (s : Stream) → is_empty (fill m s) ≡ is_empty s
    unfolding fill
    keeps [] = refl
    keeps (Byte b ∷ s) = refl
    keeps (Mark a ∷ s) = refl
    keeps (Slot k ∷ s) = not_empty-append (map Byte (m k)) (with_messages m s) (full k)

    join : (s t : Stream) {s' t' : Stream} → fill m s ≡ s' → fill m t ≡ t'
        → fill m (s ++ t) ≡ s' ++ t'
    join s t p q = fill-append m s t ∙ ap₂ (λ a b. a ++ b) p q

    without_slots : (s : Stream) {s' : Stream} → ((k : ℕ) → slots k s ≡ 0) → s' ≡ s
        → fill m s ≡ s'
    without_slots s h e = fill_without_slots m s h ∙ sym e

    row_start-refilled : (context : RowContext) (line : Line)
        → row_start context (refilled_line (fill m) line) ≡ row_start context line
    row_start-refilled context line =
        ap (λ s. outer_gutter context.padding ++ border_left context.chars ++ s ++ space)
        (below_lanes-refilled (fill m) keeps context (leading_of line) line.lanes)

    opened : (context : RowContext) (line : Line)
        → fill m (row_start context line) ≡ row_start context (refilled_line (fill m) line)
    opened context line =
        without_slots (row_start context line) (λ k. slot.slots-row_start k context line)
        (row_start-refilled context line)

    one-style_mark : (a : _) → fill m (style_mark a) ≡ style_mark a
    one-style_mark a = without_slots (style_mark a) (λ k. slot_part.slots-style_mark k a) refl

    one-space : fill m space ≡ space
    one-space = without_slots space (λ k. slot_part.slots-byte_stream k (32 ∷ [])) refl

    message-refilled : (severity : Severity) (style : LabelStyle) (message : Stream)
        → fill m (label_message severity style message) ≡ label_message severity style
        (fill m message)
    unfolding label_message
    message-refilled severity style message =
        join _ _ (join _ _ (one-style_mark (Label severity style)) refl)
        (one-style_mark Reset)

    trailing_label-message-refilled : (severity : Severity) (x : Option LabelModel)
        → fill m (trailing_message severity x) ≡ trailing_message severity
        (option_map (refilled (fill m)) x)
    unfolding trailing_message
    trailing_label-message-refilled severity None = without_slots [] (λ k. slot_part.slots-nil k)
        refl
    trailing_label-message-refilled severity (Some x) =
        join _ _ one-space (message-refilled severity x.style x.message)

    some_message : (s : Stream) → is_empty s ≡ false
        → underline_message s ≡ space ++ s
    unfolding underline_message
    some_message [] h = cc
    some_message (p ∷ s) h = refl

    underline-message-refilled : (s : Stream) → fill m (underline_message s)
        ≡ underline_message (fill m s)
    unfolding fill underline_message
    underline-message-refilled [] = refl
    underline-message-refilled (p ∷ s) =
        join space (p ∷ s) one-space refl
        ∙ sym (some_message (fill m (p ∷ s)) (keeps (p ∷ s)))

    underline-refilled : (chars : Chars) (style : LabelStyle) (cs : List Metrics)
        (multi_label : MultiLabel)
        → fill m (underline chars style cs multi_label) ≡ underline chars style cs
        (refilled_multi_label (fill m) multi_label)
    unfolding underline
    underline-refilled chars style cs (Top start) =
        join _ _
        (without_slots
        (repeated (width_of (filter (λ (c : Metrics). nat_le c.byte_index start) cs))
        chars.multi_top)
        (λ k. slot_part.slots-repeated k _ _) refl)
        (without_slots (glyph _) (λ k. slot_part.slots-byte_stream k _) refl)
    underline-refilled chars style cs Left = without_slots [] (λ k. slot_part.slots-nil k) refl
    underline-refilled chars style cs (Bottom end message) =
        join _ _
        (join _ _
        (without_slots (repeated (width_of (metrics_before end cs)) chars.multi_bottom)
        (λ k. slot_part.slots-repeated k _ _) refl)
        (without_slots (glyph (end_caret chars style)) (λ k. slot_part.slots-byte_stream k _)
        refl))
        (underline-message-refilled message)

    pub fill-row : (context : RowContext) (row : Row)
        → fill m (stream_of context row) ≡ stream_of context (refilled_row (fill m) row)
    fill-row context (HeaderRow at header_text) =
        without_slots _ (λ k. slot.slots-stream_of k context (HeaderRow at header_text)) refl
    fill-row context (SnippetStartRow at) =
        without_slots _ (λ k. slot.slots-stream_of k context (SnippetStartRow at)) refl
    fill-row context (EmptyRow lanes) =
        without_slots (stream_of context (EmptyRow lanes))
        (λ k. slot.slots-stream_of k context (EmptyRow lanes))
        (ap (λ s. outer_gutter context.padding ++ border_left context.chars ++ s)
        (plain_lanes-refilled (fill m) keeps context lanes))
    fill-row context (BreakRow lanes) =
        without_slots (stream_of context (BreakRow lanes))
        (λ k. slot.slots-stream_of k context (BreakRow lanes))
        (ap (λ s. outer_gutter context.padding ++ border_left_break context.chars ++ s)
        (plain_lanes-refilled (fill m) keeps context lanes))
    fill-row context (SourceRow line) =
        without_slots (stream_of context (SourceRow line))
        (λ k. slot.slots-stream_of k context (SourceRow line))
        (ap₂
        (λ a b. outer_gutter_number context.padding line.number ++ border_left context.chars ++ a
        ++ space ++ b)
        (source_lanes-refilled (fill m) keeps context (leading_of line) line.lanes)
        (colored_text-refilled (fill m) keeps context line))
    fill-row context (CaretRow line) =
        join _ _ (join _ _ (opened context line)
        (without_slots (carets context line.labels (line_metrics_to_end context line))
        (λ k. slot_part.slots-carets k context line.labels (line_metrics_to_end context line))
        (carets-refilled (fill m) keeps context line.labels (line_metrics_to_end context line))))
        (trailing_label-message-refilled context.severity (trailing_label line.labels)
        ∙ ap (trailing_message context.severity)
        (sym (trailing_label-refilled (fill m) keeps line.labels)))
    fill-row context (PointerRow line) =
        join _ _ (opened context line)
        (without_slots (pointers context line.labels (line_metrics context line))
        (λ k. slot_part.slots-pointers k context line.labels (line_metrics context line))
        (pointers-refilled (fill m) keeps context line.labels (line_metrics context line)))
    fill-row context (HangingRow line x) =
        join _ _ (join _ _ (opened context line)
        (without_slots
        (pointers context line.labels (metrics_before x.start (line_metrics context line)))
        (λ k. slot_part.slots-pointers k context line.labels
        (metrics_before x.start (line_metrics context line)))
        (pointers-refilled (fill m) keeps context line.labels
        (metrics_before x.start (line_metrics context line)))))
        (message-refilled context.severity x.style x.message)
    fill-row context (UnderlineRow line a) =
        join _ _ (join _ _ (join _ _ (join _ _ (join _ _
        (without_slots (outer_gutter context.padding)
        (λ k. slot_part.slots-outer_gutter k context.padding)
        refl)
        (without_slots (border_left context.chars)
        (λ k. slot_part.slots-border_left k context.chars)
        refl))
        (without_slots (inner_gutter context (leading_of line) (Underline a) line.lanes)
        (λ k. slot_part.slots-inner_gutter k context (leading_of line) (Underline a) line.lanes)
        (underline_lanes-refilled (fill m) keeps context (leading_of line) a line.lanes)))
        (one-style_mark (Label context.severity a.style)))
        (underline-refilled context.chars a.style (line_metrics context line) a.multi_label))
        (one-style_mark Reset)
    fill-row context (FirstNoteRow note_line) =
        without_slots _ (λ k. slot.slots-stream_of k context (FirstNoteRow note_line)) refl
    fill-row context (LaterNoteRow note_line) =
        without_slots _ (λ k. slot.slots-stream_of k context (LaterNoteRow note_line)) refl
    fill-row context FinalRow = without_slots [] (λ k. slot_part.slots-nil k) refl

    pub fill-rows : (context : RowContext) (rows : List Row)
        → fill m (stream_of_rows context rows)
        ≡ stream_of_rows context (map (refilled_row (fill m)) rows)
    fill-rows context [] = without_slots [] (λ k. slot_part.slots-nil k) refl
    fill-rows context (row ∷ rows) =
        join _ _
        (join _ _ (fill-row context row)
        (without_slots newline (λ k. slot_part.slots-byte_stream k (10 ∷ [])) refl))
        (fill-rows context rows)
