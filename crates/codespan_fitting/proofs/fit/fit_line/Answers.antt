use Rattle.codespan_core.proofs.Std.{◌≡◌, ◌∙◌, ◌+◌, ◌-◌, List, ap, ap₂, arith, false, map, nat_le}
use Rattle.codespan_core.proofs.Std.{subst, sym}
use Rattle.codespan_output.specs.Arguments.{lane_mark_view, single_label_views}
use Rattle.codespan_output.specs.CharMetrics.{char_metrics, width_of}
use Rattle.codespan_output.specs.FittedLines.{moved_label, moved_mark, shown_text}
use Rattle.codespan_output.specs.FittedParts.{shortened}
use Rattle.codespan_fitting.specs.declared.cut.Cut.{Cut}
use Rattle.codespan_fitting.specs.Cuts.{AreCutsOf}
use Rattle.codespan_fitting.specs.Fitting.{past_end_of, room_of}
use Rattle.codespan_fitting.specs.Lines.{line_view}
use Rattle.codespan_fitting.proofs.LineSteps.{same-line}
use Rattle.codespan_fitting.proofs.fit.fit_line.Goals as goal

pub returns : goal.returns
returns c = λ number context.
    let frame = c.args.frame in
    let line = c.args.line in
    let tab = frame.tab_width in
    let room = room_of frame.width frame.padding frame.num_lanes in
    let past = past_end_of line.text.now (single_label_views line.labels.now) in
    let width = width_of (char_metrics tab line.text.now) in
    let room-is : c.room-room.result ≡ room = c.room-room.ensures in
    let past-is : c.past_end-past_end.result ≡ past = c.past_end-past_end.ensures in
    let fails : nat_le (width + past) room ≡ false =
    ap₂ (λ m n. nat_le (width + m) n) (sym past-is) (sym room-is)
    ∙ sym c.fits.ensures ∙ c.if-fits.false in
    let left : c.saturating_sub-left.result ≡ room - past =
    c.saturating_sub-left.ensures ∙ omega (arith, room-is, past-is) in
    let pieces = shortened (room - past) tab (line_view 0 0 line) in
    let cuts : AreCutsOf pieces c.find_cuts.new.buffers.cuts.items =
    subst
    (λ n. AreCutsOf (shortened n tab (line_view 0 0 line)) c.find_cuts.new.buffers.cuts.items)
    left c.in_ok-find_cuts.ensures.cuts in
    let by : (cs : List Cut) → cs ≡ c.find_cuts.new.buffers.cuts.items → AreCutsOf pieces cs =
    λ cs same. subst (λ (xs : List Cut). AreCutsOf pieces xs) (sym same) cuts in
    let text : c.as_str.result.now ≡ shown_text pieces line.text.now =
    c.as_str.ensures.value
    ∙ c.in_ok-write_text.ensures pieces (by c.as_slice.result.now c.as_slice.ensures.value) in
    let labels : single_label_views c.as_slice-4.result.now
    ≡ map (moved_label pieces) (single_label_views line.labels.now) =
    ap single_label_views c.as_slice-4.ensures.value
    ∙ c.in_ok-move_labels.ensures pieces (by c.as_slice-2.result.now c.as_slice-2.ensures.value)
    in
    let marks : map lane_mark_view c.as_slice-5.result.now
    ≡ map (moved_mark pieces) (map lane_mark_view line.lane_marks.now) =
    ap (map lane_mark_view) c.as_slice-5.ensures.value
    ∙ c.in_ok-move_marks.ensures pieces (by c.as_slice-3.result.now c.as_slice-3.ensures.value)
    in
    (fails, rw fails (same-line number frame.num_lanes _ _ _ _ _ _ text labels marks))
