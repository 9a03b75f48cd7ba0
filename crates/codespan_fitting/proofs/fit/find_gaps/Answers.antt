use Rattle.codespan_core.proofs.Std.{◌≡◌, ◌+◌, ◌<◌, IfOk, IsPermutation, length, map, subst, sym}
use Rattle.std.specs.Prelude.{MatchOption}
use Rattle.codespan_output.specs.Arguments.{lane_mark_view, single_label_views}
use Rattle.codespan_fitting.specs.Fitting.{label_spans_of, span_views, spans_of}
use Rattle.codespan_fitting.specs.Gaps.{placed_gaps}
use Rattle.codespan_fitting.specs.Parts.{gaps_from, line_parts, needed_cells, text_parts}
use Rattle.codespan_fitting.proofs.LineParts.{text-permuted}
use Rattle.codespan_fitting.proofs.fit.find_gaps.Goals as goal
use Rattle.codespan_fitting.proofs.fit.find_gaps.Goals.{After-refill_gaps}

-- the spans make the parts of the line
parts : (c : After-refill_gaps)
    → text_parts c.args.tab_width c.args.line.text.now (span_views c.as_slice.result.now)
    ≡ line_parts (label_spans_of c.args.label_span) c.args.tab_width c.args.line.text.now
    (single_label_views c.args.line.labels.now) (map lane_mark_view c.args.line.lane_marks.now)
parts c =
    let labels = single_label_views c.args.line.labels.now in
    let marks = map lane_mark_view c.args.line.lane_marks.now in
    let n = length c.args.line.text.now in
    let spans = label_spans_of c.args.label_span in
    let permuted =
    subst (λ lead. IsPermutation (spans_of spans n lead labels marks)
    (span_views c.as_slice.result.now))
    c.leading_whitespace.ensures
    (subst (λ ss. IsPermutation (spans_of spans n c.leading_whitespace.result labels marks)
    (span_views ss))
    (sym c.as_slice.ensures.value) c.in_ok-refill_spans.ensures.spans) in
    sym (text-permuted c.args.tab_width c.args.line.text.now _ _ permuted)

pub returns-clause-gaps : goal.returns-clause-gaps
returns-clause-gaps c =
    subst
    (λ ps. IfOk c.refill_gaps.result (λ _. placed_gaps c.args.tab_width c.args.line.text.now
    c.refill_gaps.new.gaps.items ≡ gaps_from 0 ps))
    (parts c) c.refill_gaps.ensures.gaps

pub returns-clause-rest : goal.returns-clause-rest
returns-clause-rest c =
    subst
    (λ ps. IfOk c.refill_gaps.result (λ rest. MatchOption rest (c.args.left < needed_cells ps)
    (λ rest. rest + needed_cells ps ≡ c.args.left)))
    (parts c) c.refill_gaps.ensures.rest
