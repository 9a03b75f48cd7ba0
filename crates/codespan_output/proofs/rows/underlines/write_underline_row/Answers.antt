use Rattle.codespan_output.specs.{border_left, char_metrics, multi_label_view}
use Rattle.codespan_core.proofs.Chains.{written-then, failed-then, failed-before, failed}
use Rattle.codespan_core.proofs.Chains.{writes-last}
use Rattle.codespan_output.proofs.Lanes.UnderlineRows.{underline_lanes_are, underline-runs}
use Rattle.codespan_output.proofs.rows.underlines.write_underline_row.Goals as goal

pub returns-in_err-outer_gutter : goal.returns-in_err-outer_gutter
unfolding border_left
returns-in_err-outer_gutter g c =
    failed _ _ _ _ _ c.from_residual.ensures.1 (failed-before _ (failed-before _ (failed-before _
    (failed-before _ (failed-before _ (failed-before _ c.in_err-outer_gutter.ensures))))))

pub returns-in_err-write_glyph : goal.returns-in_err-write_glyph
unfolding border_left
returns-in_err-write_glyph g c =
    failed _ _ _ _ _ c.from_residual-in_err-write_glyph.ensures.1 (failed-before _ (failed-before _
    (failed-before _ (failed-before _ (failed-before _ (failed-then _ c.in_ok-outer_gutter.ensures
    c.in_err-write_glyph.ensures))))))

pub returns-in_err-inner_gutter : goal.returns-in_err-inner_gutter
unfolding border_left
returns-in_err-inner_gutter g c =
    failed _ _ _ _ _ c.from_residual-in_err-inner_gutter.ensures.1 (failed-before _ (failed-before _
    (failed-before _ (failed-before _ (failed-then _ (written-then _ _ _
    c.in_ok-outer_gutter.ensures c.in_ok-write_glyph.ensures) (rw
    (underline_lanes_are, c.args.line.measured) at c.in_err-inner_gutter.ensures))))))

pub returns-in_err-put_mark : goal.returns-in_err-put_mark
unfolding border_left
returns-in_err-put_mark g c =
    failed _ _ _ _ _ c.from_residual-in_err-put_mark.ensures.1 (failed-before _ (failed-before _
    (failed-before _ (failed-then _ (written-then _ _ _ (written-then _ _ _
    c.in_ok-outer_gutter.ensures c.in_ok-write_glyph.ensures) (rw
    (underline_lanes_are, c.args.line.measured) at c.in_ok-inner_gutter.ensures))
    c.in_err-put_mark.ensures))))

pub returns-in_err-label_multi_caret : goal.returns-in_err-label_multi_caret
unfolding border_left
returns-in_err-label_multi_caret g c =
    rw (underline-runs c.args.context.chars.now c.args.lane_mark.1 c.args.width
    (char_metrics c.args.context.tab_width c.args.line.text.now)
    (multi_label_view c.args.lane_mark.2) c.requires) (failed _ _ _ _ _
    c.from_residual-in_err-label_multi_caret.ensures.1 (failed-before _ (failed-before _
    (failed-then _ (written-then _ _ _ (written-then _ _ _ (written-then _ _ _
    c.in_ok-outer_gutter.ensures c.in_ok-write_glyph.ensures) (rw
    (underline_lanes_are, c.args.line.measured) at c.in_ok-inner_gutter.ensures))
    c.in_ok-put_mark.ensures) c.in_err-label_multi_caret.ensures))))

pub returns-in_err-put_mark-2 : goal.returns-in_err-put_mark-2
unfolding border_left
returns-in_err-put_mark-2 g c =
    rw (underline-runs c.args.context.chars.now c.args.lane_mark.1 c.args.width
    (char_metrics c.args.context.tab_width c.args.line.text.now)
    (multi_label_view c.args.lane_mark.2) c.requires) (failed _ _ _ _ _
    c.from_residual-in_err-put_mark-2.ensures.1 (failed-before _ (failed-then _ (written-then _ _ _
    (written-then _ _ _ (written-then _ _ _ (written-then _ _ _ c.in_ok-outer_gutter.ensures
    c.in_ok-write_glyph.ensures) (rw (underline_lanes_are, c.args.line.measured) at
    c.in_ok-inner_gutter.ensures)) c.in_ok-put_mark.ensures) c.in_ok-label_multi_caret.ensures)
    c.in_err-put_mark-2.ensures)))

pub returns : goal.returns
unfolding border_left
returns g c =
    rw (underline-runs c.args.context.chars.now c.args.lane_mark.1 c.args.width
    (char_metrics c.args.context.tab_width c.args.line.text.now)
    (multi_label_view c.args.lane_mark.2) c.requires) (writes-last _ _ _ _ _ (written-then _ _ _
    (written-then _ _ _ (written-then _ _ _ (written-then _ _ _
    (written-then _ _ _ c.in_ok-outer_gutter.ensures c.in_ok-write_glyph.ensures) (rw
    (underline_lanes_are, c.args.line.measured) at c.in_ok-inner_gutter.ensures))
    c.in_ok-put_mark.ensures) c.in_ok-label_multi_caret.ensures) c.in_ok-put_mark-2.ensures)
    c.put_all.ensures)
