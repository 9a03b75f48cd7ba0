use Rattle.codespan_output.specs.{border_left}
use Rattle.codespan_core.proofs.Chains.{written-then, failed-then, failed-before, failed}
use Rattle.codespan_core.proofs.Chains.{writes-last}
use Rattle.codespan_output.proofs.Outputs.RowEquations.{plain_lanes_are}
use Rattle.codespan_output.proofs.rows.notes.write_snippet_empty.Goals as goal

pub returns-in_err-outer_gutter : goal.returns-in_err-outer_gutter
unfolding border_left
returns-in_err-outer_gutter g c =
    failed _ _ _ _ _ c.from_residual.ensures.1 (failed-before _ (failed-before _
    (failed-before _ c.in_err-outer_gutter.ensures)))

pub returns-in_err-write_glyph : goal.returns-in_err-write_glyph
unfolding border_left
returns-in_err-write_glyph g c =
    failed _ _ _ _ _ c.from_residual-in_err-write_glyph.ensures.1 (failed-before _ (failed-before _
    (failed-then _ c.in_ok-outer_gutter.ensures c.in_err-write_glyph.ensures)))

pub returns-in_err-inner_gutter : goal.returns-in_err-inner_gutter
unfolding border_left
returns-in_err-inner_gutter g c =
    failed _ _ _ _ _ c.from_residual-in_err-inner_gutter.ensures.1 (failed-before _ (failed-then _
    (written-then _ _ _ c.in_ok-outer_gutter.ensures c.in_ok-write_glyph.ensures)
    (rw plain_lanes_are at c.in_err-inner_gutter.ensures)))

pub returns : goal.returns
unfolding border_left
returns g c =
    writes-last _ _ _ _ _ (written-then _ _ _ (written-then _ _ _ c.in_ok-outer_gutter.ensures
    c.in_ok-write_glyph.ensures) (rw plain_lanes_are at c.in_ok-inner_gutter.ensures))
    c.put_all.ensures
