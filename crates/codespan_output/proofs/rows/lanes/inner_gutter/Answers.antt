use Rattle.codespan_core.proofs.Std.{refl, sym, ap, ◌∙◌, arith}
use Rattle.codespan_core.specs.WriterLaw.{with_written}
use Rattle.codespan_core.proofs.Writes.{with_written-nil}
use Rattle.codespan_output.proofs.Lanes.Cursor.{cursor-end, cursor-lanes}
use Rattle.codespan_output.proofs.rows.lanes.inner_gutter.Goals as goal

pub returns-then-lanes-eq0 : goal.returns-then-lanes-eq0
returns-then-lanes-eq0 g c =
    let s = g.W.PutStyle.sink c.args.w.now in
    let none = sym
    (cursor-end _ _ _ 0 c.args.lanes.count _
    (let zero = c.if-lanes-eq0.true in omega (arith, zero)))
    ∙ cursor-lanes _ _ _ c.args.lanes.count c.args.lanes.lane_marks.now c.args.lanes.in_order in
    (refl, λ known. sym (with_written-nil s) ∙ ap (with_written s) none)
