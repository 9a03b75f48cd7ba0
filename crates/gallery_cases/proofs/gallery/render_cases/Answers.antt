use Rattle.std.proofs.Common.{◌∙◌, ◌++◌, ap, arith}
use Rattle.gallery_cases.proofs.CaseByCase.{next_case}
use Rattle.gallery_cases.proofs.gallery.render_cases.Goals as goal

pub loop-case-preserved : goal.loop-case-preserved
loop-case-preserved c =
    let section = c.in_ok-add_output.ensures in
    next_case c.args.cases.now c.loop-case.case-index c.case-item.result c.loop-case.gallery.items
    section.0 c.add_output.new.gallery.items (omega arith) c.case-item.is
    c.loop-case.invariant section.2
    (section.1 ∙ ap (λ front. front ++ section.0) c.in_ok-add_heading.ensures)
