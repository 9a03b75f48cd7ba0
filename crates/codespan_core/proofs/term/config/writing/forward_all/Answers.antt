use Rattle.codespan_core.proofs.StyleMarks.{Writes-forwarded}
use Rattle.codespan_core.proofs.term.config.writing.forward_all.Goals as goal

pub returns : goal.returns
returns g c =
    λ f. Writes-forwarded f _ _ _ _ _ _ _ c.write_all.ensures.appends c.forward_result.ensures.same
    c.forward_result.ensures.flag
