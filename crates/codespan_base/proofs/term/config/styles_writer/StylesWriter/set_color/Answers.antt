use Rattle.codespan_core.proofs.Std.{false, []}
use Rattle.codespan_core.proofs.StyleMarks.{Writes-forwarded}
use Rattle.codespan_base.proofs.term.config.styles_writer.StylesWriter.set_color.Goals as goal

pub returns : goal.returns
returns g c =
    Writes-forwarded (record { spelling = _; failed = false; borrows = [] }) _ _ _ _ _ _ _
    c.set_color.ensures c.forward_result.ensures.same c.forward_result.ensures.flag
