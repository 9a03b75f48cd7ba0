use Rattle.codespan_core.specs.declared.term.config.style_mark.StyleMark.TheVariants.{Header}
use Rattle.codespan_core.proofs.StyleMarks.{Writes-style_mark}
use Rattle.codespan_base.proofs.term.config.styles_writer.StylesWriterWriteStyle.set_header.Goals as goal

pub returns : goal.returns
returns g c =
    Writes-style_mark _ (Header c.args.severity) _ _ (rw c.header.ensures at c.set_color.ensures)
