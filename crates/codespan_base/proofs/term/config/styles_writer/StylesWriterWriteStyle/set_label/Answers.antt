use Rattle.codespan_core.specs.declared.term.config.style_mark.StyleMark.TheVariants.{Label}
use Rattle.codespan_core.proofs.StyleMarks.{Writes-style_mark}
use Rattle.codespan_base.proofs.term.config.styles_writer.StylesWriterWriteStyle.set_label.Goals as goal

pub returns : goal.returns
returns g c =
    Writes-style_mark _ (Label c.args.severity c.args.label_style) _ _
    (rw c.label.ensures at c.set_color.ensures)
