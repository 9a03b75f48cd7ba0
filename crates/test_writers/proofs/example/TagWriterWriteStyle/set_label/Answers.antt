use Rattle.codespan_base.specs.declared.diagnostic.LabelStyle.TheVariants.{Secondary}
use Rattle.codespan_base.specs.declared.term.config.style_mark.StyleMark.TheVariants.{Label}
use Rattle.codespan_base.proofs.StyleMarks.{Writes-style_mark}
use Rattle.test_writers.proofs.example.TagWriterWriteStyle.set_label.Goals as goal

pub returns-in-Secondary : goal.returns-in-Secondary
returns-in-Secondary g c =
    rw c.in-Secondary.is
    (Writes-style_mark _ (Label c.args._severity Secondary) _ _
    c.write_tag-in-Secondary.ensures)
