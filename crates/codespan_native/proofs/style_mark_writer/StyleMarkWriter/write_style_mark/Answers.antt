use Rattle.std.proofs.Common.{sym}
use Rattle.codespan_base.proofs.StyleMarks.{Writes-style_mark}
use Rattle.codespan_native.specs.StyleMarkWriters.{style_mark_sink}
use Rattle.codespan_native.proofs.style_mark_writer.StyleMarkWriter.write_style_mark.Goals as goal

-- the bytes of the style mark are those of its number
pub returns : goal.returns
returns g c =
    let sink = style_mark_sink c.args.self.now.failed (g.W.Write.contents c.args.self.now.inner) in
    Writes-style_mark sink c.args.mark _ _
    (rw (sym c.number.ensures) (c.forward_all.ensures sink.frame))
