use Rattle.std.proofs.Common.{◌++◌, ap, ◌∙◌}
use Rattle.codespan_styled.proofs.Glyphs.{next_glyphs}
use Rattle.codespan_styled.proofs.svg.glyph.glyphs.Goals as goal

pub loop-run-preserved : goal.loop-run-preserved
loop-run-preserved c =
    next_glyphs c.args.styles.now c.args.runs.now c.loop-run.run-index c.run-item.result
    c.loop-run.glyphs.items c.extend_from_slice.new.self.items c.loop-run-test.true
    c.run-item.is
    c.loop-run.invariant
    (c.in_ok-extend_from_slice.ensures.items
    ∙ ap (λ more. c.loop-run.glyphs.items ++ more)
    (c.as_slice.ensures.value ∙ c.in_ok-more.ensures))
