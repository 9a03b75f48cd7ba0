use Rattle.std.proofs.Common.{arith}
use Rattle.codespan_styled.proofs.Glyphs.{next_texts}
use Rattle.codespan_styled.proofs.svg.push_texts.Goals as goal

pub loop-index-preserved : goal.loop-index-preserved
loop-index-preserved c = record {
  row = omega arith;
  column = omega arith;
  left =
      next_texts c.args.glyphs.now c.loop-index.index _ c.loop-index-test.true c.loop-index.pen
      c.after.result _ _ _ c.after.ensures.position c.in_ok-push_glyph.ensures
      c.loop-index.invariant.left;
}
