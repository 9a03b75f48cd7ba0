use Rattle.std.proofs.Common.{◌≤◌, sym, arith}
use Rattle.codespan_styled.proofs.Glyphs.{joined_bound, joined_more}
use Rattle.codespan_styled.proofs.svg.glyph.joined_cells.Goals as goal

-- the glyph belongs to the text, and occupies at most one cell
pub loop-glyph-preserved : goal.loop-glyph-preserved
loop-glyph-preserved c =
    let few : c.cells.result ≤ 1 =
    joined_bound c.loop-glyph.last _ c.cells.result (sym c.if-not-joins.ensures)
    c.cells.ensures.value in
    record {
      left =
          joined_more c.args.others.now c.loop-glyph.glyph-index _ c.loop-glyph-test.true
          c.loop-glyph.last c.loop-glyph.cells c.cells.result _ (sym c.if-not-joins.ensures)
          c.cells.ensures.value c.loop-glyph.invariant.left;
      bound = omega (arith, few, c.loop-glyph.invariant.bound);
    }
