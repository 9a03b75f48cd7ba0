use Rattle.std.proofs.Common.{◌+◌, ◌∙◌, ap, drop, max, arith}
use Rattle.codespan_styled.specs.Glyphs.{extent_from}
use Rattle.codespan_styled.proofs.Glyphs.{next_row, next_columns, all_glyphs}
use Rattle.codespan_styled.proofs.svg.position.extent.Goals as goal

pub loop-glyph-preserved : goal.loop-glyph-preserved
loop-glyph-preserved c =
    let glyphs = c.args.glyphs.now in
    let i = c.loop-glyph.glyph-index in
    let inside = c.loop-glyph-test.true in
    record {
      rows = omega arith;
      reached = omega arith;
      columns = omega arith;
      last_row =
          next_row glyphs i _ inside c.loop-glyph.position c.after-position.result _
          c.after-position.ensures.position c.loop-glyph.invariant.last_row;
      widest =
          ap
          (λ columns. max columns
          (extent_from c.after-position.result (drop (i + 1) glyphs)).column)
          c.greater-columns.ensures
          ∙ next_columns glyphs i _ inside c.loop-glyph.position c.after-position.result
          c.loop-glyph.columns _ c.after-position.ensures.position c.loop-glyph.invariant.reached
          c.loop-glyph.invariant.widest;
    }

pub returns-clause-extent : goal.returns-clause-extent
returns-clause-extent c =
    all_glyphs c.args.glyphs.now c.loop-glyph.glyph-index c.loop-glyph.position c.loop-glyph.columns
    _ c.loop-glyph-test.false c.loop-glyph.invariant.reached
    c.loop-glyph.invariant.last_row c.loop-glyph.invariant.widest
