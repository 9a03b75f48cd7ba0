use Rattle.std.proofs.Common.{◌≡◌, ◌≤◌, ◌*◌, drop, max}
use Rattle.codespan_styled.specs.Glyphs.{extent_from, start}
use Rattle.codespan_styled.proofs.svg.position.extent.Given as goal

abbrev pub invariant-loop-glyph : goal.invariant-loop-glyph
invariant-loop-glyph l = record {
  rows : l.position.row ≤ l.glyph-index;
  reached : l.position.column ≤ l.columns;
  columns : l.columns ≤ 8 * l.glyph-index;
  last_row : (extent_from l.position (drop l.glyph-index l.glyphs)).row
      ≡ (extent_from start l.glyphs).row;
  widest : max l.columns
      (extent_from l.position (drop l.glyph-index l.glyphs)).column
      ≡ (extent_from start l.glyphs).column;
}
