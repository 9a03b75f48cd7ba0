use Rattle.std.proofs.Common.{◌≡◌, ◌≤◌, ◌+◌, drop}
use Rattle.codespan_styled.specs.Glyphs.{joined_cells}
use Rattle.codespan_styled.proofs.svg.glyph.joined_cells.Given as goal

abbrev pub invariant-loop-glyph : goal.invariant-loop-glyph
invariant-loop-glyph l = record {
  left : l.cells + joined_cells l.last (drop l.glyph-index l.others) ≡ joined_cells l.fn.before
      l.others;
  bound : l.cells ≤ l.glyph-index;
}
