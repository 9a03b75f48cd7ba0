use Rattle.std.proofs.Common.{◌≡◌, ◌≤◌, ◌*◌, ◌++◌, drop, string_bytes}
use Rattle.codespan_styled.specs.Svg.{first_pen, texts_from}
use Rattle.codespan_styled.proofs.svg.push_texts.Given as goal

abbrev pub invariant-loop-index : goal.invariant-loop-index
invariant-loop-index l = record {
  row : l.pen.position.row ≤ l.index;
  column : l.pen.position.column ≤ 8 * l.index;
  left : string_bytes l.document ++ texts_from l.pen (drop l.index l.glyphs) ≡ string_bytes
      l.initial.document ++ texts_from first_pen l.glyphs;
}
