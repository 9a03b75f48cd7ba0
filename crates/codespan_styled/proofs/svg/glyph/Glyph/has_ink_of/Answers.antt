use Rattle.std.proofs.Common.{rules}
use Rattle.codespan_styled.proofs.svg.glyph.Glyph.has_ink_of.Goals as goal

pub returns : goal.returns
returns c = search (rules, c.eq.ensures)
