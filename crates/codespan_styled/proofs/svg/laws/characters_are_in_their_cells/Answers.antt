use Rattle.codespan_styled.specs.Glyphs.{glyphs_of}
use Rattle.codespan_styled.proofs.SvgCells.{cells_of_pieces}
use Rattle.codespan_styled.proofs.svg.laws.characters_are_in_their_cells.Goals as goal

pub returns : goal.returns
returns c = λ styles runs. cells_of_pieces (glyphs_of styles runs)
