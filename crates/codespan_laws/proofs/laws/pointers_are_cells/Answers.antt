use Rattle.codespan_output.proofs.Pointers.Texts as pointers
use Rattle.codespan_laws.proofs.laws.pointers_are_cells.Goals as goal

pub returns : goal.returns
returns c = λ context line wide. pointers.pointers_are_cells context line wide
