use Rattle.codespan_laws.proofs.CharacterLemmas as characters
use Rattle.codespan_laws.proofs.laws.chars_change_no_row_length.Goals as goal

pub returns : goal.returns
returns c = characters.chars_change_no_row_length
