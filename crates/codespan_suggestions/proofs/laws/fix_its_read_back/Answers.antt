use Rattle.codespan_suggestions.proofs.ReadBack.{fix-its-read-back}
use Rattle.codespan_suggestions.proofs.laws.fix_its_read_back.Goals as goal

pub returns : goal.returns
returns c = fix-its-read-back
