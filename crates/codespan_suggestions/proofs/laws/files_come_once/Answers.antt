use Rattle.codespan_suggestions.proofs.FilesOnce.{files-once}
use Rattle.codespan_suggestions.proofs.laws.files_come_once.Goals as goal

pub returns : goal.returns
returns g c = files-once
