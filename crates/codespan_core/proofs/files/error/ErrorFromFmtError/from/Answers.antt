use Rattle.codespan_core.proofs.Std.{refl}
use Rattle.codespan_core.proofs.files.error.ErrorFromFmtError.from.Goals as goal

-- the error is `FormatError`
pub returns : goal.returns
returns c = refl
