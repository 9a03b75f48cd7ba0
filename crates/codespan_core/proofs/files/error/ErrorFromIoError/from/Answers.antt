use Rattle.codespan_core.proofs.Std.{refl}
use Rattle.codespan_core.proofs.files.error.ErrorFromIoError.from.Goals as goal

-- the variant is `Io`, with this error
pub returns : goal.returns
returns c = refl
