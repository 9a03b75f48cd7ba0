use Rattle.codespan_core.proofs.Std.{refl}
use Rattle.codespan_core.proofs.files.error.ErrorFromAllocFailed.from.Goals as goal

-- the error is `OutOfMemory`
pub returns : goal.returns
returns g c = refl
