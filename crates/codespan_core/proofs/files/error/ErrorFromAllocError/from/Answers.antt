use Rattle.codespan_core.proofs.Std.{refl}
use Rattle.codespan_core.proofs.files.error.ErrorFromAllocError.from.Goals as goal

-- the error is `OutOfMemory`
pub returns : goal.returns
returns c = refl
