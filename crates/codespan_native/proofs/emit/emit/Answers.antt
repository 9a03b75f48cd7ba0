use Rattle.std.proofs.Common.{◌∙◌}
use Rattle.codespan_native.proofs.Emitted.{out_of_memory-emits, output-emits}
use Rattle.codespan_native.proofs.emit.emit.Goals as goal

-- the output is copied, if it fits
pub returns-in-Ok : goal.returns-in-Ok
returns-in-Ok c =
    output-emits c.args.files.now c.args.diagnostic.now c.args.config.now
    c.in_default.ensures.none c.as_slice.result.now _ _ _ _
    (c.as_slice.ensures.value ∙ c.in-Ok.ensures.value) c.in-Ok.ensures.means
    c.copy_out-status.ensures.ok c.copy_out-status.ensures.too_small
    c.copy_out-status.ensures.status

-- an allocation fails
pub returns-in-Err : goal.returns-in-Err
returns-in-Err c =
    out_of_memory-emits c.args.files.now c.args.diagnostic.now c.args.config.now
    c.in_default.ensures.none _
