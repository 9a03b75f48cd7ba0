use Rattle.codespan_core.proofs.Std.{arith, eqb}
use Rattle.std.proofs.Common.{w8}
use Rattle.std.specs.Simd.Lanes.{chunk}
use Rattle.std.proofs.lemmas.Simd.{length-chunk, bitmask_splat}
use Rattle.codespan_core.proofs.files.newline.block_mask.Goals as goal

-- the comparison with newlines has that mask
pub returns : goal.returns
returns c =
    let bytes = c.args.bytes.now in
    let from = c.args.from in
    bitmask_splat w8 eqb (chunk from 32 bytes) 32 10 (length-chunk from 32 bytes c.requires)
    (omega arith)
