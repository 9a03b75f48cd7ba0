use Rattle.codespan_core.proofs.Std.{◌+◌, ◌-◌, arith, refl}
use Rattle.codespan_fitting.proofs.TextCells.{printable-more}
use Rattle.codespan_fitting.proofs.measure.plain_len.Goals as goal

pub loop-len-preserved : goal.loop-len-preserved
loop-len-preserved c =
    let i = c.loop-len.invariant in
    let block = c.if-is_plain.ensures refl in
    let within = c.loop-len-test.true in
    record {
      within = omega (arith, within);
      most = omega (arith, c.if-most-len-ge-BLOCK.true);
      printable = λ k h.
          printable-more c.args.bytes.now c.loop-len.len (c.loop-len.len + 16 - c.loop-len.len)
          i.printable block (omega (arith, within)) k (omega (arith, h));
    }
