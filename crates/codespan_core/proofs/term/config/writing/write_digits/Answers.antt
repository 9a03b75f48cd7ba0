use Rattle.codespan_core.proofs.Std.{arith, ◌-◌, ◌+◌, ◌%◌}
use Rattle.std.proofs.Common.{length-set}
use Rattle.codespan_core.proofs.Repeats.{digits_room, digits-more, digits-last}
use Rattle.codespan_core.proofs.term.config.writing.write_digits.Goals as goal

pub overflow_sub-start : goal.overflow_sub-start
overflow_sub-start c = let i = c.loop-rest.invariant in
    digits_room _ _ _ _ (omega arith) (omega arith) i.whole i.in_array i.written

pub loop-rest-preserved : goal.loop-rest-preserved
loop-rest-preserved c = let i = c.loop-rest.invariant in record {
  in_array = omega arith;
  whole =
      omega
      (arith, length-set c.loop-rest.digits (c.loop-rest.start - 1) (48 + c.loop-rest.rest % 10));
  written =
      digits-more _ _ _ _ (omega arith) (omega arith) i.whole i.in_array c.loop-rest-test.true
      i.written;
}

pub overflow_sub-start-2 : goal.overflow_sub-start-2
overflow_sub-start-2 c = let i = c.loop-rest.invariant in
    digits_room _ _ _ _ (omega arith) (omega arith) i.whole i.in_array i.written

pub returns-clause-value : goal.returns-clause-value
returns-clause-value c = let i = c.loop-rest.invariant in
    digits-last _ _ _ _ (omega arith) i.whole i.in_array (omega arith) i.written
