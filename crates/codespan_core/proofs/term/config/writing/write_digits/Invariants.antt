use Rattle.codespan_core.proofs.Std.{◌≡◌, ◌≤◌, ◌++◌, length, drop, decimal}
use Rattle.codespan_core.proofs.term.config.writing.write_digits.Given as goal

abbrev pub invariant-loop-rest : goal.invariant-loop-rest
invariant-loop-rest l =
    record {
      in_array : l.start ≤ 20;
      whole : length l.digits ≡ 20;
      written : decimal l.number
          ≡ decimal l.rest ++ drop l.start l.digits;
    }

abbrev pub decreases-loop-rest : goal.decreases-loop-rest
decreases-loop-rest l = l.rest
