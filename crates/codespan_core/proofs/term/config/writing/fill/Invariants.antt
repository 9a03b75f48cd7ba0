use Rattle.codespan_core.proofs.Std.{◌≡◌, ◌*◌, length, take, repeat}
use Rattle.codespan_core.proofs.term.config.writing.fill.Given as goal

abbrev pub invariant-loop-i : goal.invariant-loop-i
invariant-loop-i l =
    record {
      end : l.end ≡ l._i * length l.bytes;
      front : take l.end l.run
          ≡ repeat l._i l.bytes;
    }
