use Rattle.codespan_core.proofs.Std.{◌≡◌, ℕ, List, ◌++◌}
use Rattle.std.specs.Io.KnownBytes.{Appends}
use Rattle.program_io.proofs.output.write_all.Given as goal

-- what is gone from the rest was appended
abbrev pub invariant-loop : goal.invariant-loop
invariant-loop g l =
    (done : List ℕ) × (l.bytes ≡ done ++ l.rest) × Appends (g.W.Write.contents l.fn.writer)
    (g.W.Write.contents l.writer) done
