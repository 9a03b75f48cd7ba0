use Rattle.std.proofs.Common.{◌≡◌, ◌++◌, drop, map, string_bytes}
use Rattle.codespan_styled.specs.Runs.{run_view}
use Rattle.codespan_styled.specs.Terminal.{runs_bytes}
use Rattle.codespan_styled.proofs.terminal.push_runs.Given as goal

abbrev pub invariant-loop-run : goal.invariant-loop-run
invariant-loop-run l =
    string_bytes l.terminal ++ runs_bytes l.styles (map run_view (drop l.run-index l.runs))
    ≡ string_bytes l.initial.terminal ++ runs_bytes l.styles (map run_view l.runs)
