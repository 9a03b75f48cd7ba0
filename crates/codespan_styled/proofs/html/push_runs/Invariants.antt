use Rattle.std.proofs.Common.{◌≡◌, ◌++◌, drop, map, string_bytes}
use Rattle.std.specs.List.{flat_map}
use Rattle.codespan_styled.specs.Html.{html_run}
use Rattle.codespan_styled.specs.Runs.{run_view}
use Rattle.codespan_styled.proofs.html.push_runs.Given as goal

abbrev pub invariant-loop-run : goal.invariant-loop-run
invariant-loop-run l =
    string_bytes l.html ++ flat_map html_run (map run_view (drop l.run-index l.runs))
    ≡ string_bytes l.initial.html ++ flat_map html_run (map run_view l.runs)
