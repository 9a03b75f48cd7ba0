use Rattle.codespan_core.proofs.Std.{◌≡◌, map, take}
use Rattle.codespan_core.specs.Diagnostics.{label_view}
use Rattle.report.specs.Scripts.{script_label_view}
use Rattle.report.proofs.diagnostics.labels.Given as goal

abbrev pub invariant-loop-style : goal.invariant-loop-style
invariant-loop-style l =
    map label_view l.labels.items ≡ map script_label_view (take l.style-index l.stated)
