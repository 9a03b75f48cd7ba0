use Rattle.codespan_core.proofs.Std.{◌≡◌, ◌++◌, map, drop}
use Rattle.report.specs.ScriptLines.{script_line_view}
use Rattle.report.specs.Scripts.{script_label_view, parsed_labels}
use Rattle.report.proofs.script.parsed.parsed_labels.Given as goal

abbrev pub invariant-loop-line : goal.invariant-loop-line
invariant-loop-line l =
    map script_label_view l.labels.items
    ++ parsed_labels (map script_line_view (drop l.line-index l.lines))
    ≡ parsed_labels (map script_line_view l.lines)
