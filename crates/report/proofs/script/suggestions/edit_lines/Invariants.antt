use Rattle.codespan_core.proofs.Std.{◌≡◌, ◌++◌, map, drop}
use Rattle.report.specs.ScriptLines.{script_line_view}
use Rattle.report.specs.Suggestions.{edit_lines}
use Rattle.report.proofs.script.suggestions.edit_lines.Given as goal

abbrev pub invariant-loop-line : goal.invariant-loop-line
invariant-loop-line l =
    map script_line_view l.found.items
    ++ edit_lines (map script_line_view (drop l.line-index l.lines))
    ≡ edit_lines (map script_line_view l.lines)
