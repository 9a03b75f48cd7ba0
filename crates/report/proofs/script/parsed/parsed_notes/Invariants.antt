use Rattle.codespan_core.proofs.Std.{◌≡◌, ◌++◌, map, drop}
use Rattle.report.specs.ScriptLines.{script_line_view}
use Rattle.report.specs.Scripts.{parsed_notes}
use Rattle.report.proofs.script.parsed.parsed_notes.Given as goal

abbrev pub invariant-loop-line : goal.invariant-loop-line
invariant-loop-line l =
    map (λ note. note.now) l.notes.items
    ++ parsed_notes (map script_line_view (drop l.line-index l.lines))
    ≡ parsed_notes (map script_line_view l.lines)
