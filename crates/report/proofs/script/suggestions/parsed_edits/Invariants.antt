use Rattle.codespan_core.proofs.Std.{◌≡◌, map, take}
use Rattle.codespan_edits.specs.Edits.{text_edits}
use Rattle.report.specs.ScriptLines.{script_line_view}
use Rattle.report.specs.Suggestions.{parsed_edit}
use Rattle.report.proofs.script.suggestions.parsed_edits.Given as goal

abbrev pub invariant-loop-line : goal.invariant-loop-line
invariant-loop-line l =
    text_edits l.edits.items
    ≡ map parsed_edit (map script_line_view (take l.line-index l.lines))
