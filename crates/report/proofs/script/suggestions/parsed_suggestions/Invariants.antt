use Rattle.codespan_core.proofs.Std.{◌≡◌, ◌≤◌, ◌++◌, map, drop, length}
use Rattle.codespan_suggestions.specs.Views.{suggestion_view}
use Rattle.report.specs.ScriptLines.{script_line_view}
use Rattle.report.specs.Suggestions.{parsed_suggestions, suggestions_fault}
use Rattle.report.proofs.script.suggestions.parsed_suggestions.Given as goal

abbrev pub invariant-loop-i : goal.invariant-loop-i
invariant-loop-i l = record {
  within : l.i ≤ length l.lines;
  read : map suggestion_view l.suggestions.items
      ++ parsed_suggestions (map script_line_view (drop l.i l.lines))
      ≡ parsed_suggestions (map script_line_view l.lines);
  fault : suggestions_fault l.source (map script_line_view (drop l.i l.lines))
      ≡ suggestions_fault l.source (map script_line_view l.lines);
}
