use Rattle.codespan_core.proofs.Std.{◌≡◌, ◌≤◌, ◌+◌, ◌-◌, ◌++◌, map, drop}
use Rattle.codespan_core.proofs.Std.{length, IfSome, option_map, option_map_or}
use Rattle.report.specs.ScriptLines.{body, script_line_view, lines_left, script_lines}
use Rattle.report.specs.ScriptLines.{script_source}
use Rattle.report.proofs.script.lines.split_script.Given as goal

abbrev pub invariant-lines : goal.invariant-lines
invariant-lines l = record {
  within : IfSome l.rest (λ left. length left.now ≤ length l.input);
  end : IfSome l.rest (λ left. left.now ≡ drop (length l.input - length left.now) l.input);
  read : map script_line_view l.lines.items ++ body
      (lines_left (length l.input) (option_map (λ left. left.now) l.rest))
      ≡ body (script_lines l.input);
  source : script_source l.input
      (lines_left (length l.input) (option_map (λ left. left.now) l.rest))
      ≡ script_source l.input (script_lines l.input);
}

abbrev pub decreases-lines : goal.decreases-lines
decreases-lines l = option_map_or (λ left. length left.now + 1) l.rest 0
