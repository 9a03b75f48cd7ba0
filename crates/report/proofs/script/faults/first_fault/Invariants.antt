use Rattle.codespan_core.proofs.Std.{◌≡◌, ◌≤◌, [], map, drop, take, length}
use Rattle.report.specs.ScriptFaults.{fault_from}
use Rattle.report.specs.ScriptLines.{script_line_view}
use Rattle.report.proofs.script.faults.first_fault.Given as goal

abbrev pub invariant-loop-i : goal.invariant-loop-i
invariant-loop-i l = record {
  within : l.i ≤ length l.lines;
  left : fault_from (map script_line_view (take l.i l.lines))
      (map script_line_view (drop l.i l.lines)) ≡ fault_from [] (map script_line_view l.lines);
}
