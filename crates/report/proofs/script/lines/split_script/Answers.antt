use Rattle.codespan_core.proofs.Std.{◌≡◌, ◌-◌, ◌++◌, ap, drop, length, map, sym}
use Rattle.codespan_core.proofs.Std.{◌∙◌, arith, slice_split}
use Rattle.report.specs.ScriptLines.{body, is_newline, script_line_view, script_lines_from}
use Rattle.report.specs.ScriptLines.{script_lines, script_source}
use Rattle.report.proofs.script.lines.split_script.Goals as goal

pub lines-init : goal.lines-init
unfolding script_lines
lines-init c =
    let input = c.args.input.now in
    let pieces = slice_split is_newline input in
    let none : length input - length input ≡ 0 = omega arith in
    record {
      within = omega arith;
      end = sym (ap (λ n. drop n input) none);
      read =
          ap
          (λ contents. map script_line_view contents
          ++ body (script_lines_from (length input - length input) pieces))
          c.new-lines.ensures.items
          ∙ ap (λ n. body (script_lines_from n pieces)) none;
      source = ap (λ n. script_source input (script_lines_from n pieces)) none;
    }
