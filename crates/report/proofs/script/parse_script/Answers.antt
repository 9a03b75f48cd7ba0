use Rattle.codespan_core.proofs.Std.{[], Err, ap, err_from_is_err_and, map, option_map}
use Rattle.codespan_core.proofs.Std.{rules, subst, ◌∙◌, ◌≡◌}
use Rattle.report.specs.ScriptFaults.{fault_from}
use Rattle.report.specs.ScriptLines.{script_line_view, script_lines, script_source}
use Rattle.report.specs.Scripts.{parsed_script}
use Rattle.report.specs.Suggestions.{IsFaultOrMemory, suggestions_fault}
use Rattle.report.proofs.AppliedSources.{suggestion_error}
use Rattle.report.proofs.script.parse_script.Goals as goal

pub returns-in-Some : goal.returns-in-Some
unfolding parsed_script
returns-in-Some c = search rules

pub returns-in_default-source : goal.returns-in_default-source
unfolding parsed_script
returns-in_default-source c = search rules

pub returns : goal.returns
unfolding parsed_script
returns c = search rules

-- an edit of the source cannot be made
pub returns-in_err-parsed_suggestions : goal.returns-in_err-parsed_suggestions
returns-in_err-parsed_suggestions c =
    let p = err_from_is_err_and c.from_residual-in_err-parsed_suggestions.result
    c.from_residual-in_err-parsed_suggestions.ensures.1 in
    let lines = c.in_ok-lines.lines.items in
    rw (p.1 ∙ ap Err p.2)
    (suggestion_error c.args.input.now (map script_line_view lines) c.in-Some-source.source.now
    c.in_err-parsed_suggestions.field-0.0 c.in_ok-lines.ensures.body
    (c.in_default.ensures
    ∙ ap (λ ls. fault_from [] (map script_line_view ls)) c.as_slice.ensures.value)
    (subst
    (λ o. option_map (λ source. source.now) o
    ≡ script_source c.args.input.now (script_lines c.args.input.now))
    c.in-Some-source.is c.in_ok-lines.ensures.source)
    (subst (λ ls. IsFaultOrMemory
    (suggestions_fault c.in-Some-source.source.now (map script_line_view ls))
    c.in_err-parsed_suggestions.field-0.0)
    c.as_slice-8.ensures.value c.in_err-parsed_suggestions.ensures.failed))
