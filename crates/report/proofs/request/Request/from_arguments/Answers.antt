use Rattle.codespan_core.proofs.Std.{◌⊎◌, ◌<◌, ◌≤◌, length, string_bytes, Some}
use Rattle.codespan_core.proofs.Std.{None, inl, inr, ap, sym, ◌∙◌, arith, rules, tests}
use Rattle.codespan_core.proofs.Std.{option_map}
use Rattle.report.proofs.Arguments.{other_arguments, two_arguments}
use Rattle.report.specs.Requests.{request_view, script_output_named}
use Rattle.report.specs.Requests.RequestView.{OneLabel, OfScript}
use Rattle.report.proofs.request.Request.from_arguments.Goals.{in_default-via-then-args-lt2}
use Rattle.report.proofs.request.Request.from_arguments.Goals.{in_default-via-else-args-lt2+else-args-lt3}
use Rattle.report.proofs.request.Request.from_arguments.Goals as goal

pub returns-in_err-parse_script_output-in-len2 : goal.returns-in_err-parse_script_output-in-len2
returns-in_err-parse_script_output-in-len2 c =
    ap (option_map request_view) c.from_residual.ensures
    ∙ two_arguments string_bytes c.args.args.now _ c.name-item.result c.in-len2.len_at_least
    c.in-len2.len_below c.output-item.is c.name-item.is None
    (c.in_err-parse_script_output-in-len2.ensures ∙ ap script_output_named c.as_str.ensures.value)

pub returns-in_err-from_arguments-in_default : goal.returns-in_err-from_arguments-in_default
returns-in_err-from_arguments-in_default c =
    let count : (length c.args.args.now < 2) ⊎ (3 ≤ length c.args.args.now) =
    elim c.in_default.branch [
      | in_default-via-then-args-lt2 w ↦ inl (grind arith)
      | in_default-via-else-args-lt2+else-args-lt3 w ↦ inr (search (rules, tests))
    ] in
    ap (option_map request_view) c.from_residual-in_err-from_arguments-in_default.ensures
    ∙ ap (option_map OneLabel) c.in_err-from_arguments-in_default.ensures
    ∙ sym (other_arguments string_bytes c.args.args.now count)

pub returns-in_ok-parse_script_output-in-len2 : goal.returns-in_ok-parse_script_output-in-len2
returns-in_ok-parse_script_output-in-len2 c =
    ap (λ name. Some (OfScript c.in_ok-parse_script_output-in-len2.field-0 name))
    c.as_str-in-len2.ensures.value
    ∙ two_arguments string_bytes c.args.args.now _ c.name-item.result c.in-len2.len_at_least
    c.in-len2.len_below c.output-item.is c.name-item.is
    (Some c.in_ok-parse_script_output-in-len2.field-0)
    (c.in_ok-parse_script_output-in-len2.ensures
    ∙ ap script_output_named c.as_str.ensures.value)

pub returns-in_ok-from_arguments-in_default : goal.returns-in_ok-from_arguments-in_default
returns-in_ok-from_arguments-in_default c =
    let count : (length c.args.args.now < 2) ⊎ (3 ≤ length c.args.args.now) =
    elim c.in_default.branch [
      | in_default-via-then-args-lt2 w ↦ inl (grind arith)
      | in_default-via-else-args-lt2+else-args-lt3 w ↦ inr (search (rules, tests))
    ] in
    ap (option_map OneLabel) c.in_ok-from_arguments-in_default.ensures
    ∙ sym (other_arguments string_bytes c.args.args.now count)
