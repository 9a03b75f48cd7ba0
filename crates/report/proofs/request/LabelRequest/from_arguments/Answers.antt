use Rattle.codespan_core.proofs.Std.{◌≡◌, string_bytes, Some, None, inl, inr, refl, ap}
use Rattle.codespan_core.proofs.Std.{◌∙◌, arith, rules, tests, option_map}
use Rattle.program_io.specs.Names.{display_style_named}
use Rattle.report.proofs.Arguments.{not_five_arguments, five_arguments}
use Rattle.report.specs.Requests.{number_of, label_request_view}
use Rattle.report.proofs.request.LabelRequest.from_arguments.Goals.{in_default-via-then-args-lt5}
use Rattle.report.proofs.request.LabelRequest.from_arguments.Goals.{in_default-via-else-args-lt5+else-args-lt6}
use Rattle.report.proofs.request.LabelRequest.from_arguments.Goals as goal

pub returns-in_default : goal.returns-in_default
returns-in_default c =
    elim c.in_default.branch [
      | in_default-via-then-args-lt5 w ↦ not_five_arguments string_bytes c.args.args.now
          (inl (grind arith))
      | in_default-via-else-args-lt5+else-args-lt6 w ↦ not_five_arguments string_bytes
          c.args.args.now
          (inr (search (rules, tests)))
    ]

pub returns-in_err-parse_display_style : goal.returns-in_err-parse_display_style
returns-in_err-parse_display_style c =
    ap (option_map label_request_view) c.from_residual.ensures
    ∙ five_arguments string_bytes c.args.args.now _ _ _ _ _ c.in-len5.len_at_least
    c.in-len5.len_below
    c.style-item.is c.name-item.is c.start-item.is c.end-item.is c.message-item.is None _ _
    (c.in_err-parse_display_style.ensures ∙ ap display_style_named c.as_str.ensures.value) refl
    refl

pub returns-in_err-parse_number : goal.returns-in_err-parse_number
returns-in_err-parse_number c =
    ap (option_map label_request_view) c.from_residual-in_err-parse_number.ensures
    ∙ five_arguments string_bytes c.args.args.now _ _ _ _ _ c.in-len5.len_at_least
    c.in-len5.len_below
    c.style-item.is c.name-item.is c.start-item.is c.end-item.is c.message-item.is
    (Some c.in_ok-parse_display_style.field-0) None _
    (c.in_ok-parse_display_style.ensures ∙ ap display_style_named c.as_str.ensures.value)
    (c.in_err-parse_number.ensures ∙ ap number_of c.as_str-3.ensures.value) refl

pub returns-in_err-parse_number-2 : goal.returns-in_err-parse_number-2
returns-in_err-parse_number-2 c =
    ap (option_map label_request_view) c.from_residual-in_err-parse_number-2.ensures
    ∙ five_arguments string_bytes c.args.args.now _ _ _ _ _ c.in-len5.len_at_least
    c.in-len5.len_below
    c.style-item.is c.name-item.is c.start-item.is c.end-item.is c.message-item.is
    (Some c.in_ok-parse_display_style.field-0) (Some c.in_ok-parse_number.field-0) None
    (c.in_ok-parse_display_style.ensures ∙ ap display_style_named c.as_str.ensures.value)
    (c.in_ok-parse_number.ensures ∙ ap number_of c.as_str-3.ensures.value)
    (c.in_err-parse_number-2.ensures ∙ ap number_of c.as_str-4.ensures.value)

pub returns : goal.returns
returns c =
    let view : label_request_view
    (record {
      style =
          c.in_ok-parse_display_style.field-0;
      name =
          c.as_str-2.result;
      start =
          c.in_ok-parse_number.field-0;
      end =
          c.in_ok-parse_number-2.field-0;
      message = c.as_str-5.result;
    })
    ≡ record {
      style =
          c.in_ok-parse_display_style.field-0;
      name =
          string_bytes c.name-item.result;
      start =
          c.in_ok-parse_number.field-0;
      end =
          c.in_ok-parse_number-2.field-0;
      message = string_bytes c.message-item.result;
    }
    = rw (c.as_str-2.ensures.value, c.as_str-5.ensures.value) refl in
    ap Some view
    ∙ five_arguments string_bytes c.args.args.now _ _ _ _ _ c.in-len5.len_at_least
    c.in-len5.len_below
    c.style-item.is c.name-item.is c.start-item.is c.end-item.is c.message-item.is
    (Some c.in_ok-parse_display_style.field-0) (Some c.in_ok-parse_number.field-0)
    (Some c.in_ok-parse_number-2.field-0)
    (c.in_ok-parse_display_style.ensures ∙ ap display_style_named c.as_str.ensures.value)
    (c.in_ok-parse_number.ensures ∙ ap number_of c.as_str-3.ensures.value)
    (c.in_ok-parse_number-2.ensures ∙ ap number_of c.as_str-4.ensures.value)
