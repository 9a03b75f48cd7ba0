use Rattle.codespan_styled.proofs.StyleSheets.{rule-written}
use Rattle.codespan_styled.proofs.style_sheet.push_rule.Goals as goal

pub returns : goal.returns
returns c =
    rule-written c.args.styles.now c.args.style c.color_spec_of_style.result _ _ _ _ _ _ _
    c.in_ok-push_str.ensures.bytes c.style_class.ensures c.in_ok-push_str-2.ensures.bytes
    c.in_ok-push_str-3.ensures.bytes
    c.color_spec_of_style.ensures c.in_ok-push_declarations.ensures c.in_ok-push_str-4.ensures.bytes
