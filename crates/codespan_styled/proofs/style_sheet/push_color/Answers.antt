use Rattle.codespan_styled.proofs.StyleSheets.{color-written}
use Rattle.codespan_styled.proofs.style_sheet.push_color.Goals as goal

pub returns : goal.returns
returns c =
    rw c.in-Some.is
    (color-written c.args.property.now c.color_code.result.now _ _ _ _ c.args.intense
    c.in-Some.color c.in_ok-push_str.ensures.bytes c.color_code.ensures
    c.in_ok-push_str-2.ensures.bytes
    c.in_ok-push_str-3.ensures.bytes)
