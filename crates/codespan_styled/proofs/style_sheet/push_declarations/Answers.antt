use Rattle.codespan_styled.proofs.StyleSheets.{declarations-written}
use Rattle.codespan_styled.proofs.style_sheet.push_declarations.Goals as goal

pub returns : goal.returns
returns c =
    declarations-written c.args.spec _ _ _ _ c.in_ok-push_color.ensures c.in_ok-push_color-2.ensures
    c.in_ok-push_weight.ensures
