use Rattle.codespan_styled.proofs.StyleSheets.{rule-end}
use Rattle.codespan_styled.proofs.style_sheet.push_rules.Goals as goal

pub returns : goal.returns
returns c =
    rule-end c.args.styles.now c.args.classed.now c.loop-style.style-index _ _
    c.loop-style-test.false c.loop-style.invariant
