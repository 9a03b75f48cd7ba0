use Rattle.std.proofs.Common.{map, ap, ◌∙◌}
use Rattle.codespan_styled.specs.HtmlReading.{open_after, read_tokens, text_of_html}
use Rattle.codespan_styled.specs.Runs.{run_view}
use Rattle.codespan_styled.proofs.HtmlBalance.{element-balanced}
use Rattle.codespan_styled.proofs.HtmlReading.{element-columns, element-read, element-text}
use Rattle.codespan_styled.proofs.HtmlWriting.{element-written}
use Rattle.codespan_styled.proofs.html.to_html.Goals as goal

pub returns-clause-tokens : goal.returns-clause-tokens
returns-clause-tokens c =
    let runs = c.args.text.now.runs.items in
    ap read_tokens
    (element-written runs _ _ _ _ _ c.new-html.ensures.bytes c.in_ok-push_str.ensures.bytes
    c.as_slice.ensures.value c.in_ok-push_runs.ensures c.in_ok-push_str-2.ensures.bytes)
    ∙ element-read (map run_view runs)

pub returns-clause-balanced : goal.returns-clause-balanced
returns-clause-balanced c =
    ap open_after (returns-clause-tokens c)
    ∙ element-balanced (map run_view c.args.text.now.runs.items)

pub returns-clause-text : goal.returns-clause-text
returns-clause-text c =
    let runs = c.args.text.now.runs.items in
    ap text_of_html
    (element-written runs _ _ _ _ _ c.new-html.ensures.bytes c.in_ok-push_str.ensures.bytes
    c.as_slice.ensures.value c.in_ok-push_runs.ensures c.in_ok-push_str-2.ensures.bytes)
    ∙ element-text runs

pub returns-clause-columns : goal.returns-clause-columns
returns-clause-columns c =
    element-columns c.args.text.now.runs.items _ (returns-clause-text c)
