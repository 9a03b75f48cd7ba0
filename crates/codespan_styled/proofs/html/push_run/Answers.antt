use Rattle.std.proofs.Common.{◌≡◌, ◌++◌, false, sym, ap, ◌∙◌, string_bytes}
use Rattle.codespan_styled.specs.Html.{escaped_text, style_class}
use Rattle.codespan_styled.specs.Runs.{is_plain}
use Rattle.codespan_styled.proofs.HtmlWriting.{span-written}
use Rattle.codespan_styled.proofs.html.push_run.Goals as goal

-- a run that is not plain
pub returns : goal.returns
returns c =
    let run = c.args.run.now in
    let styled : is_plain run.style ≡ false = sym c.is_plain.ensures ∙ c.if-is_plain.false in
    let text = c.in_ok-push_text.ensures
    ∙ ap (λ t. string_bytes c.push_span_tag.new.html ++ escaped_text t) c.as_str-2.ensures.value
    in
    rw styled
    (span-written _ _ _ _ (style_class run.style) _ (escaped_text (string_bytes run.text))
    c.style_class.ensures c.in_ok-push_span_tag.ensures text c.in_ok-push_span_end.ensures)
