use Rattle.codespan_styled.proofs.html.push_span_end.Goals as goal

pub returns : goal.returns
returns c = c.in_ok-push_str.ensures.bytes
