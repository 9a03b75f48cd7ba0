use Rattle.std.proofs.Common.{append_assoc}
use Rattle.codespan_styled.proofs.svg.push_tag.Goals as goal

pub returns : goal.returns
returns c =
    rw (
      c.in_ok-push_str-2.ensures.bytes,
      c.in_ok-push_weight.ensures,
      c.in_ok-push_color.ensures,
      c.in_ok-push_str.ensures.bytes,
      c.as_str.ensures.value,
      c.in_ok-tag.ensures.ok,
    )
    (simp append_assoc)
