use Rattle.std.proofs.Common.{ap}
use Rattle.examples.proofs.config.front_end.ParseError.diagnostic.Goals as goal

-- the first label is the one on the token
pub returns-in_default : goal.returns-in_default
returns-in_default c =
    rw (
      c.in_ok-error.ensures.labels,
      ap (λ d. d.labels.items) c.in_ok-with_message.ensures.others,
      c.error.ensures.labels,
    )
    (c.primary-label.ensures.style, c.primary-label.ensures.range)
