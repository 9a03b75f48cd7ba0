use Rattle.report.proofs.Rendered.{restyled}
use Rattle.report.proofs.rendering.config_with.Goals as goal

pub returns : goal.returns
returns c =
    restyled c.default.result c.args.settings.style c.args.settings.max_width
    c.default.ensures.equal
