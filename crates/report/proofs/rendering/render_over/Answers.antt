use Rattle.codespan_core.proofs.Std.{ap, Bor, List, ℕ, string_bytes}
use Rattle.codespan_core.specs.SimpleFileViews.{name_of, source_of}
use Rattle.report.proofs.Rendered.{rendered_result}
use Rattle.report.proofs.rendering.render_over.Goals as goal

pub returns : goal.returns
returns c =
    rendered_result c.args.diagnostic.now c.args.settings.style c.args.settings.max_width
    string_bytes (name_of c.in_ok-file.file).now
    (source_of c.in_ok-file.file).now c.config_with.result _
    c.emit_into_string.result c.config_with.ensures c.emit_into_string.ensures.ok c.args.name.now
    c.args.source.now
    (ap (λ (text : Bor (List ℕ)). text.now) c.in_ok-file.ensures.name)
    (ap (λ (text : Bor (List ℕ)). text.now) c.in_ok-file.ensures.source)
