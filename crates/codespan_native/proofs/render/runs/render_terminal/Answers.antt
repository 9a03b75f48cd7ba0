use Rattle.std.proofs.Common.{◌∙◌, ap, refl, ℕ, Vec, Global}
use Rattle.codespan_styled.specs.Terminal.{terminal_text}
use Rattle.codespan_native.specs.declared.convert.forms.Form.TheVariants.{Terminal}
use Rattle.codespan_native.proofs.Rendered.{formed_runs}
use Rattle.codespan_native.specs.SourceModel.{native_file_views}
use Rattle.codespan_native.proofs.render.runs.render_terminal.Goals as goal

pub returns : goal.returns
returns c =
    formed_runs c.args.config.now (native_file_views c.args.files.now) c.args.diagnostic.now
    (Terminal c.args.styles.now) (terminal_text c.args.styles.now) refl c.in_ok-text.ensures
    (ap (λ (v : Vec ℕ Global). v.items) c.into_bytes.ensures.value
    ∙ c.in_ok-to_terminal.ensures.runs)
