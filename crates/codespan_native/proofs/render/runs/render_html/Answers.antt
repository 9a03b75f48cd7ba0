use Rattle.std.proofs.Common.{◌∙◌, ap, refl, ℕ, Vec, Global}
use Rattle.codespan_styled.specs.Html.{html_element}
use Rattle.codespan_native.specs.declared.convert.forms.Form.TheVariants.{Html}
use Rattle.codespan_native.proofs.Rendered.{formed_runs}
use Rattle.codespan_native.specs.SourceModel.{native_file_views}
use Rattle.codespan_native.proofs.render.runs.render_html.Goals as goal

pub returns-in-Ok : goal.returns-in-Ok
returns-in-Ok c =
    formed_runs c.args.config.now (native_file_views c.args.files.now) c.args.diagnostic.now
    Html html_element refl c.in_ok-text.ensures
    (ap (λ (v : Vec ℕ Global). v.items) c.into_bytes.ensures.value ∙ c.in-Ok.ensures.element)
