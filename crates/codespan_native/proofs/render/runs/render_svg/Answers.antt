use Rattle.std.proofs.Common.{◌∙◌, ap, refl, ℕ, List, Vec, Global}
use Rattle.codespan_styled.specs.Glyphs.{glyphs_of}
use Rattle.codespan_styled.specs.Runs.{RunView}
use Rattle.codespan_styled.specs.Svg.{svg_document}
use Rattle.codespan_native.specs.declared.convert.forms.Form.TheVariants.{Svg}
use Rattle.codespan_native.proofs.Rendered.{formed_runs}
use Rattle.codespan_native.specs.SourceModel.{native_file_views}
use Rattle.codespan_native.proofs.render.runs.render_svg.Goals as goal

pub returns-in-Ok : goal.returns-in-Ok
returns-in-Ok c =
    let styles = c.args.styles.now in
    formed_runs c.args.config.now (native_file_views c.args.files.now) c.args.diagnostic.now
    (Svg styles) (λ (runs : List RunView). svg_document (glyphs_of styles runs)) refl
    c.in_ok-text.ensures
    (ap (λ (v : Vec ℕ Global). v.items) c.into_bytes.ensures.value ∙ c.in-Ok.ensures.document)
