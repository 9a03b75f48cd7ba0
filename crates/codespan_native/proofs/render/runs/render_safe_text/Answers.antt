use Rattle.std.proofs.Common.{◌∙◌, ap, ℕ, Vec, Global}
use Rattle.codespan_styled.specs.SafeText.{safe_text}
use Rattle.codespan_native.proofs.Rendered.{text_is_output, text_output}
use Rattle.codespan_native.specs.SourceModel.{native_file_views}
use Rattle.codespan_native.proofs.render.runs.render_safe_text.Goals as goal

-- the text is that of the output
pub returns-in_ok-safe_text-in-Ok : goal.returns-in_ok-safe_text-in-Ok
returns-in_ok-safe_text-in-Ok c =
    let config = c.args.config.now in
    let files = native_file_views c.args.files.now in
    let rendered = c.in-Ok.ensures.ok in
    record {
      value =
          ap (λ (v : Vec ℕ Global). v.items) c.into_bytes.ensures.value
          ∙ c.in_ok-safe_text-in-Ok.ensures
          ∙ ap safe_text (c.as_str.ensures.value
          ∙ text_is_output config files c.args.diagnostic.now rendered);
      is_output = text_output config files c.args.diagnostic.now rendered;
    }
