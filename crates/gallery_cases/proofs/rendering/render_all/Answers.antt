use Rattle.std.proofs.Common.{◌++◌, ◌∙◌, ap, append_assoc, refl}
use Rattle.gallery_cases.specs.CaseOutputs.{suggestion_texts}
use Rattle.gallery_cases.proofs.OneFile.{done_follows}
use Rattle.gallery_cases.proofs.rendering.render_all.Goals as goal

-- the outputs of the suggestions follow that of the diagnostic
pub returns : goal.returns
returns g c = λ named plain.
    let texts = suggestion_texts c.args.case.now.config (g.F.Files.database c.args.files.now)
    c.args.suggestions.now in
    let first = c.in_ok-render_over.ensures plain in
    done_follows c.add_suggestions.result
    (λ is. (
      first.0 ++ texts,
      is
          ∙ ap (λ bytes. bytes ++ texts) first.1
          ∙ append_assoc c.args.output.now.items first.0 texts,
      record { first = first.0; is_rendered = first.2; is = refl },
    ))
    (c.add_suggestions.ensures named plain)
