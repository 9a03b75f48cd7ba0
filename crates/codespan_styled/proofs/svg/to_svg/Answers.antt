use Rattle.std.proofs.Common.{map, ap, ◌∙◌}
use Rattle.codespan_styled.specs.Glyphs.{glyphs_of}
use Rattle.codespan_styled.specs.HtmlReading.{read_tokens, text_of_tokens}
use Rattle.codespan_styled.specs.Runs.{run_view, styled_runs}
use Rattle.codespan_styled.specs.Svg.{svg_document}
use Rattle.codespan_styled.proofs.SvgReading.{svg-read, shown-svg-text}
use Rattle.codespan_styled.proofs.svg.to_svg.Goals as goal

-- the document is that of the glyphs of all runs
pub returns-clause-document : goal.returns-clause-document
returns-clause-document c =
    c.in_ok-document.ensures
    ∙ ap svg_document
    (c.as_slice-2.ensures.value ∙ c.in_ok-glyphs.ensures
    ∙ ap (λ runs. glyphs_of c.args.styles.now (map run_view runs)) c.as_slice.ensures.value)

pub returns-clause-tokens : goal.returns-clause-tokens
returns-clause-tokens c =
    ap (λ bytes. read_tokens bytes) (returns-clause-document c)
    ∙ svg-read (glyphs_of c.args.styles.now (styled_runs c.args.text.now))

pub returns-clause-text : goal.returns-clause-text
returns-clause-text c =
    ap (λ bytes. text_of_tokens (read_tokens bytes)) (returns-clause-document c)
    ∙ shown-svg-text c.args.styles.now c.args.text.now.runs.items
