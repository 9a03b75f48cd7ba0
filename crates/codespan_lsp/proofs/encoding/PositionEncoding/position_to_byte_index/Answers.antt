use Rattle.std.proofs.Common.{ap, ◌∙◌, rules}
use Rattle.std.specs.Prelude.{slice_range}
use Rattle.codespan_base.specs.FileModel.{line_start}
use Rattle.codespan_lsp.proofs.CutLemmas.{returned-is-at}
use Rattle.codespan_lsp.proofs.encoding.PositionEncoding.position_to_byte_index.Goals as goal

-- the byte that is returned is at the position
pub returns-clause-value : goal.returns-clause-value
returns-clause-value g c =
    let f = (g.F.Files.database c.args.files.now).file c.args.id in
    let p = c.args.position.now in
    let line = c.in_ok-line.line in
    let is = c.in_ok-line.ensures.value in
    let text = c.as_str.ensures ∙ c.in_ok-source.ensures.value in
    let line_is = c.range-text.ensures.value
    ∙ (ap (λ t. slice_range t line.start line.end) text
    ∙ (ap (λ a. slice_range f.text a line.end) is.start_is ∙ ap
    (λ b. slice_range f.text (line_start f p.line) b) is.end_is)) in
    let found = c.byte_of_character.ensures in
    returned-is-at c.args.self f
    ((g.met.F.Files c.lifetimes (search rules)).lawful c.args.files.now c.args.id) p is.inside
    line.start c.range-text.result.now is.start_is line_is c.byte_of_character.result found.value
    found.units
