use Rattle.std.proofs.Common.{◌+◌, ap, sym, ◌∙◌}
use Rattle.std.specs.Prelude.{Some}
use Rattle.codespan_base.specs.declared.files.Error.TheVariants.{ColumnTooLarge}
use Rattle.codespan_base.specs.declared.files.Error.TheVariants.{InvalidCharBoundary}
use Rattle.codespan_lsp.proofs.ErrorLemmas.{character_failure-none, character_failure-past}
use Rattle.codespan_lsp.proofs.ErrorLemmas.{character_failure-inside}
use Rattle.codespan_lsp.proofs.encoding.PositionEncoding.byte_of_character.Goals as goal

pub returns-then-prefix-character-clause-failed : goal.returns-then-prefix-character-clause-failed
returns-then-prefix-character-clause-failed c =
    let prefix = c.prefix_within-prefix.ensures in
    character_failure-none c.args.self c.args.line.now c.args.character c.utf8.line
    c.args.line_start
    (sym prefix.units ∙ c.if-prefix-character.true)

pub returns-then-prefix-line-clause-failed : goal.returns-then-prefix-line-clause-failed
returns-then-prefix-line-clause-failed c = λ _.
    let prefix = c.prefix_within-prefix.ensures in
    character_failure-past c.args.self c.args.line.now c.args.character c.utf8.line
    c.args.line_start
    (λ same. c.if-prefix-character.false (prefix.units ∙ same))
    (sym prefix.len ∙ c.if-prefix-line.true)
    ∙ ap (λ max. Some (ColumnTooLarge c.args.character max)) (sym prefix.units)

pub returns-else-prefix-line-clause-failed : goal.returns-else-prefix-line-clause-failed
returns-else-prefix-line-clause-failed c = λ _.
    let prefix = c.prefix_within-prefix.ensures in
    character_failure-inside c.args.self c.args.line.now c.args.character c.utf8.line
    c.args.line_start
    (λ same. c.if-prefix-character.false (prefix.units ∙ same))
    (λ whole. c.if-prefix-line.false (prefix.len ∙ whole))
    ∙ ap (λ len. Some (InvalidCharBoundary (c.args.line_start + len))) (sym prefix.len)
