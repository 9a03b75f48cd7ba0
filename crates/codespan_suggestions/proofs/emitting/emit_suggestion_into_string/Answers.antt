use Rattle.codespan_core.proofs.Std.{rules, ◌∙◌, ap, sym, subst, Some}
use Rattle.codespan_core.specs.Streams.{plain_spelling}
use Rattle.codespan_core.specs.Writers.{fresh_sink}
use Rattle.codespan_suggestions.proofs.EmitLemmas.{received-text}
use Rattle.codespan_suggestions.proofs.ReadOutputs.{sources-and-output-give-texts}
use Rattle.codespan_suggestions.specs.ReadingLaws.{TextGivesTexts}
use Rattle.codespan_suggestions.proofs.emitting.emit_suggestion_into_string.Goals as goal

-- the plain writer has received the output
pub returns-in-Ok-from_utf8-clause-text : goal.returns-in-Ok-from_utf8-clause-text
returns-in-Ok-from_utf8-clause-text g c = λ stated.
    received-text _
    (c.new-plain.ensures.begins
    ∙ ap (λ ys. fresh_sink plain_spelling (Some ys)) c.new.ensures.items)
    (search rules) (c.in-Ok.ensures.written.received stated)

-- so it reads back
pub returns-in-Ok-from_utf8-clause-gives : goal.returns-in-Ok-from_utf8-clause-gives
returns-in-Ok-from_utf8-clause-gives g c = λ stated.
    subst
    (TextGivesTexts c.args.config.now (g.F.Files.database c.args.files.now)
    c.args.suggestion.now)
    (sym (returns-in-Ok-from_utf8-clause-text g c stated))
    (sources-and-output-give-texts c.args.config.now (g.F.Files.database c.args.files.now)
    c.args.suggestion.now)
