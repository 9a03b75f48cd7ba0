use Rattle.codespan_core.proofs.TextLemmas.{wrote_text}
use Rattle.codespan_core.proofs.diagnostic.text.display_text.Goals as goal

pub returns-in-Ok-clause-text : goal.returns-in-Ok-clause-text
returns-in-Ok-clause-text g c =
    wrote_text (g.D.Display.output c.args.value) _ c.write.new.self c.new.ensures.bytes
    c.in-Ok.ensures.writes

-- the error is one of the two
pub returns-clause-failed : goal.returns-clause-failed
returns-clause-failed g c = tt
