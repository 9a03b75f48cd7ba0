use Rattle.codespan_core.proofs.Std.{rules}
use Rattle.codespan_core.proofs.TextLemmas.{noted}
use Rattle.codespan_core.proofs.diagnostic.Diagnostic.with_note.Goals as goal

-- the list after the call is the old one with the note at its end
pub returns-clause-added : goal.returns-clause-added
returns-clause-added g c = (c.in_ok-text.text, search rules depth 2 fits 100)

pub returns-clause-note : goal.returns-clause-note
returns-clause-note g c =
    noted (g.D.Display.output c.args.note) c.in_ok-text.text c.args.self.notes.items _
    c.in_ok-text.ensures.text c.in_ok-push.ensures.items
