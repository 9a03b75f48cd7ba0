use Rattle.codespan_core.proofs.diagnostic.Diagnostic.with_notes.Goals as goal

-- the list after the call is the old one with the notes at its end
pub returns-clause-notes : goal.returns-clause-notes
returns-clause-notes g c = c.in_ok-append.ensures.items
