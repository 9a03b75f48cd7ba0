use Rattle.codespan_core.proofs.diagnostic.Diagnostic.with_labels.Goals as goal

-- the list after the call is the old one with the labels at its end
pub returns-clause-labels : goal.returns-clause-labels
returns-clause-labels g c = c.in_ok-append.ensures.items
