use Rattle.codespan_core.proofs.diagnostic.Diagnostic.error.Goals as goal

-- the severity is the one that was given to `new`
pub returns-clause-severity : goal.returns-clause-severity
returns-clause-severity g c = c.new.ensures.severity
