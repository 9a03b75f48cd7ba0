use Rattle.codespan_core.proofs.diagnostic.Label.primary.Goals as goal

-- the style is the one that was given to `new`
pub returns-clause-style : goal.returns-clause-style
returns-clause-style g c = c.new.ensures.style
