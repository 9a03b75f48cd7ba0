use Rattle.codespan_core.proofs.term.config.put_style.AnyPutStyle.put.Goals as goal

-- the call that was passed on keeps the law
pub returns-clause-took : goal.returns-clause-took
returns-clause-took g c = search
