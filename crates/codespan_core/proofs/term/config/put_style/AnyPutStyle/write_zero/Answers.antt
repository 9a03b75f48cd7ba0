use Rattle.codespan_core.proofs.term.config.put_style.AnyPutStyle.write_zero.Goals as goal

-- the error is one of this kind
pub returns : goal.returns
returns g c = c.from.ensures
