use Rattle.codespan_core.proofs.term.config.chars.CharsDefault.default.Goals as goal

-- the characters that were returned are those of box drawing
pub returns-clause-equal : goal.returns-clause-equal
returns-clause-equal c = search
