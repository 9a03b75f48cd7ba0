use Rattle.codespan_core.proofs.term.config.plain.PlainWriterWrite.write.Goals as goal

-- the bytes are those that the inner writer took
pub returns-clause-bytes : goal.returns-clause-bytes
returns-clause-bytes g c = search
