use Rattle.codespan_core.proofs.files.simple.SimpleFileFiles.source.Goals as goal

-- the text is that of the source
pub returns-clause-borrowed : goal.returns-clause-borrowed
returns-clause-borrowed g c = c.as_str.ensures
