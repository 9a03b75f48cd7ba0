use Rattle.codespan_core.proofs.files.simple.SimpleFileFiles.line_number.Goals as goal

-- the number is that of the default
pub returns-clause-value : goal.returns-clause-value
returns-clause-value g c = search

-- the failure is that of the default
pub returns-clause-failed : goal.returns-clause-failed
returns-clause-failed g c = search

pub returns-clause-memory : goal.returns-clause-memory
returns-clause-memory g c = search
