use Rattle.codespan_core.proofs.Repeats.{repeated-one}
use Rattle.codespan_core.proofs.term.config.writing.put_repeated.Goals as goal

pub returns-in-1 : goal.returns-in-1
returns-in-1 g c = rw (c.in-1.is, repeated-one c.args.c) c.put_char.ensures

-- the call for two copies writes two
pub returns-in-2 : goal.returns-in-2
returns-in-2 g c = rw c.in-2.is (search)
