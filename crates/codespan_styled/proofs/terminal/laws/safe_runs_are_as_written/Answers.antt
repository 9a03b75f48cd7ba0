use Rattle.codespan_styled.proofs.AnsiStreams.{as_written}
use Rattle.codespan_styled.proofs.terminal.laws.safe_runs_are_as_written.Goals as goal

pub returns : goal.returns
returns c = as_written
