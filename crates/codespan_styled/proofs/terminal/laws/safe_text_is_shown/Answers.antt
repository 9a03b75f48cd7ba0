use Rattle.codespan_styled.proofs.TerminalRuns.{shows_safe}
use Rattle.codespan_styled.proofs.terminal.laws.safe_text_is_shown.Goals as goal

pub returns : goal.returns
returns c = shows_safe
