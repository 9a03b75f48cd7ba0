use Rattle.codespan_styled.proofs.Shown.{shown_are_safe}
use Rattle.codespan_styled.proofs.terminal.laws.shown_characters_are_safe.Goals as goal

pub returns : goal.returns
returns c = shown_are_safe
