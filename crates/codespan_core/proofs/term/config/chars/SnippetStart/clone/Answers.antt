use Rattle.codespan_core.proofs.Std.{refl}
use Rattle.codespan_core.proofs.term.config.chars.SnippetStart.clone.Goals as goal

-- a fixed text is returned as it is
pub returns-in-Fixed-clause-fixed : goal.returns-in-Fixed-clause-fixed
returns-in-Fixed-clause-fixed c = λ _. rw c.in-Fixed.is refl
