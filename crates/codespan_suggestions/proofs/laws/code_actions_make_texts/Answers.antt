use Rattle.codespan_suggestions.proofs.MadeTexts.{code-actions-make-texts}
use Rattle.codespan_suggestions.proofs.laws.code_actions_make_texts.Goals as goal

pub returns : goal.returns
returns g c = code-actions-make-texts
