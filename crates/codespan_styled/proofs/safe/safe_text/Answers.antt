use Rattle.std.proofs.Common.{ℕ, List, ◌++◌, ap, ◌∙◌}
use Rattle.codespan_styled.specs.SafeText.{safe_text}
use Rattle.codespan_styled.proofs.safe.safe_text.Goals as goal

-- the safe characters of the text are appended to nothing
pub returns : goal.returns
returns c =
    c.in_ok-push_safe.ensures
    ∙ ap (λ (l : List ℕ). l ++ safe_text c.args.text.now) c.new-safe.ensures.bytes
