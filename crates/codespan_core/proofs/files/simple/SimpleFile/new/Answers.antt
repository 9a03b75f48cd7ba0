use Rattle.codespan_core.proofs.Std.{ℕ, Ok, ap, ◌∙◌, rules}
use Rattle.std.proofs.lemmas.Iterator.{items_from_collect}
use Rattle.std.proofs.lemmas.Iterator.Consumers.{YieldsList-from_first}
use Rattle.codespan_core.specs.{line_starts_of, remaining_starts}
use Rattle.codespan_core.proofs.files.simple.SimpleFile.new.Goals as goal

pub invariant_of-result-clause-utf8 : goal.invariant_of-result-clause-utf8
invariant_of-result-clause-utf8 g c = ∣ rw (c.as_str.ensures) at c.as_str.utf8 ∣₁

pub invariant_of-result-clause-fits : goal.invariant_of-result-clause-fits
invariant_of-result-clause-fits g c = search rules depth 2 fits 100

-- what was collected are the starts that the iterator had left
pub invariant_of-result-clause-starts : goal.invariant_of-result-clause-starts
invariant_of-result-clause-starts g c =
    items_from_collect {E = ℕ} (Ok c.in_ok-line_starts.line_starts)
    c.in_ok-line_starts.ensures.ran
    (YieldsList-from_first (λ x. x) remaining_starts _
    (c.line_starts.ensures ∙ ap line_starts_of c.as_str.ensures))
