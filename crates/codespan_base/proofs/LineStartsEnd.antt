-- For the law `line_starts_end`: what the iterator over line starts returns up to its end.
use Rattle.codespan_core.proofs.Std.{◌≡◌, ℕ, List, refl, sym, ◌∙◌, map-id}
use Rattle.std.proofs.lemmas.Iterator.{items_from_drains}
use Rattle.std.proofs.lemmas.Iterator.Consumers.{YieldsList-from_first}
use Rattle.std.specs.Iterator.{Drains, YieldsFirst}
use Rattle.codespan_core.specs.LineStarts.{remaining_starts}
use Rattle.codespan_core.specs.declared.files.starts.LineStarts.{LineStarts}

-- at its end it has returned the starts that were left
pub drained : (starts : LineStarts) (items : List ℕ)
    → Drains (YieldsFirst remaining_starts) starts items
    → items ≡ remaining_starts starts
drained starts items run =
    sym (map-id items)
    ∙ items_from_drains items (run.1.0, run.1.1, λ _. (run.0, run.1.2))
    (YieldsList-from_first (λ x. x) remaining_starts (remaining_starts starts) refl)
