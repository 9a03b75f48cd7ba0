use Rattle.codespan_renderer.proofs.SkippedSearch.{least-of_first, least-of_none}
use Rattle.codespan_core.proofs.Std.{arith, common_steps}
use Rattle.codespan_renderer.proofs.term.renderer.cached.cached_line.CachedLineLineCharacters.characters_from_labels.Goals as goal

-- the characters that are left out end at the least start of the labels, or before it
pub returns-clause-remaining : goal.returns-clause-remaining
returns-clause-remaining c = grind (arith, common_steps, least-of_first, least-of_none)
