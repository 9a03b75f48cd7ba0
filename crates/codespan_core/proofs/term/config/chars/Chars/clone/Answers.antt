use Rattle.codespan_core.proofs.Std.{ap, refl}
use Rattle.std.specs.Result.{result_map_both}
use Rattle.codespan_core.proofs.term.config.chars.Chars.clone.Goals as goal

-- the text before a locus is the same, and the other fields are copied
pub returns-clause-same : goal.returns-clause-same
returns-clause-same c = record { start = c.in_ok-clone.ensures.same; others = refl }

-- a fixed text is kept
pub returns-clause-fixed : goal.returns-clause-fixed
returns-clause-fixed c =
    λ fixed. ap
    (result_map_both (λ start. record c.args.self.now { snippet_start = start }) (λ e. e))
    (c.in_ok-clone.ensures.fixed fixed)
