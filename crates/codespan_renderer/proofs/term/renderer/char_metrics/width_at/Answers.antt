use Rattle.codespan_core.proofs.Std.{arith, ne_eqb, refl}
use Rattle.codespan_renderer.proofs.MetricsSteps.{width_at-printable}
use Rattle.codespan_renderer.proofs.term.renderer.char_metrics.width_at.Goals as goal

pub returns-then-matches : goal.returns-then-matches
returns-then-matches c = width_at-printable _ _ c.args.c (omega arith) (omega arith)

pub returns : goal.returns
returns c = rw (c.if-c-ne9.false, ne_eqb c.args.tab_width 0 c.if-tab_width-eq0.false) refl
