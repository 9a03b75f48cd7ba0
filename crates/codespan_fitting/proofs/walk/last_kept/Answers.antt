use Rattle.codespan_core.proofs.Std.{refl, chars, take-length}
use Rattle.codespan_fitting.specs.Walks.{text_units}
use Rattle.codespan_fitting.proofs.TextSteps.{text-bytes}
use Rattle.codespan_fitting.proofs.UnitLemmas.{units-bytes}
use Rattle.codespan_fitting.proofs.walk.last_kept.Goals as goal

pub returns-else-is_before_needed-clause-bytes : goal.returns-else-is_before_needed-clause-bytes
returns-else-is_before_needed-clause-bytes c =
    rw (
      c.if-is_before_needed.false,
      take-length (text_units c.args.tab_width c.args.text.now),
      units-bytes c.args.tab_width (chars c.args.text.now),
      text-bytes c.args.text.now c.utf8.text,
    )
    refl
