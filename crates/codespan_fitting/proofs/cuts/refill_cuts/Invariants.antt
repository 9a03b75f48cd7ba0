use Rattle.codespan_core.proofs.Std.{◌≡◌, List, drop, map}
use Rattle.codespan_output.specs.FittedParts.{Part}
use Rattle.codespan_fitting.specs.Cuts.{cut_view}
use Rattle.codespan_fitting.specs.Gaps.{placed_gaps}
use Rattle.codespan_fitting.specs.Parts.{gaps_from}
use Rattle.codespan_fitting.proofs.CutLemmas.GapSteps.{IsCut}
use Rattle.codespan_fitting.proofs.cuts.refill_cuts.Given as goal

abbrev pub invariant-loop-gap : goal.invariant-loop-gap
invariant-loop-gap l = (parts : List Part)
    → placed_gaps l.tab_width l.text l.gaps ≡ gaps_from 0 parts
    → IsCut l.tab_width l.radius l.text parts (map cut_view l.cuts.items) l.removed
    (drop l.gap-index l.gaps)
