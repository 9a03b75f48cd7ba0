use Rattle.codespan_core.proofs.Std.{◌∙◌, List, leb, rules, arith, subst}
use Rattle.std.proofs.lemmas.List.Sorted.{IsPartitionPoint-from_clause}
use Rattle.codespan_output.specs.FittedParts.{Piece}
use Rattle.codespan_fitting.specs.declared.cut.Cut.{Cut}
use Rattle.codespan_fitting.specs.Cuts.{AreCutsOf}
use Rattle.codespan_fitting.proofs.CutLemmas.Search.{StopsAt, cuts-parted, search-last, search-none}
use Rattle.codespan_fitting.proofs.moved.moved.Goals.{After-partition_point}
use Rattle.codespan_fitting.proofs.moved.moved.Goals as goal

-- where the search among the cuts of pieces stops
stops : (c : After-partition_point) (ps : List Piece) → AreCutsOf ps c.args.cuts.now
    → StopsAt c.args.cuts.now c.args.x c.partition_point.result
stops c ps are =
    IsPartitionPoint-from_clause (λ (cut : Cut). leb cut.start c.args.x) _ _
    c.partition_point.ensures.partitioned
    (cuts-parted ps c.args.cuts.now c.args.x are) (λ a r q k. search rules)

pub returns-in-0 : goal.returns-in-0
returns-in-0 c = λ ps are.
    search-none ps c.args.cuts.now c.args.x are
    (subst (StopsAt c.args.cuts.now c.args.x) c.in-0.is
    (stops (goal.at.returns-in-0 c).After-partition_point ps are))

pub returns-in_default : goal.returns-in_default
returns-in_default c = λ ps are.
    c.moved_after.ensures
    ∙ search-last ps c.args.cuts.now c.args.x c.partition_point.result
    c.index-cuts-started.result are
    (stops (goal.at.returns-in_default c).After-partition_point ps are) (omega arith)
    c.partition_point.ensures.bound c.index-cuts-started.is
