use Rattle.codespan_output.proofs.Lanes.LineRuns as lanes
use Rattle.codespan_laws.proofs.laws.lanes_join_corners.Goals as goal

pub returns : goal.returns
returns c =
    λ config layout locus followed s ordered. lanes.lanes_join_corners config layout locus followed
    s ordered
