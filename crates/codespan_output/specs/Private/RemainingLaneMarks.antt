-- The lane marks that a loop over the lanes has not reached.
use Rattle.std.specs.Prelude.{ℕ, ◌==◌, List, [], ◌∷◌, Option, Some, None}
use Rattle.std.specs.Prelude.{if◌then◌else◌}
use Rattle.codespan_output.specs.Arguments.{LaneMarkTuple}

-- the lane mark in a lane, where it is the first of the remaining ones
abbrev pub lane_mark_here : List LaneMarkTuple → ℕ → Option LaneMarkTuple
lane_mark_here [] lane = None
lane_mark_here (m ∷ ms) lane = if m.0 == lane then Some m else None

-- the lane marks that remain after that lane
abbrev pub lane_marks_after : List LaneMarkTuple → ℕ → List LaneMarkTuple
lane_marks_after [] lane = []
lane_marks_after (m ∷ ms) lane = if m.0 == lane then ms else m ∷ ms
