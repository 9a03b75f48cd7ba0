use Rattle.codespan_edits.proofs.HunkRuns.{hunks-are-runs}
use Rattle.codespan_edits.proofs.laws.hunks_are_runs.Goals as goal

pub returns : goal.returns
returns c = hunks-are-runs
