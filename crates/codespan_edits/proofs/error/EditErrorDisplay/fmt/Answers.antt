use Rattle.codespan_edits.proofs.error.EditErrorDisplay.fmt.Goals as goal

-- what was written is the text of the error
pub returns-in-PastEnd-clause-writes : goal.returns-in-PastEnd-clause-writes
returns-in-PastEnd-clause-writes g c = rw c.in-PastEnd.is c.write-in-PastEnd.ensures.writes

pub returns-in-NotCharBoundary-clause-writes : goal.returns-in-NotCharBoundary-clause-writes
returns-in-NotCharBoundary-clause-writes g c =
    rw c.in-NotCharBoundary.is c.write-in-NotCharBoundary.ensures.writes

pub returns-in-Overlap-clause-writes : goal.returns-in-Overlap-clause-writes
returns-in-Overlap-clause-writes g c = rw c.in-Overlap.is c.write-in-Overlap.ensures.writes
