use Rattle.codespan_core.proofs.Std.{drop}
use Rattle.codespan_output.proofs.Messages.TrailingLabel.{NoneEnds}
use Rattle.codespan_output.proofs.rows.messages.last_with_end.Given as goal

-- none of the labels from here on ends there
abbrev pub invariant-loop-index : goal.invariant-loop-index
invariant-loop-index l = NoneEnds l.end (drop l.index l.labels)
