use Rattle.codespan_core.proofs.Std.{◌≡◌, ◌+◌, ◌-◌, length}
use Rattle.codespan_renderer.specs.Private.{HasPassedLabels}
use Rattle.codespan_renderer.proofs.term.renderer.cached.label_cursor.LabelCursor.advance.Given as goal

-- of the labels that start before the character's end some have been passed
abbrev pub invariant-loop-self : goal.invariant-loop-self
invariant-loop-self l = record {
  passed : HasPassedLabels (l.metrics.byte_index + l.metrics.bytes) l.self;
  same : l.self.labels.now ≡ l.fn.self.labels.now;
}

abbrev pub decreases-loop-self : goal.decreases-loop-self
decreases-loop-self l = length l.labels - l.self.next
