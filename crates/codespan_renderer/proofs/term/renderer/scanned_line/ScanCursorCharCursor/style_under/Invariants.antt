use Rattle.codespan_core.proofs.Std.{◌≡◌, drop, None}
use Rattle.codespan_core.specs.Labels.{LabelModel}
use Rattle.codespan_output.specs.Carets.{covers}
use Rattle.codespan_output.specs.Arguments.{single_label_views}
use Rattle.codespan_renderer.specs.Private.{preferred_style}
use Rattle.codespan_renderer.proofs.term.renderer.scanned_line.ScanCursorCharCursor.style_under.Given as goal

-- the remaining labels decide
abbrev pub invariant-loop-label : goal.invariant-loop-label
invariant-loop-label l = record {
  best : preferred_style (λ (x : LabelModel). covers x l.metrics) l.found
      (single_label_views (drop l.label-index l.self.labels.now))
      ≡ preferred_style (λ (x : LabelModel). covers x l.metrics) None
      (single_label_views l.self.labels.now);
}
