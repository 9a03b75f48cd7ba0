use Rattle.codespan_core.proofs.Std.{◌≡◌, ◌++◌, map, drop}
use Rattle.codespan_output.specs.Arguments.{single_label_views}
use Rattle.codespan_views.specs.Private.{annotation_view, single_labels_in}
use Rattle.codespan_views.proofs.snippet.line_buffers.LineBuffers.refill.Given as goal

-- the single-line labels that were taken and those that are left make the whole; the lane marks
-- were all taken
abbrev pub invariant-loop-annotation : goal.invariant-loop-annotation
invariant-loop-annotation g l = record {
  single_labels : single_label_views l.self.single_labels.items
      ++ single_labels_in (map annotation_view (drop l.annotation-index l.annotations))
      ≡ single_labels_in (map annotation_view l.annotations);
  lane_marks : l.self.lane_marks ≡ l.initial.self.lane_marks;
  numbers : l.self.numbers ≡ l.initial.self.numbers;
}
