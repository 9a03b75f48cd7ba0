use Rattle.codespan_core.proofs.Std.{◌≡◌, drop}
use Rattle.codespan_output.specs.{single_label_view, single_label_views}
use Rattle.codespan_output.specs.Private.{overlaps_any}
use Rattle.codespan_output.proofs.rows.messages.overlaps_any.Given as goal

-- the remaining others decide
abbrev pub invariant-loop-other : goal.invariant-loop-other
invariant-loop-other l =
    overlaps_any (single_label_view l.label) (single_label_views (drop l.other-index l.others))
    ≡ overlaps_any (single_label_view l.label) (single_label_views l.others)
