use Rattle.codespan_core.proofs.Std.{◌≡◌, ◌-◌, ◌≤◌, drop, length, map}
use Rattle.codespan_views.specs.Private.{annotation_view, HasSameLines}
use Rattle.codespan_views.proofs.annotation.skip_hidden.Given as goal

-- the annotations that are left are the later ones, and make the same lines
abbrev pub invariant-loop-first : goal.invariant-loop-first
invariant-loop-first g l = record {
  within : length l.rest ≤ length l.annotations;
  later : l.rest ≡ drop (length l.annotations - length l.rest) l.annotations;
  lines : HasSameLines (map annotation_view l.fn.hidden) (map annotation_view l.annotations)
      (map annotation_view l.hidden) (map annotation_view l.rest);
}

abbrev pub decreases-loop-first : goal.decreases-loop-first
decreases-loop-first g l = length l.rest
