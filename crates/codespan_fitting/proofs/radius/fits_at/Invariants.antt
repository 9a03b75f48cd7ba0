use Rattle.codespan_core.proofs.Std.{◌≡◌, ◌+◌, ◌≤◌, drop}
use Rattle.codespan_fitting.specs.Gaps.{gap_cells}
use Rattle.codespan_fitting.proofs.radius.fits_at.Given as goal

abbrev pub invariant-loop-gap : goal.invariant-loop-gap
invariant-loop-gap l = record {
  left : l.left ≤ l.initial.left;
  cells : gap_cells l.radius l.tab_width l.text l.gaps + l.left
      ≡ l.initial.left + gap_cells l.radius l.tab_width l.text (drop l.gap-index l.gaps);
}
