use Rattle.codespan_core.proofs.Std.{◌≡◌, ◌-◌, ◌<◌, ◌≤◌, ℕ, nat_le, false, true}
use Rattle.codespan_fitting.specs.Gaps.{gap_cells}
use Rattle.codespan_fitting.proofs.radius.find_radius.Given as goal

-- the greatest radius is between `least`, which fits or is 0, and `most`, above which none fits
abbrev pub invariant-loop-least : goal.invariant-loop-least
invariant-loop-least l = record {
  order : l.least ≤ l.most;
  bound : l.most ≤ l.initial.most;
  fits : 0 < l.least → nat_le (gap_cells l.least l.tab_width l.text l.gaps) l.left ≡ true;
  past : (r : ℕ) → l.most < r → r ≤ l.initial.most
      → nat_le (gap_cells r l.tab_width l.text l.gaps) l.left ≡ false;
}

abbrev pub decreases-loop-least : goal.decreases-loop-least
decreases-loop-least l = l.most - l.least
