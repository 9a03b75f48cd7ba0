use Rattle.codespan_core.proofs.Std.{◌≡◌, ◌≤◌, length, map, drop}
use Rattle.std.specs.Simd.Lanes.{mask_l}
use Rattle.codespan_core.specs.{is_newline}
use Rattle.codespan_core.proofs.files.newline.tail_mask.Given as goal

abbrev pub invariant-loop-i : goal.invariant-loop-i
invariant-loop-i l = record {
  low : l.fn.from ≤ l.i;
  within : l.i ≤ length l.bytes;
  masked : l.mask ≡ mask_l (map is_newline (drop l.i l.bytes));
}

abbrev pub decreases-loop-i : goal.decreases-loop-i
decreases-loop-i l = l.i
