use Rattle.std.proofs.Common.{◌≤◌, [], map, take, length}
use Rattle.gallery_cases.specs.Cases.{AppliesLines}
use Rattle.gallery_cases.proofs.cases.apply_lines.Given as goal

abbrev pub invariant-loop-index : goal.invariant-loop-index
invariant-loop-index l = record {
  within : l.index ≤ length l.lines;
  applied_lines : AppliesLines (map (λ line. line.now) (take l.index l.lines)) [] l.cases.items;
}
