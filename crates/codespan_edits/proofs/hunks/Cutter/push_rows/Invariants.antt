use Rattle.codespan_core.proofs.Std.{◌≡◌, ◌++◌, ◌+◌, ℕ, Bool, true, List, length, drop, map}
use Rattle.codespan_core.proofs.Std.{if◌then◌else◌}
use Rattle.codespan_edits.specs.Diffs.{Row, rows_with}
use Rattle.codespan_edits.specs.Numbers.{is_old}
use Rattle.codespan_edits.specs.Private.Hunks.{hunks_with, ArePicked}
use Rattle.codespan_edits.proofs.hunks.Cutter.push_rows.Given as goal

-- the rows so far, and those of the lines that are left, are all
abbrev pub invariant-loop-line : goal.invariant-loop-line
invariant-loop-line l = record {
  line : l.self.line ≡ l.fn.self.line + (if is_old l.sign then l.line-index else 0);
  started : l.self.started ≡ l.fn.self.started;
  rows : (picks : ℕ → Bool) (k : ℕ) (rs : List Row) → ArePicked picks true k (length l.lines)
      → hunks_with l.self picks (k + l.line-index)
      (rows_with l.sign (map (λ x. x.now) (drop l.line-index l.lines)) ++ rs)
      ≡ hunks_with l.fn.self picks k (rows_with l.sign (map (λ x. x.now) l.lines) ++ rs);
}
