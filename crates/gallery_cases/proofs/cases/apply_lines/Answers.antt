use Rattle.std.proofs.Common.{◌≡◌, ℕ, Bor, List, [], arith, map, subst, take}
use Rattle.std.proofs.lemmas.List.{take_all}
use Rattle.gallery_cases.specs.Cases.{AppliesLines}
use Rattle.gallery_cases.proofs.LineByLine.{next_line, first_line_error}
use Rattle.gallery_cases.proofs.cases.apply_lines.Goals as goal

pub returns-in-Err-clause-line_error : goal.returns-in-Err-clause-line_error
returns-in-Err-clause-line_error c =
    first_line_error c.args.lines.now c.loop-index.index _ c.loop-index.cases.items
    c.in-Err.error (omega arith) c.loop-index.invariant.applied_lines
    c.in-Err.ensures.line_error

pub loop-index-preserved : goal.loop-index-preserved
loop-index-preserved c = record {
  within = omega arith;
  applied_lines =
      next_line c.args.lines.now c.loop-index.index _ c.loop-index.cases.items
      c.apply_line.new.cases.items (omega arith) c.loop-index.invariant.applied_lines
      c.in_default.ensures.applied;
}

-- all lines
pub returns-clause-cases : goal.returns-clause-cases
returns-clause-cases c =
    let all : take c.loop-index.index c.args.lines.now ≡ c.args.lines.now =
    take_all c.loop-index.index c.args.lines.now (omega arith) in
    subst
    (λ (ls : List (Bor (List ℕ))). AppliesLines (map (λ line. line.now) ls) []
    c.loop-index.cases.items)
    all c.loop-index.invariant.applied_lines
