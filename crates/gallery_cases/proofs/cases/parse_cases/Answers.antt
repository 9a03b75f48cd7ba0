use Rattle.std.proofs.Common.{◌≡◌, Bor, List, ℕ, map, ap, ◌∙◌, Ok}
use Rattle.std.specs.declared.alloc.AllocError.{AllocError}
use Rattle.std.specs.Str.Lines.{lines}
use Rattle.std.proofs.lemmas.Iterator.Consumers.{map_from_collect}
use Rattle.std.proofs.lemmas.Iterator.Splits.{YieldsList-from_lines}
use Rattle.gallery_cases.proofs.cases.parse_cases.Goals.{After-as_slice}
use Rattle.gallery_cases.proofs.cases.parse_cases.Goals as goal

-- the lines that are applied are those of the input
are_lines : (c : After-as_slice)
    → map (λ (line : Bor (List ℕ)). line.now) c.as_slice.result.now ≡ lines c.args.input.now
are_lines c =
    ap (map (λ (line : Bor (List ℕ)). line.now)) c.as_slice.ensures.value
    ∙ map_from_collect {E = AllocError} (Ok c.in_ok-lines.lines) c.in_ok-lines.ensures.ran
    (YieldsList-from_lines c.args.input.now c.lines.ensures.rest)

pub returns-clause-cases : goal.returns-clause-cases
returns-clause-cases c =
    rw (are_lines (goal.at.returns-clause-cases c).After-as_slice) at c.apply_lines.ensures.cases

pub returns-clause-line_error : goal.returns-clause-line_error
returns-clause-line_error c =
    rw (are_lines (goal.at.returns-clause-line_error c).After-as_slice) at
    c.apply_lines.ensures.line_error
