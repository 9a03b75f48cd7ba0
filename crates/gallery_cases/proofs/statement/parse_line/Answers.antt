use Rattle.std.proofs.Common.{rules, sym, ◌∙◌}
use Rattle.gallery_cases.proofs.statement.parse_line.Goals as goal

-- a line that is not ignored, and whose word is `case`
pub returns-then-eq-clause-parsed : goal.returns-then-eq-clause-parsed
returns-then-eq-clause-parsed c =
    (sym c.is_ignored.ensures ∙ c.if-is_ignored.false, search rules, search rules)
