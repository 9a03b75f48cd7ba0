use Rattle.codespan_core.proofs.Std.{◌-◌, ◌^◌, refl, ne_eqb}
use Rattle.codespan_core.proofs.files.defaults.default_line_number.Goals as goal

-- the greatest index fails, and no other one
pub returns-then-line_index-eq18446744073709551615-clause-failed :
    goal.returns-then-line_index-eq18446744073709551615-clause-failed
returns-then-line_index-eq18446744073709551615-clause-failed c =
    λ _. rw c.if-line_index-eq18446744073709551615.true refl

pub returns-clause-failed : goal.returns-clause-failed
returns-clause-failed c =
    rw (ne_eqb c.args.line_index (2 ^ 64 - 1) c.if-line_index-eq18446744073709551615.false) refl

pub returns-clause-value : goal.returns-clause-value
returns-clause-value c = refl
