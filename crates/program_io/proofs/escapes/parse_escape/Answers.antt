use Rattle.std.proofs.Common.{ap, sym, ◌∙◌, arith}
use Rattle.program_io.specs.Escapes.{past_escape}
use Rattle.program_io.proofs.Escaping.{no_escape}
use Rattle.program_io.proofs.escapes.parse_escape.Goals as goal

pub returns-in_default-clause-parsed : goal.returns-in_default-clause-parsed
returns-in_default-clause-parsed c =
    sym (ap (past_escape c.args.text.now)
    (no_escape c.args.text.now c.next.new.self.rest.now c.in_ok-letter.letter
    (sym c.chars-characters.ensures.rest ∙ c.in_ok-letter.ensures.steps.0)
    (omega arith) (omega arith) (omega arith) (omega arith) (omega arith) (omega arith)))
