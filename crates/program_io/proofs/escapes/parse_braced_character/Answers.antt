use Rattle.std.proofs.Common.{None, Some, refl, ap, sym, ◌∙◌, arith}
use Rattle.std.proofs.lemmas.Str.Pattern.{strip_prefix_char}
use Rattle.program_io.specs.Escapes.{past_escape}
use Rattle.program_io.proofs.Escaping.{read_bytes, unopened}
use Rattle.program_io.proofs.escapes.parse_braced_character.Goals as goal

pub returns-in_err-braced-clause-parsed : goal.returns-in_err-braced-clause-parsed
returns-in_err-braced-clause-parsed c =
    ap read_bytes c.from_residual.ensures
    ∙ sym (ap (past_escape c.args.text.now) (unopened c.args.text.now
    (strip_prefix_char 123 c.args.text.now None c.in_err-braced.ensures.cases (omega arith))))
