use Rattle.codespan_core.proofs.Std.{ap, sym, ◌∙◌, rules}
use Rattle.std.specs.Result.{result_err}
use Rattle.program_io.specs.Escapes.{unescaped}
use Rattle.program_io.proofs.Escaping.{all_plain, error_kept, one_bad, one_more}
use Rattle.program_io.proofs.escapes.after_bad_escape.Goals as goal

pub returns-in_default-parse_escape-clause-after : goal.returns-in_default-parse_escape-clause-after
returns-in_default-parse_escape-clause-after c =
    sym (ap result_err
    (one_bad c.escapes.rest.now (c.in-Some.field-0-0, c.in-Some.escape) c.in-Some.ensures.cases
    c.in_default-parse_escape.ensures.parsed))
    ∙ c.escapes.invariant.same

pub escapes-preserved : goal.escapes-preserved
escapes-preserved c = record {
  utf8 = search rules;
  within = search rules;
  same = sym (error_kept _ (unescaped c.in-Some-parse_escape.left.now))
      ∙ sym (ap result_err
      (one_more c.escapes.rest.now c.in-Some-parse_escape.left.now _
      (c.in-Some.field-0-0, c.in-Some.escape) c.in-Some.ensures.cases
      c.in-Some-parse_escape.ensures.parsed))
      ∙ c.escapes.invariant.same;
}

pub returns-clause-after : goal.returns-clause-after
returns-clause-after c =
    sym (ap result_err (all_plain c.escapes.rest.now c.in_default.ensures.cases))
    ∙ c.escapes.invariant.same
