use Rattle.gallery_cases.proofs.cases.apply_line.Goals as goal

pub returns-in_ok-push-in-NewCase-clause-applied : goal.returns-in_ok-push-in-NewCase-clause-applied
returns-in_ok-push-in-NewCase-clause-applied c = record {
  parsed_line = c.in_ok-parse_line.field-0;
  parsed = c.in_ok-parse_line.ensures.parsed;
  applied =
      rw c.in-NewCase.is
      (record {
        case =
            c.new.result;
        is = c.in_ok-push-in-NewCase.ensures.items;
        new = c.new.ensures;
      });
}
