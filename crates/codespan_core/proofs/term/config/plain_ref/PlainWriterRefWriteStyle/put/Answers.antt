use Rattle.codespan_core.proofs.Std.{false, [], ◌∷◌}
use Rattle.codespan_core.specs.{plain_spelling, plain_reference}
use Rattle.codespan_core.proofs.term.config.plain_ref.PlainWriterRefWriteStyle.put.Goals as goal

pub returns-clause-took : goal.returns-clause-took
returns-clause-took g c =
    c.forward_put.ensures.took
    (record {
      spelling =
          plain_spelling;
      failed = false;
      borrows = plain_reference c.args.self.now ∷ [];
    })
