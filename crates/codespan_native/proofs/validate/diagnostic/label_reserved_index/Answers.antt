use Rattle.std.proofs.Common.{rules}
use Rattle.std.proofs.lemmas.Iterator.{IsFirst-from_position, YieldsList-from_slice}
use borrow.Author.Tests.{tests}
use Rattle.codespan_native.specs.Validity.{HasZeroWords}
use Rattle.codespan_native.proofs.validate.diagnostic.label_reserved_index.Goals as goal

pub returns : goal.returns
returns c =
    IsFirst-from_position _ _ _ (λ x. ¬ HasZeroWords x) HasZeroWords c.position.ensures.ran
    (YieldsList-from_slice c.args.labels.now cc) (λ x q k. search (rules, tests))
    (λ x q k. search (rules, tests))
