use Rattle.std.proofs.Common.{rules}
use Rattle.std.proofs.lemmas.Iterator.{IsFirst-from_position, YieldsList-from_slice}
use borrow.Author.Tests.{tests}
use Rattle.codespan_native.specs.EditCalls.{HasValidReplacement}
use Rattle.codespan_native.proofs.validate.edits.replacement_index.Goals as goal

pub returns : goal.returns
returns c =
    IsFirst-from_position _ _ _ (λ x. ¬ HasValidReplacement x) HasValidReplacement
    c.position.ensures.ran (YieldsList-from_slice c.args.edits.now cc)
    (λ x q k. search (rules, tests)) (λ x q k. search (rules, tests))
