use Rattle.codespan_native.proofs.FirstInvalid.{first-found, next-valid}
use Rattle.codespan_native.proofs.validate.first_invalid.Goals as goal

-- the argument at the index is valid too
pub loop-argument-preserved : goal.loop-argument-preserved
loop-argument-preserved c =
    next-valid c.args.files.now c.args.diagnostic.now c.args.config.now
    c.loop-argument.argument-index c.loop-argument.invariant c.in_default.ensures

-- the argument at the index is invalid, and those of lower numbers are valid
pub returns-in-Some : goal.returns-in-Some
returns-in-Some c = record {
  none = tt;
  some =
      first-found c.args.files.now c.args.diagnostic.now c.args.config.now
      c.loop-argument.argument-index _ c.loop-argument-test.true c.loop-argument.invariant
      c.in-Some.ensures;
}
