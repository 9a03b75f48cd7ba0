use Rattle.codespan_core.proofs.Std.{◌+◌, ◌/◌, ◌^◌, arith, ap, ◌∙◌}
use Rattle.std.proofs.Common.{shr-shr}
use lib.Count.{count_trailing_zeros}
use Rattle.codespan_core.proofs.NewlineLemmas.{mask_of_rest, first_in_block, starts_from_first}
use Rattle.codespan_core.proofs.files.starts.LineStarts.take_newline.Goals as goal

-- the newline is before the end of the block
pub invariant_of-self-clause-ordered : goal.invariant_of-self-clause-ordered
invariant_of-self-clause-ordered c =
    let old = c.args.self.now in
    omega (
      arith,
      old.ordered,
      first_in_block old.source.now old.at old.searched old.mask old.ordered old.within old.near
          old.masked (omega (arith, c.requires)),
    )

-- the bits of the newlines after it stay
pub invariant_of-self-clause-masked : goal.invariant_of-self-clause-masked
invariant_of-self-clause-masked c =
    let old = c.args.self.now in
    let first = count_trailing_zeros 64 old.mask in
    shr-shr old.mask first 1
    ∙ ap (λ x. x / 2 ^ (first + 1)) old.masked
    ∙ mask_of_rest old.source.now old.at old.searched (first + 1)
    (invariant_of-self-clause-ordered c)

-- a line starts after it, and none before
pub returns-clause-first : goal.returns-clause-first
returns-clause-first c =
    let old = c.args.self.now in
    starts_from_first old.source.now old.at old.searched old.mask old.ordered old.within old.near
    old.masked (omega (arith, c.requires))
