use Rattle.codespan_core.proofs.Std.{◌+◌, ◌≤◌, length, arith, ◌∙◌, sym, inl, inr}
use Rattle.codespan_core.proofs.Std.{cases_lt}
use Rattle.codespan_core.proofs.NewlineLemmas.{no_newline_in_block}
use Rattle.codespan_core.proofs.files.newline.find_newlines.Goals as goal

-- a block whose mask is 0 has no newline
pub loop-start-preserved : goal.loop-start-preserved
loop-start-preserved c =
    let before = c.loop-start.invariant in
    let start = c.loop-start.start in
    let room : start + 32 ≤ length c.args.bytes.now = omega arith in
    let empty = sym c.block_mask-mask.ensures ∙ c.if-mask-ne0.false in
    record {
      low = omega arith;
      high = room;
      before = λ i low high.
          elim (cases_lt i start) [
            | inl p ↦ before.before i low p
            | inr p ↦ no_newline_in_block c.args.bytes.now start 32 room empty i p high
          ];
    }
