use Rattle.codespan_core.proofs.Std.{[]}
use Rattle.codespan_edits.proofs.BlockLemmas.{closing, closed}
use Rattle.codespan_edits.proofs.blocks.Collector.finish.Goals as goal

-- the last block is added
pub returns-clause-blocks : goal.returns-clause-blocks
returns-clause-blocks c = λ ls all h.
    closed ls all c.end_block.new.self c.in_ok-end_block.ensures.before
    c.in_ok-end_block.ensures.after
    (c.in_ok-end_block.ensures.holds ls all [] [] (closing ls all c.args.self h))
