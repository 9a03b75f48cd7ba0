use Rattle.codespan_core.proofs.Std.{◌≤◌, length, arith, sym, ◌∙◌}
use Rattle.codespan_core.specs.Lemmas.Lines.{starts_after_run, starts_after_end}
use Rattle.codespan_core.proofs.NewlineLemmas.{no_start_in_block}
use Rattle.codespan_core.proofs.files.starts.LineStarts.search.Goals as goal

-- the bytes before the block that was found have no newline
pub returns-clause-kept : goal.returns-clause-kept
returns-clause-kept c =
    let old = c.args.self.now in
    let found = c.find_newlines-found.ensures in
    let bytes = old.source.now in
    let empty = sym old.masked ∙ c.requires in
    sym
    (no_start_in_block bytes old.at old.searched old.ordered old.within empty
    ∙ rw c.as_bytes.ensures.value at
    (starts_after_run _ _ _ found.low (omega (arith, found.ordered, found.high)) found.before))

-- and a block with none is the last
pub returns-clause-ended : goal.returns-clause-ended
returns-clause-ended c none =
    let block = c.find_newlines-found.result in
    let found = c.find_newlines-found.ensures in
    let bytes = c.as_bytes.result.now in
    let end : length bytes ≤ block.end = omega (arith, found.last none) in
    rw c.as_bytes.ensures.value at
    (no_start_in_block bytes block.start block.end found.ordered found.high
    (sym found.mask ∙ none)
    ∙ starts_after_end bytes block.end end)
