use Rattle.codespan_core.proofs.Std.{◌+◌, ◌<◌, length, arith, common_steps}
use Rattle.codespan_core.specs.Lemmas.Simple.{end_before_last}
use Rattle.codespan_core.specs.Lines.{line_starts_of}
use Rattle.codespan_base.specs.MappedFileViews.{mapped_text_of}
use Rattle.codespan_base.specs.Lemmas.Mapped.{next_above}
use Rattle.codespan_base.proofs.files.mapped.MappedFileFiles.line_range.Goals as goal

-- the next line starts after a newline
pub overflow_sub-result : goal.overflow_sub-result
overflow_sub-result g c =
    let text = mapped_text_of c.args.self.now in
    let next : c.args.line_index + 1 < length (line_starts_of text) =
    omega (arith, c.line_count.ensures.value) in
    omega (
      arith,
      c.in_ok-range.ensures.value.end_is,
      end_before_last text c.args.line_index next,
      next_above text c.args.line_index next,
    )

-- the range of a line before the last leaves out the newline
pub returns-then-line_index-line_count-clause-value
    : goal.returns-then-line_index-line_count-clause-value
returns-then-line_index-line_count-clause-value g c = grind (arith, common_steps)

pub returns-then-line_index-line_count-clause-memory
    : goal.returns-then-line_index-line_count-clause-memory
returns-then-line_index-line_count-clause-memory g c = tt
