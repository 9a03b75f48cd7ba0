use Rattle.codespan_core.proofs.Std.{◌∙◌, subst}
use Rattle.std.specs.Io.KnownBytes.{Appends}
use Rattle.program_io.proofs.ErrorLines.{line_of_error}
use Rattle.program_io.proofs.Received.{prefix_after, received_after}
use Rattle.program_io.proofs.run_error.RunError.write_line.Goals as goal

-- the line of a failed output: the name, and then the rest
pub returns-in_ok-write_all-in-CannotWriteOutput-clause-written
    : goal.returns-in_ok-write_all-in-CannotWriteOutput-clause-written
returns-in_ok-write_all-in-CannotWriteOutput-clause-written g c =
    let name = subst
    (Appends (g.W.Write.contents c.args.stderr.now)
    (g.W.Write.contents c.write_all.new.writer))
    (c.as_bytes.ensures.value ∙ c.program.ensures)
    c.in_ok-write_all-in-CannotWriteOutput.ensures.written in
    line_of_error _ _ _ _ _ _ _ c.in-CannotWriteOutput.is
    (received_after _ _ _ _ _ _ name c.write_all-in-CannotWriteOutput.ensures.written)

pub returns-in_ok-write_all-in-CannotWriteOutput-clause-prefix
    : goal.returns-in_ok-write_all-in-CannotWriteOutput-clause-prefix
returns-in_ok-write_all-in-CannotWriteOutput-clause-prefix g c =
    let name = subst
    (Appends (g.W.Write.contents c.args.stderr.now)
    (g.W.Write.contents c.write_all.new.writer))
    (c.as_bytes.ensures.value ∙ c.program.ensures)
    c.in_ok-write_all-in-CannotWriteOutput.ensures.written in
    λ _. prefix_after _ _ _ _ _ name c.write_all-in-CannotWriteOutput.ensures.prefix
