use Rattle.codespan_core.proofs.Std.{arith}
use Rattle.codespan_core.specs.{file_of}
use Rattle.codespan_core.proofs.ColumnLemmas.{location_in_file}
use Rattle.codespan_core.proofs.PastLastLineFailures.{byte_line_exists, byte_line_numbered, never}
use Rattle.codespan_core.proofs.files.simple.SimpleFileFiles.location.Goals as goal

-- the line number is that of the byte's line, and the column number that of the byte on it
pub returns-clause-value : goal.returns-clause-value
returns-clause-value g c =
    location_in_file (file_of g.Name.Display.output c.args.self.now) _ _ _ _
    c.in_ok-line_index.ensures.value c.in_ok-line_number.ensures.value
    c.in_ok-column_number.ensures.value

-- the number of a byte's line does not fail
pub returns-in_err-line_number-clause-failed : goal.returns-in_err-line_number-clause-failed
returns-in_err-line_number-clause-failed g c =
    never _ _
    (byte_line_numbered (g.Source.AsStr.text c.args.self.now.source)
    c.args.self.now.line_starts.items c.args.byte_index _ c.args.self.now.starts
    (omega (arith, c.args.self.now.line_starts.ok.0)) c.in_ok-line_index.ensures.value)
    c.in_err-line_number.ensures.failed c.in_err-line_number.ensures.memory

pub returns-in_err-line_number-clause-succeeds : goal.returns-in_err-line_number-clause-succeeds
returns-in_err-line_number-clause-succeeds g c =
    never _ _
    (byte_line_numbered (g.Source.AsStr.text c.args.self.now.source)
    c.args.self.now.line_starts.items c.args.byte_index _ c.args.self.now.starts
    (omega (arith, c.args.self.now.line_starts.ok.0)) c.in_ok-line_index.ensures.value)
    c.in_err-line_number.ensures.failed c.in_err-line_number.ensures.memory

-- the column of a byte's line does not fail
pub returns-in_err-column_number-clause-failed : goal.returns-in_err-column_number-clause-failed
returns-in_err-column_number-clause-failed g c =
    never _ _
    (byte_line_exists (g.Source.AsStr.text c.args.self.now.source) c.args.byte_index _
    c.in_ok-line_index.ensures.value)
    c.in_err-column_number.ensures.failed c.in_err-column_number.ensures.memory

pub returns-in_err-column_number-clause-succeeds : goal.returns-in_err-column_number-clause-succeeds
returns-in_err-column_number-clause-succeeds g c =
    never _ _
    (byte_line_exists (g.Source.AsStr.text c.args.self.now.source) c.args.byte_index _
    c.in_ok-line_index.ensures.value)
    c.in_err-column_number.ensures.failed c.in_err-column_number.ensures.memory
