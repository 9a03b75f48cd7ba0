use Rattle.codespan_core.proofs.Std.{sym}
use Rattle.program_io.proofs.run_error.RunErrorDisplay.fmt.Goals as goal

-- what was written is the line of the error, which begins with the name of the program
pub returns-in-CannotReadInput : goal.returns-in-CannotReadInput
returns-in-CannotReadInput g c =
    record {
      writes =
          rw c.in-CannotReadInput.is
          (rw (sym c.program-program.ensures) c.write.ensures.writes);
      styled = tt;
    }

pub returns-in-NotUtf8 : goal.returns-in-NotUtf8
returns-in-NotUtf8 g c =
    record {
      writes =
          rw c.in-NotUtf8.is
          (rw (sym c.program-program.ensures) c.write-in-NotUtf8.ensures.writes);
      styled = tt;
    }

pub returns-in-OutOfMemory : goal.returns-in-OutOfMemory
returns-in-OutOfMemory g c =
    record {
      writes =
          rw c.in-OutOfMemory.is
          (rw (sym c.program-program.ensures) c.write-in-OutOfMemory.ensures.writes);
      styled = tt;
    }

pub returns-in-CannotWriteOutput : goal.returns-in-CannotWriteOutput
returns-in-CannotWriteOutput g c =
    record {
      writes =
          rw c.in-CannotWriteOutput.is
          (rw (sym c.program-program.ensures) c.write-in-CannotWriteOutput.ensures.writes);
      styled = tt;
    }
