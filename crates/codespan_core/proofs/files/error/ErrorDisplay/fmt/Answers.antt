use Rattle.codespan_core.proofs.files.error.ErrorDisplay.fmt.Goals as goal

-- what was written is the text of the error
pub returns-in-LineTooLarge : goal.returns-in-LineTooLarge
returns-in-LineTooLarge g c =
    record { writes = rw c.in-LineTooLarge.is c.write-in-LineTooLarge.ensures.writes; styled = tt }

pub returns-in-IndexTooLarge : goal.returns-in-IndexTooLarge
returns-in-IndexTooLarge g c =
    record {
      writes =
          rw c.in-IndexTooLarge.is c.write-in-IndexTooLarge.ensures.writes;
      styled = tt;
    }

pub returns-in-ColumnTooLarge : goal.returns-in-ColumnTooLarge
returns-in-ColumnTooLarge g c =
    record {
      writes =
          rw c.in-ColumnTooLarge.is c.write-in-ColumnTooLarge.ensures.writes;
      styled = tt;
    }

pub returns-in-FileMissing : goal.returns-in-FileMissing
returns-in-FileMissing g c =
    record { writes = rw c.in-FileMissing.is c.write.ensures.writes; styled = tt }

pub returns-in-InvalidCharBoundary : goal.returns-in-InvalidCharBoundary
returns-in-InvalidCharBoundary g c =
    record {
      writes =
          rw c.in-InvalidCharBoundary.is c.write-in-InvalidCharBoundary.ensures.writes;
      styled = tt;
    }

pub returns-in-FormatError : goal.returns-in-FormatError
returns-in-FormatError g c =
    record { writes = rw c.in-FormatError.is c.write-in-FormatError.ensures.writes; styled = tt }

pub returns-in-OutOfMemory : goal.returns-in-OutOfMemory
returns-in-OutOfMemory g c =
    record { writes = rw c.in-OutOfMemory.is c.write-in-OutOfMemory.ensures.writes; styled = tt }

pub returns-in-Io : goal.returns-in-Io
returns-in-Io g c = record { writes = rw c.in-Io.is c.write-in-Io.ensures.writes; styled = tt }
