-- The error of a run, its line and the program's status.
use Rattle.std.specs.Prelude.{◌≡◌, ℕ, List, ◌++◌, Option, Some, Result, Ok, Err, codes}
use Rattle.program_io.specs.declared.arguments.ArgumentsError.{ArgumentsError}
use Rattle.program_io.specs.declared.arguments.ArgumentsError.TheVariants as arguments
use Rattle.program_io.specs.declared.input.InputError.{InputError}
use Rattle.program_io.specs.declared.input.InputError.TheVariants as input
use Rattle.program_io.specs.declared.run_error.RunError.{RunError}
use Rattle.program_io.specs.declared.run_error.RunError.TheVariants.{WrongArguments}
use Rattle.program_io.specs.declared.run_error.RunError.TheVariants.{CannotReadInput, NotUtf8}
use Rattle.program_io.specs.declared.run_error.RunError.TheVariants.{OutOfMemory, CannotWriteOutput}
use Rattle.program_io.specs.declared.run_error.RunError.TheVariants.{Program}

-- the status of an outcome: 0 without an error, 2 for wrong arguments, 1 for any other error
abbrev pub IsStatusOf : {E : Type 0} → Result (Unit {0}) (RunError E) → ℕ → Type 0
IsStatusOf (Ok done) status = status ≡ 0
IsStatusOf (Err WrongArguments) status = status ≡ 2
IsStatusOf (Err _) status = status ≡ 1

-- what an error's `Display` writes, by the program's name, the line of its usage, and what the
-- `Display` of the program's own errors writes: a line without its newline
abbrev pub displayed_error : {E : Type 0} → List ℕ → List ℕ → (E → Option (List ℕ))
    → RunError E → Option (List ℕ)
displayed_error program usage own WrongArguments = Some usage
displayed_error program usage own CannotReadInput = Some (program ++ codes ": cannot read input")
displayed_error program usage own NotUtf8 = Some (program ++ codes ": input is not UTF-8")
displayed_error program usage own OutOfMemory = Some (program ++ codes ": out of memory")
displayed_error program usage own CannotWriteOutput =
    Some (program ++ codes ": cannot write output")
displayed_error program usage own (Program error) = own error

-- the line of a failed output, with its newline
abbrev pub failed_output_line : List ℕ → List ℕ
failed_output_line program = program ++ codes ": cannot write output\n"

-- the error of a run whose arguments cannot be read
abbrev pub arguments_error : {E : Type 0} → ArgumentsError → RunError E
arguments_error arguments.NotUtf8 = WrongArguments
arguments_error arguments.OutOfMemory = OutOfMemory

-- the error of a run whose input cannot be read as text
abbrev pub input_error : {E : Type 0} → InputError → RunError E
input_error input.Unreadable = CannotReadInput
input_error input.NotUtf8 = NotUtf8
