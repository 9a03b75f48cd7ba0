-- For the clauses of the runs of programs: what a status says of an outcome.
use Rattle.codespan_core.proofs.Std.{◌≡◌, ◌≢◌, ◌≤◌, ◌⊎◌, inl, inr, ℕ}
use Rattle.codespan_core.proofs.Std.{Result, Ok, Err, IsErrOf, OnOk, refl, subst, arith}
use Rattle.program_io.specs.declared.run_error.RunError.{RunError}
use Rattle.program_io.specs.declared.run_error.RunError.TheVariants.{WrongArguments}
use Rattle.program_io.specs.declared.run_error.RunError.TheVariants.{CannotReadInput, NotUtf8}
use Rattle.program_io.specs.declared.run_error.RunError.TheVariants.{OutOfMemory, CannotWriteOutput}
use Rattle.program_io.specs.declared.run_error.RunError.TheVariants.{Program}
use Rattle.program_io.specs.RunErrors.{IsStatusOf}

-- the status is one of three
pub status_at_most : {E : Type 0} (outcome : Result (Unit {0}) (RunError E)) (status : ℕ)
    → IsStatusOf outcome status → status ≤ 2
status_at_most (Ok done) status is = omega arith
status_at_most (Err WrongArguments) status is = omega arith
status_at_most (Err CannotReadInput) status is = omega arith
status_at_most (Err NotUtf8) status is = omega arith
status_at_most (Err OutOfMemory) status is = omega arith
status_at_most (Err CannotWriteOutput) status is = omega arith
status_at_most (Err (Program error)) status is = omega arith

-- the status 2 is that of wrong arguments
pub wrong_by_status : {E : Type 0} (outcome : Result (Unit {0}) (RunError E)) (status : ℕ)
    → IsStatusOf outcome status → status ≡ 2 → IsErrOf outcome WrongArguments
wrong_by_status (Ok done) status is two = absurd (omega arith)
wrong_by_status (Err WrongArguments) status is two = refl
wrong_by_status (Err CannotReadInput) status is two = absurd (omega arith)
wrong_by_status (Err NotUtf8) status is two = absurd (omega arith)
wrong_by_status (Err OutOfMemory) status is two = absurd (omega arith)
wrong_by_status (Err CannotWriteOutput) status is two = absurd (omega arith)
wrong_by_status (Err (Program error)) status is two = absurd (omega arith)

-- wrong arguments have the status 2
pub status_of_wrong : {E : Type 0} (outcome : Result (Unit {0}) (RunError E)) (status : ℕ)
    → IsStatusOf outcome status → IsErrOf outcome WrongArguments → status ≡ 2
status_of_wrong (Ok done) status is wrong = absurd (cc wrong)
status_of_wrong (Err error) status is wrong =
    subst (λ (r : Result (Unit {0}) (RunError _)). IsStatusOf r status) wrong is

-- any other error has the status 1
pub status_of_error : {E : Type 0} (error : RunError E) (status : ℕ)
    → IsStatusOf (Err error) status
    → error ≢ WrongArguments → status ≡ 1
status_of_error WrongArguments status is right = absurd (right refl)
status_of_error CannotReadInput status is right = is
status_of_error NotUtf8 status is right = is
status_of_error OutOfMemory status is right = is
status_of_error CannotWriteOutput status is right = is
status_of_error (Program error) status is right = is

-- the status 0 is that of success
pub success_by_status : {E X : Type 0} (outcome : Result (Unit {0}) (RunError E)) (status : ℕ)
    → IsStatusOf outcome status → status ≡ 0 → OnOk outcome X → X
success_by_status (Ok done) status is zero contents = contents
success_by_status (Err WrongArguments) status is zero contents = absurd (omega arith)
success_by_status (Err CannotReadInput) status is zero contents = absurd (omega arith)
success_by_status (Err NotUtf8) status is zero contents = absurd (omega arith)
success_by_status (Err OutOfMemory) status is zero contents = absurd (omega arith)
success_by_status (Err CannotWriteOutput) status is zero contents = absurd (omega arith)
success_by_status (Err (Program error)) status is zero contents = absurd (omega arith)

-- an error is that of a failed output, or another one
pub failed_output_or_other : {E : Type 0} (error : RunError E)
    → (error ≡ CannotWriteOutput) ⊎ (error ≢ CannotWriteOutput)
failed_output_or_other WrongArguments = inr (λ output. cc output)
failed_output_or_other CannotReadInput = inr (λ output. cc output)
failed_output_or_other NotUtf8 = inr (λ output. cc output)
failed_output_or_other OutOfMemory = inr (λ output. cc output)
failed_output_or_other CannotWriteOutput = inl refl
failed_output_or_other (Program error) = inr (λ output. cc output)
