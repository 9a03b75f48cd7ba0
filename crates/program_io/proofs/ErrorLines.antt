-- For `RunError::write_line`: the line of a failed output.
use Rattle.codespan_core.proofs.Std.{◌≡◌, ℕ, List, [], ◌∷◌, ◌++◌, Option, Result}
use Rattle.codespan_core.proofs.Std.{IfSome, OnOk, codes, append_assoc, sym, subst}
use Rattle.std.specs.Fmt.{with_newline}
use Rattle.std.specs.Io.KnownBytes.{Appends}
use Rattle.program_io.specs.declared.run_error.RunError.{RunError}
use Rattle.program_io.specs.declared.run_error.RunError.TheVariants.{CannotWriteOutput}
use Rattle.program_io.specs.RunErrors.{displayed_error, failed_output_line}

-- the line of a failed output, as that of an error
pub line_of_error : {X E : Type 0} (program usage : List ℕ) (own : X → Option (List ℕ))
    (error : RunError X) (old new : Option (List ℕ)) (r : Result (Unit {0}) E)
    → error ≡ CannotWriteOutput
    → OnOk r (Appends old new (failed_output_line program))
    → OnOk r (IfSome (with_newline (displayed_error program usage own error)) (Appends old new))
line_of_error program usage own error old new r is appended =
    let line : failed_output_line program ≡ (program ++ codes ": cannot write output")
    ++ 10 ∷ [] =
    sym (append_assoc program (codes ": cannot write output") (10 ∷ [])) in
    subst
    (λ (f : RunError _). OnOk r
    (IfSome (with_newline (displayed_error program usage own f)) (Appends old new)))
    (sym is)
    (subst (λ bytes. OnOk r (Appends old new bytes)) line appended)
