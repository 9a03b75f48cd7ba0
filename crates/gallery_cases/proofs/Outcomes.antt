-- For the clauses of `run::run` and its parts: what the outcome of a run says.
use Rattle.std.proofs.Common.{IfErr, IfSome, OnOk, IsErrOf, Result, sym, ap, ◌∙◌, ◌≡◌}
use Rattle.std.proofs.Common.{◌≢◌, ℕ, List, [], Option, Some, None, Ok, Err, subst}
use Rattle.std.specs.Option.{ok_or, option_map}
use Rattle.std.specs.Str.Lines.{lines}
use Rattle.gallery_cases.specs.declared.case.Case.{Case}
use Rattle.gallery_cases.specs.declared.errors.GalleryError.{GalleryError}
use Rattle.gallery_cases.specs.declared.errors.GalleryError.TheVariants.{Line, UnknownCase}
use Rattle.gallery_cases.specs.declared.errors.GalleryError.TheVariants.{CannotRender}
use Rattle.gallery_cases.specs.Cases.{AppliesLines}
use Rattle.gallery_cases.specs.Requests.{GalleryRequestView}
use Rattle.program_io.specs.declared.run_error.RunError.{RunError}
use Rattle.program_io.specs.declared.run_error.RunError.TheVariants.{WrongArguments}
use Rattle.program_io.specs.declared.run_error.RunError.TheVariants.{CannotReadInput, NotUtf8}
use Rattle.program_io.specs.declared.run_error.RunError.TheVariants.{OutOfMemory, CannotWriteOutput}
use Rattle.program_io.specs.declared.run_error.RunError.TheVariants.{Program}
use Rattle.gallery_cases.specs.Responses.{IsResponse, IsResponseOf, IsGalleryRunError}
use Rattle.gallery_cases.specs.Responses.{IsResponseError}

-- with wrong arguments the output is unchanged
pub unchanged_at_error : (outcome : Result (Unit {0}) (RunError GalleryError)) {X : Type 0}
    → IfErr outcome (λ error. error ≢ CannotWriteOutput → X)
    → IsErrOf outcome WrongArguments → X
unchanged_at_error (Ok done) unchanged wrong = absurd (cc wrong)
unchanged_at_error (Err error) unchanged wrong = unchanged (λ output. cc (wrong, output))

-- the request is that of the arguments, where they are right
pub requested : {R A E : Type 0} (view : R → A) (found : Option R) (wrong : E) (r : Result R E)
    (request : R) (expected : Option A)
    → r ≡ ok_or found wrong → r ≡ Ok request
    → option_map view found ≡ expected → expected ≡ Some (view request)
requested view None wrong r request expected is ok viewed = absurd (cc (is, ok))
requested view (Some other) wrong r request expected is ok viewed =
    let same : other ≡ request = cc (is, ok) in
    sym viewed ∙ ap (λ o. Some (view o)) same

-- what is requested of the cases of an input is written
pub responded : {E : Type 0} (expected : Option GalleryRequestView) (left : Option (List ℕ))
    (request : GalleryRequestView) (text bytes : List ℕ) (cases : List Case)
    (r : Result (Unit {0}) E) (Writes : List ℕ → Type 0)
    → expected ≡ Some request → IfSome left (λ input. text ≡ input)
    → AppliesLines (lines text) [] cases → IsResponseOf request cases bytes
    → OnOk r (Writes bytes)
    → OnOk r
    (IfSome expected
    (λ a. IfSome left
    (λ input. (response : List ℕ) × IsResponse a input response × Writes response)))
responded None left request text bytes cases r Writes is_requested read applied_lines responds
    written =
    absurd (cc is_requested)
responded (Some a) left request text bytes cases (Err e) Writes is_requested read applied_lines
    responds written =
    tt
responded (Some a) None request text bytes cases (Ok done) Writes is_requested read applied_lines
    responds written =
    tt
responded (Some a) (Some input) request text bytes cases (Ok done) Writes is_requested read
    applied_lines responds written =
    let same : request ≡ a = cc is_requested in (
      bytes,
      (
        cases,
        subst (λ t. AppliesLines (lines t) [] cases) read applied_lines,
        subst (λ q. IsResponseOf q cases bytes) same responds,
      ),
      written,
    )

-- what is requested of the cases of an input fails
pub failed : (expected : Option GalleryRequestView) (left : Option (List ℕ))
    (request : GalleryRequestView) (text : List ℕ) (cases : List Case)
    (error : RunError GalleryError)
    → expected ≡ Some request → IfSome left (λ input. text ≡ input)
    → AppliesLines (lines text) [] cases → IsResponseError request cases error
    → IfSome left (IsGalleryRunError expected error)
failed expected None request text cases error is_requested read applied_lines fails = tt
failed expected (Some input) request text cases (Program (UnknownCase name)) is_requested read
    applied_lines fails = (
      fails.0,
      is_requested
          ∙ ap Some fails.1,
      (cases, subst (λ t. AppliesLines (lines t) [] cases) read applied_lines, fails.2),
    )
failed expected (Some input) request text cases (Program (CannotRender error)) is_requested read
    applied_lines fails =
    tt
failed expected (Some input) request text cases OutOfMemory is_requested read applied_lines
    fails = tt
failed expected (Some input) request text cases WrongArguments is_requested read applied_lines
    fails =
    absurd fails
failed expected (Some input) request text cases CannotReadInput is_requested read applied_lines
    fails =
    absurd fails
failed expected (Some input) request text cases NotUtf8 is_requested read applied_lines fails =
    absurd fails
failed expected (Some input) request text cases (Program (Line number line_error)) is_requested read
    applied_lines fails =
    absurd fails
failed expected (Some input) request text cases CannotWriteOutput is_requested read applied_lines
    fails =
    absurd fails
