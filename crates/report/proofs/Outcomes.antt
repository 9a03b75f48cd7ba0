-- For the clauses of `run::conclude` and `run::run`: what the outcome of a run says.
use Rattle.codespan_core.proofs.Std.{◌≤◌, IfErr, OnOk, Result, ap, ◌≡◌, ◌≢◌}
use Rattle.codespan_core.proofs.Std.{◌⊎◌, inl, inr, ℕ, List, Option, Some, None, Ok, Err}
use Rattle.codespan_core.proofs.Std.{IfSome, IsErrOf, subst, arith, codes, string_bytes, IsUtf8}
use Rattle.program_io.specs.declared.run_error.RunError.{RunError}
use Rattle.program_io.specs.declared.run_error.RunError.TheVariants.{WrongArguments}
use Rattle.program_io.specs.declared.run_error.RunError.TheVariants.{CannotWriteOutput, Program}
use Rattle.program_io.specs.Output.{AppendsPrefix}
use Rattle.program_io.specs.RunErrors.{failed_output_line}
use Rattle.report.specs.declared.report_error.ReportError.{ReportError}
use Rattle.report.specs.declared.report_error.ReportError.TheVariants.{BadScript}
use Rattle.report.specs.RenderedTexts.{rendering_of}
use Rattle.report.specs.ReportErrors.{IsRunError, IfBadScript, IsReportStatusOf}
use Rattle.report.specs.ReportErrors.{UnchangedUnlessRendered}
use Rattle.report.specs.Requests.{RequestView, WhereKnown, request_of}
use Rattle.program_io.proofs.Outcomes as general

-- the outcome of a run
abbrev Outcome : Type 0
Outcome = Result (Unit {0}) (RunError ReportError)

-- the status is one of four
pub status_at_most : (outcome : Outcome) (status : ℕ) → IsReportStatusOf outcome status
    → status ≤ 3
status_at_most outcome status is =
    elim is [
      | inl other
          ↦ (let most = general.status_at_most outcome status other in omega (arith, most))
      | inr bad ↦ (let three = bad.0 in omega (arith, three))
    ]

-- the status 2 is that of wrong arguments
pub wrong_by_status : (outcome : Outcome) (status : ℕ) → IsReportStatusOf outcome status
    → status ≡ 2 → IsErrOf outcome WrongArguments
wrong_by_status outcome status is two =
    elim is [
      | inl other ↦ general.wrong_by_status outcome status other two
      | inr bad ↦ (let three = bad.0 in absurd (omega (arith, three, two)))
    ]

-- wrong arguments have the status 2
pub status_of_wrong : (outcome : Outcome) (status : ℕ) → IsReportStatusOf outcome status
    → IsErrOf outcome WrongArguments → status ≡ 2
status_of_wrong outcome status is wrong =
    elim is [
      | inl other ↦ general.status_of_wrong outcome status other wrong
      | inr bad ↦ (let script = bad.1.1 in absurd (cc (script, wrong)))
    ]

-- the status 0 is that of success
pub success_by_status : (outcome : Outcome) (status : ℕ) {X : Type 0}
    → IsReportStatusOf outcome status → status ≡ 0 → OnOk outcome X → X
success_by_status outcome status is zero contents =
    elim is [
      | inl other ↦ general.success_by_status outcome status other zero contents
      | inr bad ↦ (let three = bad.0 in absurd (omega (arith, three, zero)))
    ]

-- the error of a script has the status 3 or 1, and any other but wrong arguments 1
status_of_error : (error : RunError ReportError) (status : ℕ)
    → IsReportStatusOf (Err error) status
    → error ≢ WrongArguments → (status ≡ 3) ⊎ (status ≡ 1)
status_of_error error status is right =
    elim is
    [ inl other ↦ inr (general.status_of_error error status other right) | inr bad ↦ inl bad.0 ]

-- what follows from a fact of two known values
known_weaker : {A B : Type 0} (a : Option A) (b : Option B) (P Q : A → B → Type 0)
    → ((x : A) (y : B) → P x y → Q x y)
    → IfSome a (λ x. IfSome b (P x)) → IfSome a (λ x. IfSome b (Q x))
known_weaker None b P Q follows known = tt
known_weaker (Some x) None P Q follows known = tt
known_weaker (Some x) (Some y) P Q follows known = follows x y known

-- the same of a fact that always holds
is_unchanged : {A B : Type 0} (a : Option A) (b : Option B) (X : Type 0) (Y : A → B → Type 0)
    → X
    → IfSome a (λ x. IfSome b (λ y. X ⊎ Y x y))
is_unchanged None b X Y contents = tt
is_unchanged (Some x) None X Y contents = tt
is_unchanged (Some x) (Some y) X Y contents = inl contents

-- where the input is not UTF-8 the output is unchanged
pub unchanged_at_not_utf8 : (args : List (List ℕ)) (bytes : Option (List ℕ)) (X : Type 0)
    (outcome : Outcome)
    → OnOk outcome (WhereKnown args bytes (λ _ input. IsUtf8 input))
    → IfErr outcome (λ error. WhereKnown args bytes (IsRunError error))
    → IfErr outcome (λ error. error ≢ CannotWriteOutput → X)
    → WhereKnown args bytes (λ _ input. ¬ (IsUtf8 input) → X)
unchanged_at_not_utf8 args bytes X (Ok done) utf8 reported unchanged =
    known_weaker (request_of args) bytes (λ _ input. IsUtf8 input)
    (λ _ input. ¬ (IsUtf8 input) → X)
    (λ request input is other. absurd (other is)) utf8
unchanged_at_not_utf8 args bytes X (Err error) utf8 reported unchanged =
    known_weaker (request_of args) bytes (IsRunError error)
    (λ _ input. ¬ (IsUtf8 input) → X)
    (λ request input are_known other. unchanged
    (λ output. let wrote : IsRunError CannotWriteOutput request input =
    subst (λ (f : RunError ReportError). IsRunError f request input) output
    are_known in other wrote.0))
    reported

-- the script's error that was written is that of the request
pub reported_at_bad_script : (args : List (List ℕ)) (bytes : Option (List ℕ))
    (outcome : Outcome)
    (status : ℕ) (Reported : List ℕ → Type 0)
    → IsReportStatusOf outcome status → status ≡ 3
    → IfErr outcome (λ error. WhereKnown args bytes (IsRunError error))
    → IfErr outcome (λ error. IfBadScript error (λ text. Reported (string_bytes text)))
    → WhereKnown args bytes
    (λ request input. (text : List ℕ) × (rendering_of request input ≡ Err text)
    × Reported text)
reported_at_bad_script args bytes outcome status Reported is three are_known reported = elim is [
  | inl other ↦ (let most =
      general.status_at_most outcome status other in absurd (omega (arith, most, three)))
  | inr bad ↦
      let text = bad.1.0 in
      let means = subst
      (λ (r : Outcome). IfErr r (λ error. WhereKnown args bytes (IsRunError error)))
      bad.1.1 are_known in
      let received = subst
      (λ (r : Outcome). IfErr r
      (λ error. IfBadScript error (λ text. Reported (string_bytes text))))
      bad.1.1 reported in
      known_weaker (request_of args) bytes (IsRunError (Program (BadScript text)))
      (λ request input. (p : List ℕ) × (rendering_of request input ≡ Err p) × Reported p)
      (λ request input same. (string_bytes text, same, received)) means
]

-- no rendering is both an output and the diagnostic of a script's error
not_both : (rendering : Result (List ℕ) (List ℕ)) (good bad : List ℕ)
    → rendering ≡ Ok good
    → rendering ≡ Err bad → ⊥
not_both rendering good bad is other = cc (is, other)

-- the status and the output of a run with an error, where the script has one
bad_script_error : (error : RunError ReportError) (status : ℕ) (X : Type 0)
    (request : RequestView)
    (input text : List ℕ)
    → IsReportStatusOf (Err error) status → IsRunError error request input
    → (error ≢ CannotWriteOutput → X) → rendering_of request input ≡ Err text
    → ((status ≡ 3) ⊎ (status ≡ 1)) × X
bad_script_error error status X request input text is are_known unchanged bad =
    let means = λ (other : RunError ReportError) (same : error ≡ other). subst
    (λ (f : RunError ReportError). IsRunError f request input) same are_known in
    elim (general.failed_output_or_other error) [
      | inl output ↦ (let wrote =
          means CannotWriteOutput output in absurd
          (not_both (rendering_of request input) wrote.1.0 text wrote.1.1 bad))
      | inr other ↦ (
        status_of_error error status is (λ wrong. means WrongArguments wrong),
        unchanged other,
      )
    ]

-- where the script has an error, that is written or not, and the output is unchanged
pub bad_script_status : (args : List (List ℕ)) (bytes : Option (List ℕ)) (outcome : Outcome)
    (status : ℕ) (X : Type 0) (Wrote : List ℕ → Type 0)
    → IsReportStatusOf outcome status
    → OnOk outcome
    (WhereKnown args bytes
    (λ request input. (text : List ℕ) × (rendering_of request input ≡ Ok text) × Wrote text))
    → IfErr outcome (λ error. WhereKnown args bytes (IsRunError error))
    → IfErr outcome (λ error. error ≢ CannotWriteOutput → X)
    → WhereKnown args bytes
    (λ request input. (text : List ℕ) → rendering_of request input
    ≡ Err text → ((status ≡ 3) ⊎ (status ≡ 1)) × X)
bad_script_status args bytes (Ok done) status X Wrote is rendered are_known unchanged =
    known_weaker (request_of args) bytes
    (λ request input. (text : List ℕ) × (rendering_of request input ≡ Ok text) × Wrote text)
    (λ request input. (text : List ℕ) → rendering_of request input
    ≡ Err text → ((status ≡ 3) ⊎ (status ≡ 1)) × X)
    (λ request input good text bad. absurd
    (not_both (rendering_of request input) good.0 text good.1 bad))
    rendered
bad_script_status args bytes (Err error) status X Wrote is rendered are_known unchanged =
    known_weaker (request_of args) bytes (IsRunError error)
    (λ request input. (text : List ℕ) → rendering_of request input
    ≡ Err text → ((status ≡ 3) ⊎ (status ≡ 1)) × X)
    (λ request input reported text bad. bad_script_error error status X request input text is
    reported unchanged bad)
    are_known

-- the status of a failed output
status_of_failed_output : (error : RunError ReportError) (status : ℕ)
    → IsReportStatusOf (Err error) status → error ≡ CannotWriteOutput → status ≡ 1
status_of_failed_output error status is output =
    elim is [
      | inl other ↦ general.status_of_error error status other (λ wrong. cc (wrong, output))
      | inr bad ↦ (let script = bad.1.1 in absurd (cc (script, output)))
    ]

-- the output is unchanged, or all of it was rendered
pub unchanged_unless_rendered : (outcome : Outcome) (status : ℕ) (X : Type 0)
    (old new : Option (List ℕ))
    → IsReportStatusOf outcome status
    → (IsErrOf outcome CannotWriteOutput
    → AppendsPrefix old new (failed_output_line (codes "report")))
    → IfErr outcome (λ error. error ≢ CannotWriteOutput → X)
    → UnchangedUnlessRendered X status old new
unchanged_unless_rendered (Ok done) status X old new is line unchanged =
    inr (inl
    (elim is [ inl zero ↦ zero | inr bad ↦ (let script = bad.1.1 in absurd (cc script)) ]))
unchanged_unless_rendered (Err error) status X old new is line unchanged =
    elim (general.failed_output_or_other error) [
      | inl output ↦ inr
          (inr (status_of_failed_output error status is output, line (ap Err output)))
      | inr other ↦ inl (unchanged other)
    ]

-- where the output changes, it has received a prefix of what was rendered
pub prefix_written : (args : List (List ℕ)) (bytes : Option (List ℕ)) (outcome : Outcome)
    (status : ℕ) (X : Type 0) (Wrote : RequestView → List ℕ → Type 0)
    → IsReportStatusOf outcome status → status ≡ 1
    → (IsErrOf outcome CannotWriteOutput → WhereKnown args bytes Wrote)
    → IfErr outcome (λ error. error ≢ CannotWriteOutput → X)
    → WhereKnown args bytes (λ request input. X ⊎ Wrote request input)
prefix_written args bytes (Ok done) status X Wrote is one wrote unchanged =
    absurd
    (elim is
    [ inl zero ↦ omega (arith, zero, one) | inr bad ↦ (let script = bad.1.1 in cc script) ])
prefix_written args bytes (Err error) status X Wrote is one wrote unchanged =
    elim (general.failed_output_or_other error) [
      | inl output ↦ known_weaker (request_of args) bytes Wrote
          (λ request input. X ⊎ Wrote request input) (λ request input appended. inr appended)
          (wrote (ap Err output))
      | inr other ↦ is_unchanged (request_of args) bytes X Wrote (unchanged other)
    ]
