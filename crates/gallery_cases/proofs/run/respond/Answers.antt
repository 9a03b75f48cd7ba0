use Rattle.std.proofs.Common.{◌≡◌, List, [], ℕ, Some, IfSome, map, rules, string_bytes}
use Rattle.std.proofs.Common.{subst, sym}
use Rattle.std.specs.Str.Lines.{lines}
use Rattle.gallery_cases.specs.declared.case.Case.{Case}
use Rattle.gallery_cases.specs.Cases.{AppliesLines}
use Rattle.gallery_cases.specs.Requests.{gallery_request_of, gallery_request_view}
use Rattle.gallery_cases.specs.Responses.{IsResponseOf, IsGalleryRunError, IsResponseError}
use Rattle.gallery_cases.proofs.Outcomes.{responded, requested, failed}
use Rattle.gallery_cases.proofs.run.respond.Given.{Over}
use Rattle.gallery_cases.proofs.run.respond.Goals.{After-as_slice}
use Rattle.gallery_cases.proofs.run.respond.Goals as goal

-- the request is that of the arguments, and the cases are those of the text
found : (g : Over) (c : After-as_slice g)
    → (gallery_request_of (map string_bytes c.args.args.now)
    ≡ Some (gallery_request_view c.in_ok-request.request))
    × AppliesLines (lines (string_bytes c.in_ok-text.text)) [] c.in_ok-cases.cases.items
found g c = (
  requested gallery_request_view c.from_arguments.result _ c.ok_or.result c.in_ok-request.request _
      c.ok_or.ensures.value c.in_ok-request.was c.from_arguments.ensures,
  subst (λ (t : List ℕ). AppliesLines (lines t) _ c.in_ok-cases.cases.items)
      c.as_str.ensures.value
      c.in_ok-cases.ensures.cases,
)

pub returns-in_err-response-clause-reported : goal.returns-in_err-response-clause-reported
returns-in_err-response-clause-reported g c =
    let of_input = found g (goal.at.returns-in_err-response-clause-reported g c).After-as_slice in
    let fails = subst
    (λ (cs : List Case). IsResponseError (gallery_request_view c.in_ok-request.request) cs
    c.in_err-response.field-0.0)
    c.as_slice.ensures.value c.in_err-response.ensures.fails in
    let reported : IfSome (g.R.Read.remaining c.args.stdin.now)
    (IsGalleryRunError (gallery_request_of (map string_bytes c.args.args.now))
    c.in_err-response.field-0.0) =
    failed _ _ _ _ c.in_ok-cases.cases.items _ of_input.0 c.in_ok-text.ensures.bytes of_input.1
    fails in
    search rules

pub returns-clause-rendered : goal.returns-clause-rendered
returns-clause-rendered g c =
    let of_input = found g (goal.at.returns-clause-rendered g c).After-as_slice in
    let of_cases = subst
    (λ (cs : List Case). IsResponseOf (gallery_request_view c.in_ok-request.request) cs
    c.in_ok-response.response.items)
    c.as_slice.ensures.value c.in_ok-response.ensures.responds in
    let responds = subst
    (λ (bytes : List ℕ). IsResponseOf (gallery_request_view c.in_ok-request.request)
    c.in_ok-cases.cases.items bytes)
    (sym c.as_slice-2.ensures.value) of_cases in
    responded _ _ _ _ c.as_slice-2.result.now c.in_ok-cases.cases.items c.write_output.result _
    of_input.0 c.in_ok-text.ensures.bytes of_input.1 responds c.write_output.ensures.written
