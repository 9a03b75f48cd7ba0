use Rattle.std.proofs.Common.{◌≡◌, ℕ, List, Option, Result, Ok, Err, IfOk, MatchResult, Vec}
use Rattle.std.proofs.Common.{Global, string_bytes, subst, sym}
use Rattle.std.specs.Prelude.{IsOkAnd, IsSomeAnd}
use Rattle.gallery_cases.specs.declared.case.Case.{Case}
use Rattle.gallery_cases.specs.Cases.{case_named}
use Rattle.gallery_cases.specs.Documents.{IsDocument}
use Rattle.gallery_cases.proofs.run.response.Goals as goal

-- all cases
pub returns-in_ok-render_cases-in-All-clause-responds
    : goal.returns-in_ok-render_cases-in-All-clause-responds
returns-in_ok-render_cases-in-All-clause-responds c =
    rw c.in-All.is c.in_ok-render_cases-in-All.ensures

-- what holds of the bytes of a text holds of the same bytes
same_bytes : {T B E F : Type 0} (text : T → List ℕ) (items : B → List ℕ) (r : Result T E)
    (b : Result B F) (Wrong : F → Type 0) (Is : List ℕ → Type 0)
    → IfOk r (λ t. Is (text t))
    → MatchResult b (λ x. IsOkAnd r (λ t. items x ≡ text t)) Wrong
    → IfOk b (λ x. Is (items x))
same_bytes text items r (Err error) Wrong Is is same = tt
same_bytes text items (Ok t) (Ok x) Wrong Is is same = subst Is (sym same) is
same_bytes text items (Err error) (Ok x) Wrong Is is same = absurd same

-- a document
pub returns-in-Some-clause-responds : goal.returns-in-Some-clause-responds
returns-in-Some-clause-responds c =
    let found = rw c.in-Some.is at c.case_named.ensures in
    let shows = λ (bytes : List ℕ). IsSomeAnd
    (case_named c.in-Document.name.now c.args.cases.now)
    (λ case. IsDocument c.in-Document.format case bytes) in
    let is = subst
    (λ (found : Option Case). IfOk c.document.result
    (λ document. IsSomeAnd found
    (λ case. IsDocument c.in-Document.format case (string_bytes document))))
    found c.document.ensures in
    rw c.in-Document.is
    (same_bytes string_bytes (λ (bytes : Vec ℕ Global). bytes.items) c.document.result
    c.bytes_of-in-Document.result _ shows is c.bytes_of-in-Document.ensures)
