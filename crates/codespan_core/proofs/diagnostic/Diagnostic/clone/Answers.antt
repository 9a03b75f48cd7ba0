use Rattle.codespan_core.proofs.Std.{◌≡◌, ℕ, List, Option, rules, refl}
use Rattle.codespan_core.specs.declared.diagnostic.Severity.{Severity}
use Rattle.codespan_core.specs.{DiagnosticView, LabelView}
use Rattle.codespan_core.proofs.diagnostic.Diagnostic.clone.Goals as goal

-- views with equal fields are equal
equal_fields : {F : Type 0} {s t : Severity} {o p : Option (List ℕ)} {m k : List ℕ}
    {a b : List (LabelView F)} {x y : List (List ℕ)}
    → s ≡ t → o ≡ p → m ≡ k → a ≡ b → x ≡ y
    → ◌≡◌ {A = DiagnosticView F}
    (record { severity = s; code = o; message = m; labels = a; notes = x })
    (record { severity = t; code = p; message = k; labels = b; notes = y })
equal_fields severity code message labels notes = rw (severity, code, message, labels, notes) refl

-- each field is copied
pub returns-clause-same : goal.returns-clause-same
returns-clause-same g c =
    equal_fields refl (search rules depth 2 fits 100) c.in_ok-clone.ensures.cases
    (search rules depth 2 fits 100) c.in_ok-clone_notes.ensures.same
