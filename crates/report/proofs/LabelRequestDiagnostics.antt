-- For the clause of `diagnostics::diagnostic_of_label_request`: the diagnostic of a label request,
-- as its fields are set.
use Rattle.codespan_core.proofs.Std.{◌≡◌, [], ◌∷◌, ◌++◌, ap, ◌∙◌, refl}
use Rattle.codespan_core.proofs.Std.{string_bytes, None, Result, Ok, Err, IfOk}
use Rattle.codespan_core.specs.Diagnostics.{diagnostic_view}
use Rattle.codespan_output.specs.Types.{Diagnostic, Label, Primary}
use Rattle.report.specs.ReportDiagnostics.{label_request_diagnostic}
use Rattle.report.specs.Requests.{LabelRequestView}
use Rattle.codespan_core.specs.declared.diagnostic.Severity.TheVariants as severities

-- the label is new but for its message, and the diagnostic for its message and its label
pub stated : {E : Type 0} (label_request : LabelRequestView) (r : Result (Diagnostic (Unit {0})) E)
    (new_label label : Label (Unit {0})) (new error : Diagnostic (Unit {0}))
    → new_label.style ≡ Primary
    → new_label.range ≡ record { start = label_request.start; end = label_request.end }
    → label ≡ record new_label { message = label.message }
    → string_bytes label.message ≡ label_request.message
    → new.severity ≡ severities.Error → new.code ≡ None → new.labels.items ≡ []
    → new.notes.items ≡ [] → error ≡ record new { message = error.message }
    → string_bytes error.message ≡ label_request.message
    → IfOk r (λ d. d.labels.items ≡ error.labels.items ++ label ∷ [])
    → IfOk r (λ d. d ≡ record error { labels = d.labels })
    → IfOk r (λ d. diagnostic_view d ≡ label_request_diagnostic label_request)
stated label_request (Err e) new_label label new error style range label_is label_message severity
    code labels notes error_is message added others =
    tt
stated label_request (Ok d) new_label label new error style range label_is label_message severity
    code labels notes error_is message added others =
    let severity_of : d.severity ≡ severities.Error =
    ap (λ x. x.severity) others ∙ ap (λ x. x.severity) error_is ∙ severity in
    let code_of : d.code ≡ None = ap (λ x. x.code) others ∙ ap (λ x. x.code) error_is
    ∙ code in
    let message_of : string_bytes d.message ≡ label_request.message =
    ap (λ x. string_bytes x.message) others ∙ message in
    let labels_of : d.labels.items ≡ label ∷ [] =
    added ∙ ap (λ ls. ls ++ label ∷ []) (ap (λ x. x.labels.items) error_is ∙ labels) in
    let notes_of : d.notes.items ≡ [] =
    ap (λ x. x.notes.items) others ∙ ap (λ x. x.notes.items) error_is ∙ notes in
    let style_of : label.style ≡ Primary = ap (λ x. x.style) label_is ∙ style in
    let range_of : label.range ≡ record { start = label_request.start; end = label_request.end } =
    ap (λ x. x.range) label_is ∙ range in
    rw (severity_of, code_of, message_of, labels_of, notes_of, style_of, range_of, label_message)
    refl
