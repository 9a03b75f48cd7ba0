use Rattle.report.proofs.LabelRequestDiagnostics.{stated}
use Rattle.report.specs.Requests.{label_request_view}
use Rattle.report.proofs.diagnostics.diagnostic_of_label_request.Goals as goal

-- an error with one primary label
pub returns : goal.returns
returns c =
    let label = c.in_ok-label.ensures in
    let error = c.in_ok-error.ensures in
    stated (label_request_view c.args.label_request.now) c.with_label.result c.primary.result
    c.in_ok-label.label c.error.result c.in_ok-error.error
    c.primary.ensures.style c.primary.ensures.range label.others label.message
    c.error.ensures.severity c.error.ensures.code c.error.ensures.labels c.error.ensures.notes
    error.others error.message
    c.with_label.ensures.labels c.with_label.ensures.others
