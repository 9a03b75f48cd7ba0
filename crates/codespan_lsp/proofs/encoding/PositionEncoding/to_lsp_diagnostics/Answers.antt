use Rattle.std.proofs.Common.{◌≤◌, length, Err, ap, sym, ◌∙◌, arith}
use Rattle.std.proofs.lemmas.Result.{err_from_is_err_and}
use Rattle.codespan_base.specs.Labels.{is_primary_style}
use Rattle.codespan_lsp.specs.LspDiagnostics.{lsp_view, lsp_diagnostic_for, lsp_failure}
use Rattle.codespan_lsp.proofs.LabelLemmas.{passing-more, passing-skip, views-push, views-end}
use Rattle.codespan_lsp.proofs.LabelLemmas.{failure-more, failure-here}
use Rattle.codespan_lsp.proofs.encoding.PositionEncoding.to_lsp_diagnostics.Goals.{then-is_primary+in_ok-lsp_diagnostic+in_ok-push}
use Rattle.codespan_lsp.proofs.encoding.PositionEncoding.to_lsp_diagnostics.Goals.{else-is_primary}
use Rattle.codespan_lsp.proofs.encoding.PositionEncoding.to_lsp_diagnostics.Goals as goal

-- a lookup for the label failed
pub returns-in_err-lsp_diagnostic-clause-failed : goal.returns-in_err-lsp_diagnostic-clause-failed
returns-in_err-lsp_diagnostic-clause-failed g c =
    let p = err_from_is_err_and c.from_residual.result c.from_residual.ensures.1 in
    let database = g.F.Files.database c.args.files.now in
    let x = c.label-item.result in
    let same = c.deref-label-items.ensures.value in
    let inside = c.loop-label-test.true in
    let more = passing-more (λ label. is_primary_style label.style) _ _ x same inside
    c.label-item.is (sym c.is_primary.ensures ∙ c.if-is_primary.true) in
    rw (p.1 ∙ ap Err p.2) (λ memory.
    failure-here (lsp_failure c.args.self database c.args.diagnostic.now) x _ _ _ _
    c.loop-label.invariant.failure more
    (c.in_err-lsp_diagnostic.ensures.failed memory))

pub loop-label-preserved : goal.loop-label-preserved
loop-label-preserved g c =
    let database = g.F.Files.database c.args.files.now in
    let d = c.args.diagnostic.now in
    let x = c.label-item.result in
    let same = c.deref-label-items.ensures.value in
    let inside = c.loop-label-test.true in
    let was = c.loop-label.invariant in
    elim c.if-is_primary.branch [
      | then-is_primary+in_ok-lsp_diagnostic+in_ok-push w ↦
          let more = passing-more (λ label. is_primary_style label.style) _ _ x same inside
          c.label-item.is (sym c.is_primary.ensures ∙ w.if-is_primary.true) in
          record {
            views =
                views-push lsp_view (lsp_diagnostic_for c.args.self database d)
                c.loop-label.found.items
                c.if-is_primary.found.items _ x _ _ _
                (ap (λ v. v.items) w.found-is ∙ w.in_ok-push.ensures.items)
                w.in_ok-lsp_diagnostic.ensures.value more was.views;
            failure =
                failure-more (lsp_failure c.args.self database d) x _ _ _ was.failure more
                w.in_ok-lsp_diagnostic.ensures.failed;
          }
      | else-is_primary w ↦
          let skip = passing-skip (λ label. is_primary_style label.style) _ _ x same inside
          c.label-item.is (sym c.is_primary.ensures ∙ w.if-is_primary.false) in
          record {
            views = rw (w.found-is, ← skip) was.views;
            failure = rw (← skip) was.failure;
          }
    ]

-- no label is left
pub returns-clause-value : goal.returns-clause-value
returns-clause-value g c =
    let past : length c.args.diagnostic.now.labels.items ≤ c.loop-label.label-index =
    omega (arith, c.loop-label-test.false, ap length c.deref-label-items.ensures.value) in
    views-end (λ label. is_primary_style label.style) lsp_view
    (lsp_diagnostic_for c.args.self (g.F.Files.database c.args.files.now) c.args.diagnostic.now)
    c.loop-label.found.items c.args.diagnostic.now.labels.items c.loop-label.label-index _ past
    c.loop-label.invariant.views
