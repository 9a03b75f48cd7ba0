use Rattle.std.proofs.Common.{◌≡◌, ◌≤◌, length, Err, ap, sym, ◌∙◌, refl, arith}
use Rattle.std.proofs.Common.{rules, string_bytes}
use Rattle.std.specs.Prelude.{not}
use Rattle.std.proofs.lemmas.Result.{err_from_is_err_and}
use Rattle.codespan_base.specs.Labels.{is_primary_style}
use Rattle.codespan_lsp.specs.LspDiagnostics.{related_view, related_information_for}
use Rattle.codespan_lsp.specs.LspDiagnostics.{label_range_failure}
use Rattle.codespan_lsp.specs.declared.diagnostics.RelatedInformation.{RelatedInformation}
use Rattle.codespan_lsp.proofs.LabelLemmas.{passing-more, passing-skip, views-push, views-end}
use Rattle.codespan_lsp.proofs.LabelLemmas.{failure-more, failure-here, related-same}
use Rattle.codespan_lsp.proofs.encoding.PositionEncoding.related_information.Goals.{then-not-is_primary+in_ok-range+in_ok-message+in_ok-push}
use Rattle.codespan_lsp.proofs.encoding.PositionEncoding.related_information.Goals.{else-not-is_primary}
use Rattle.codespan_lsp.proofs.encoding.PositionEncoding.related_information.Goals as goal

-- the lookup of the label's range failed
pub returns-in_err-range-clause-failed : goal.returns-in_err-range-clause-failed
returns-in_err-range-clause-failed g c =
    let p = err_from_is_err_and c.from_residual.result c.from_residual.ensures.1 in
    let database = g.F.Files.database c.args.files.now in
    let x = c.label-item.result in
    let same = c.deref-label-items.ensures.value in
    let inside = c.loop-label-test.true in
    let more = passing-more (λ label. not (is_primary_style label.style)) _ _ x same inside
    c.label-item.is (ap not (sym c.is_primary.ensures ∙ c.if-not-is_primary.true)) in
    rw (p.1 ∙ ap Err p.2) (λ memory.
    failure-here (label_range_failure c.args.self database) x _ _ _ _ c.loop-label.invariant.failure
    more (c.in_err-range.ensures.failed memory))

pub loop-label-preserved : goal.loop-label-preserved
loop-label-preserved g c =
    let database = g.F.Files.database c.args.files.now in
    let x = c.label-item.result in
    let same = c.deref-label-items.ensures.value in
    let inside = c.loop-label-test.true in
    let was = c.loop-label.invariant in
    elim c.if-not-is_primary.branch [
      | then-not-is_primary+in_ok-range+in_ok-message+in_ok-push w ↦
          let more = passing-more (λ label. not (is_primary_style label.style)) _ _ x same inside
          c.label-item.is (ap not (sym c.is_primary.ensures ∙ w.if-not-is_primary.true)) in
          let y : RelatedInformation g.row.F-FileId.Denot = record {
            file_id =
                x.file_id;
            range = w.in_ok-range.range;
            message = w.in_ok-message.message;
          } in
          let message : string_bytes w.in_ok-message.message ≡ string_bytes x.message =
          first_of (cc, search rules) in
          record {
            views =
                views-push related_view (related_information_for c.args.self database)
                c.loop-label.related.items c.if-not-is_primary.related.items y x _ _ _
                (ap (λ v. v.items) w.related-is ∙ w.in_ok-push.ensures.items)
                (related-same c.args.self database x y refl w.in_ok-range.ensures.value message)
                more was.views;
            failure =
                failure-more (label_range_failure c.args.self database) x _ _ _ was.failure more
                w.in_ok-range.ensures.failed;
          }
      | else-not-is_primary w ↦
          let skip = passing-skip (λ label. not (is_primary_style label.style)) _ _ x same inside
          c.label-item.is (ap not (sym c.is_primary.ensures ∙ w.if-not-is_primary.false)) in
          record {
            views = rw (w.related-is, ← skip) was.views;
            failure = rw (← skip) was.failure;
          }
    ]

-- no label is left
pub returns-clause-value : goal.returns-clause-value
returns-clause-value g c =
    let past : length c.args.labels.now.items ≤ c.loop-label.label-index =
    omega (arith, c.loop-label-test.false, ap length c.deref-label-items.ensures.value) in
    views-end (λ label. not (is_primary_style label.style)) related_view
    (related_information_for c.args.self (g.F.Files.database c.args.files.now))
    c.loop-label.related.items c.args.labels.now.items c.loop-label.label-index _ past
    c.loop-label.invariant.views
