use Rattle.codespan_core.proofs.Std.{[], Ok, rules, refl, sym, ◌∙◌}
use Rattle.codespan_core.proofs.Writes.{with_written-nil}
use Rattle.codespan_views.proofs.Outputs.HeaderRuns.{after_primary, after_secondary, all_written}
use Rattle.codespan_views.proofs.Outputs.HeaderRuns.{header_cut, lookup_failed}
use Rattle.codespan_views.proofs.Annotations.IndexedElements.{element-equal}
use Rattle.codespan_views.proofs.Outputs.RendererRuns.{exit_is, same_renderer, same_twice}
use Rattle.codespan_views.proofs.short.render_headers.Goals as goal

pub loop-label-init : goal.loop-label-init
loop-label-init g c = record {
  same = same_renderer;
  written = record {
    loci = [];
    are = tt;
    wrote = (refl, λ known. sym (with_written-nil _));
    succeeded = refl;
    some = refl;
  };
}

pub returns-in_err-locus-clause-renders : goal.returns-in_err-locus-clause-renders
returns-in_err-locus-clause-renders g c =
    rw (exit_is _ c.from_residual.ensures.1)
    (lookup_failed
    (element-equal c.deref-label-items.ensures.value c.loop-label-test.true c.label-item.is)
    c.loop-label.invariant.written (sym c.is_primary.ensures ∙ c.if-is_primary.true)
    c.in_err-locus.ensures.failed)

pub returns-in_err-render_diagnostic_header-clause-renders :
    goal.returns-in_err-render_diagnostic_header-clause-renders
returns-in_err-render_diagnostic_header-clause-renders g c =
    let header = c.in_err-render_diagnostic_header.ensures in
    rw (exit_is _ c.from_residual-in_err-render_diagnostic_header.ensures.1)
    (header_cut
    (element-equal c.deref-label-items.ensures.value c.loop-label-test.true c.label-item.is)
    c.loop-label.invariant.written (sym c.is_primary.ensures ∙ c.if-is_primary.true)
    c.in_ok-locus.ensures.locus header.io header.writes)

pub loop-label-preserved : goal.loop-label-preserved
loop-label-preserved g c =
    let at =
    element-equal c.deref-label-items.ensures.value c.loop-label-test.true c.label-item.is in
    let was = c.loop-label.invariant in
    elim c.if-is_primary.branch [
      | goal.then-is_primary+in_ok-locus+in_ok-render_diagnostic_header w ↦
          let header = w.in_ok-render_diagnostic_header.ensures in
          rw (w.renderer-is, w.has_primary-is) (record {
            same = same_twice was.same header.same;
            written = after_primary at was.written
                (sym c.is_primary.ensures ∙ w.if-is_primary.true) w.in_ok-locus.ensures.locus
                w.in_ok-locus.ensures.failed header.writes;
          })
      | goal.else-is_primary w ↦ rw (w.renderer-is, w.has_primary-is) (record {
        same = was.same;
        written = after_secondary at was.written
            (sym c.is_primary.ensures ∙ w.if-is_primary.false);
      })
    ]

pub returns-then-has_primary-clause-renders : goal.returns-then-has_primary-clause-renders
returns-then-has_primary-clause-renders g c =
    all_written (Ok tt) (search rules) c.loop-label.invariant.written
    (rw c.if-has_primary.true (refl, λ known. sym (with_written-nil _))) tt

pub returns-clause-renders : goal.returns-clause-renders
returns-clause-renders g c =
    let header = c.render_diagnostic_header-2.ensures in
    all_written c.render_diagnostic_header-2.result (search rules) c.loop-label.invariant.written
    (rw c.if-has_primary.false header.writes) header.io
