use Rattle.codespan_core.proofs.Std.{rules, List, ◌≡◌, ◌+◌, ◌<◌, ◌≤◌, ◌∷◌}
use Rattle.codespan_core.proofs.Std.{◌++◌, None, length, refl, ap, subst, ◌∙◌, arith}
use Rattle.codespan_core.proofs.Std.{err_from_is_err_and, IsUtf8-had}
use Rattle.std.proofs.Common.{Fits}
use Rattle.codespan_output.specs.{max_label_end, style_under, style_change, SingleLabelTuple}
use Rattle.codespan_output.specs.{single_label_views}
use Rattle.codespan_output.specs.Private.{context_view, caret_run, CharInput, AreContiguous}
use mir.Syntax.{w128}
use Rattle.codespan_core.proofs.Loops.{StillToWrite-start, StillToWrite-more, StillToWrite-failed}
use Rattle.codespan_core.proofs.Loops.{StillToWrite-last}
use Rattle.codespan_output.proofs.Carets.Runs.{caret_count, carets_left, carets-same, carets-turn}
use Rattle.codespan_output.proofs.Carets.Runs.{carets-end, carets-past, counts-all}
use Rattle.codespan_output.proofs.Characters.ScanState.{ScanState, consecutive_within-follow}
use Rattle.codespan_output.proofs.Characters.ScanState.{scan_state-fits, scan_state-to_end}
use Rattle.codespan_output.proofs.Characters.ScanState.{scan_state-more}
use Rattle.codespan_output.proofs.Carets.SkippedCells.{carets-prefix, scan_state-left}
use Rattle.codespan_output.proofs.rows.carets.write_carets.Goals.{then-ne+in_ok-end_caret_run}
use Rattle.codespan_output.proofs.rows.carets.write_carets.Goals.{else-ne, in_default}
use Rattle.codespan_output.proofs.rows.carets.write_carets.Goals.{in-Some+then-metrics-end}
use Rattle.codespan_output.proofs.rows.carets.write_carets.Given.{Over}
use Rattle.codespan_output.proofs.rows.carets.write_carets.Goals as goal

pub loop-metrics-init : goal.loop-metrics-init
loop-metrics-init g c =
    let tab = ap (λ (x : CharInput). x.tab_width) c.args.rows.now.input in
    let text = ap (λ (x : CharInput). x.text) c.args.rows.now.input in
    let labels = single_label_views c.args.rows.now.line.labels.now in
    let given = ap (λ (x : CharInput). x.labels) c.args.rows.now.input in
    let out = rw (tab, text, given, c.max_label_end-end.ensures) at
    c.characters_from_labels-run.ensures.remaining in
    let all = scan_state-to_end c.args.rows.now.context.tab_width c.args.rows.now.line.text.now
    (IsUtf8-had _ c.args.rows.now.line.utf8) in
    record {
      written_so_far =
          StillToWrite-start _ _ _
          (carets-prefix (context_view c.args.rows.now.context) labels _ _ _ _ all out);
      scan_state =
          scan_state-left c.args.rows.now.context.tab_width c.args.rows.now.line.text.now _ _ _ _
          (omega arith) all
          out;
      same = c.characters_from_labels-run.ensures.labels ∙ given;
    }

-- a turn counts on from the run or begins another one
few : (g : Over) (c : goal.After-row_known-1 g) → c.if-ne.run ≤ c.loop-metrics.run
few g c =
    elim c.if-ne.branch [
      | then-ne+in_ok-end_caret_run w ↦ omega (arith, w.run-is)
      | else-ne w ↦ omega (
        arith,
        w.run-is,
      )
    ]

-- all its cells are counted, since it begins before the greatest end
counted : (g : Over) (c : goal.After-row_known-1 g)
    → c.in-Some.metrics.unicode_width ≡ caret_count
    (max_label_end (single_label_views c.args.rows.now.line.labels.now)) c.style_under-style.result
    c.in-Some.metrics
counted g c =
    counts-all c.style_under-style.result _ c.in-Some.metrics
    (subst (λ end. c.in-Some.metrics.byte_index < end) c.max_label_end-end.ensures
    c.if-metrics-end.false)

pub overflow_add-run : goal.overflow_add-run
overflow_add-run g c =
    let l : ScanState (length c.args.rows.now.line.text.now + 1) c.loop-metrics.run
    (c.in-Some.metrics ∷ g.S.Cursor.CharCursor.remaining c.next_metrics.new.self) =
    rw c.in-Some.ensures.next at c.loop-metrics.invariant.scan_state in
    let fits = scan_state-fits _ _ c.in-Some.metrics _ (omega arith) (omega arith) l in
    let sum : Fits w128 (c.if-ne.run + c.in-Some.metrics.unicode_width) = omega (arith, few g c) in
    sum

pub returns-in_err-end_caret_run : goal.returns-in_err-end_caret_run
returns-in_err-end_caret_run g c =
    let p = err_from_is_err_and c.from_residual.result c.from_residual.ensures.1 in
    rw p.1
    (StillToWrite-failed _ _ _ _ _ _ _ c.loop-metrics.invariant.written_so_far
    c.in_err-end_caret_run.ensures
    (carets-turn (context_view c.args.rows.now.context)
    (single_label_views c.args.rows.now.line.labels.now) _ _ _ _
    c.in-Some.metrics _ (g.S.Cursor.CharCursor.remaining c.next_metrics.new.self)
    c.in-Some.ensures.next
    (c.style_under-style.ensures.style
    ∙ ap (λ (xs : List SingleLabelTuple). style_under (single_label_views xs) c.in-Some.metrics)
    (c.in-Some.ensures.labels ∙ c.loop-metrics.invariant.same))
    refl))

pub loop-metrics-preserved : goal.loop-metrics-preserved
loop-metrics-preserved g c =
    let l : ScanState (length c.args.rows.now.line.text.now + 1) c.loop-metrics.run
    (c.in-Some.metrics ∷ g.S.Cursor.CharCursor.remaining c.next_metrics.new.self) =
    rw c.in-Some.ensures.next at c.loop-metrics.invariant.scan_state in
    let context = context_view c.args.rows.now.context in
    let labels = single_label_views c.args.rows.now.line.labels.now in
    let count = counted g c in
    let sum = overflow_add-run g c in
    let style = c.style_under-style.ensures.style
    ∙ ap (λ (xs : List SingleLabelTuple). style_under (single_label_views xs) c.in-Some.metrics)
    (c.in-Some.ensures.labels ∙ c.loop-metrics.invariant.same) in
    rw c.style_under-style.ensures.remaining record {
      written_so_far = elim c.if-ne.branch [
        | then-ne+in_ok-end_caret_run w ↦ rw (w.w-is, w.previous-is, w.run-is)
            (StillToWrite-more _ _ _ _ _ _ _ c.loop-metrics.invariant.written_so_far
            w.in_ok-end_caret_run.ensures
            (carets-turn context labels c.loop-metrics.previous c.style_under-style.result
            c.loop-metrics.run c.in-Some.metrics.unicode_width c.in-Some.metrics _
            (g.S.Cursor.CharCursor.remaining c.next_metrics.new.self) c.in-Some.ensures.next style
            count))
        | else-ne w ↦
            let same : c.loop-metrics.previous ≡ c.style_under-style.result = search rules in
            let rest = carets-same context labels c.loop-metrics.previous c.style_under-style.result
            c.loop-metrics.run c.in-Some.metrics.unicode_width c.in-Some.metrics _
            (g.S.Cursor.CharCursor.remaining c.next_metrics.new.self) c.in-Some.ensures.next style
            count same in
            rw (w.w-is, w.previous-is ∙ same, w.run-is)
            (rw rest at c.loop-metrics.invariant.written_so_far)
      ];
      scan_state = scan_state-more _ _ _ _ _ (omega arith) (omega (arith, few g c)) l;
      same =
          c.style_under-style.ensures.labels ∙ c.in-Some.ensures.labels
          ∙ c.loop-metrics.invariant.same;
    }

pub returns : goal.returns
returns g c =
    let at = c.loop-metrics in
    let context = context_view c.args.rows.now.context in
    let labels = single_label_views c.args.rows.now.line.labels.now in
    let end : caret_run context.chars at.previous at.run ++ style_change context.severity
    at.previous None
    ≡ carets_left context labels at.previous at.run (g.S.Cursor.CharCursor.remaining at.cursor) =
    elim c.match-next_metrics.branch [
      | in_default w ↦ carets-end context labels at.previous at.run _ w.in_default.ensures.next.0
      | in-Some+then-metrics-end w ↦
          let scan_state = at.invariant.scan_state in
          let follow = consecutive_within-follow _ scan_state.byte_index scan_state.column _
          scan_state.consecutive_within in
          let here : AreContiguous scan_state.byte_index
          (w.in-Some.metrics ∷ g.S.Cursor.CharCursor.remaining c.next_metrics.new.self) =
          rw w.in-Some.ensures.next at follow in
          carets-past context labels at.previous at.run scan_state.byte_index
          (g.S.Cursor.CharCursor.remaining at.cursor) follow
          (omega (arith, here.0, w.if-metrics-end.true, c.max_label_end-end.ensures))
    ] in
    StillToWrite-last _ _ _ _ _ _ at.invariant.written_so_far (rw end at c.end_caret_run-2.ensures)
