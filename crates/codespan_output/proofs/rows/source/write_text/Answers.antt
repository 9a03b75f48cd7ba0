use Rattle.codespan_core.proofs.Std.{rules, None, drop, ◌≡◌, ◌+◌, ◌-◌, ◌++◌, ap}
use Rattle.codespan_core.proofs.Std.{sym, ◌∙◌, arith, encode_utf8, err_from_is_err_and}
use Rattle.codespan_core.proofs.Std.{IsUtf8-had, length-encode, len_utf8_bounds}
use Rattle.codespan_core.specs.Streams.{byte_stream}
use Rattle.codespan_output.specs.Private.{CharInput, metrics_of, context_view, line_view}
use Rattle.codespan_output.specs.{style_change}
use Rattle.codespan_core.proofs.Chains.{failed-before, failed-then, written-then}
use Rattle.codespan_core.proofs.Loops.{StillToWrite-start, StillToWrite-more, StillToWrite-failed}
use Rattle.codespan_core.proofs.Loops.{StillToWrite-last}
use Rattle.codespan_output.proofs.Characters.TextRuns.{over-start, over-next, piece, piece-grows}
use Rattle.codespan_output.proofs.Characters.TextRuns.{text-start, text-turn, text-same, text-tab}
use Rattle.codespan_output.proofs.Characters.TextRuns.{text_rest}
use Rattle.codespan_output.proofs.Characters.PlainText.{tail-taken, text-over, text-past}
use Rattle.codespan_output.proofs.Characters.PlainText.{text-plain}
use Rattle.codespan_output.proofs.rows.source.write_text.Given.{Over}
use Rattle.codespan_output.proofs.rows.source.write_text.Goals.{After-end_text_run-2}
use Rattle.codespan_output.proofs.rows.source.write_text.Goals.{in-Some+then-end-plain, in_default}
use Rattle.codespan_output.proofs.rows.source.write_text.Goals as goal

pub loop-metrics-init : goal.loop-metrics-init
loop-metrics-init g c = rw (c.characters-cursor.ensures.remaining
    ∙ ap metrics_of c.args.rows.now.input) record {
      written_so_far = StillToWrite-start _ _ _ (text-start _ _);
      over = over-start _ _ (IsUtf8-had _ c.args.rows.now.line.utf8);
      same = c.characters-cursor.ensures.labels ∙ ap (λ (x : CharInput). x.labels)
          c.args.rows.now.input;
      ordered = omega arith;
      within = omega arith;
    }

pub source_style-style-requires-clause-has_byte : goal.source_style-style-requires-clause-has_byte
source_style-style-requires-clause-has_byte g c =
    let n = over-next _ _ _ _ _ _ c.in-Some.ensures.next c.loop-metrics.invariant.over in
    omega (arith, n.bytes, (len_utf8_bounds c.in-Some.metrics.ch).0)

pub overflow_add-next : goal.overflow_add-next
overflow_add-next g c =
    let n = over-next _ _ _ _ _ _ c.in-Some.ensures.next c.loop-metrics.invariant.over in
    omega (arith, n.over.within)

pub returns-in_err-end_text_run : goal.returns-in_err-end_text_run
returns-in_err-end_text_run g c =
    let p = err_from_is_err_and c.from_residual.result c.from_residual.ensures.1 in
    rw p.1
    (StillToWrite-failed _ _ _ _ _ _ _ c.loop-metrics.invariant.written_so_far
    (failed-before _ c.in_err-end_text_run.ensures)
    (text-tab (context_view c.args.rows.now.context) (line_view c.args.rows.now.line) _ _ _
    c.in-Some.metrics _
    (g.S.Cursor.CharCursor.remaining c.next_metrics.new.self) c.in-Some.ensures.next
    c.source_style-style.ensures.style c.if-metrics-eq9.true))

pub returns-in_err-put_spaces : goal.returns-in_err-put_spaces
returns-in_err-put_spaces g c =
    let p = err_from_is_err_and c.from_residual-in_err-put_spaces.result
    c.from_residual-in_err-put_spaces.ensures.1 in
    rw p.1
    (StillToWrite-failed _ _ _ _ _ _ _ c.loop-metrics.invariant.written_so_far
    (failed-then _ c.in_ok-end_text_run.ensures c.in_err-put_spaces.ensures)
    (text-tab (context_view c.args.rows.now.context) (line_view c.args.rows.now.line) _ _ _
    c.in-Some.metrics _
    (g.S.Cursor.CharCursor.remaining c.next_metrics.new.self) c.in-Some.ensures.next
    c.source_style-style.ensures.style c.if-metrics-eq9.true))

pub returns-in_err-end_text_run-2 : goal.returns-in_err-end_text_run-2
returns-in_err-end_text_run-2 g c =
    let p = err_from_is_err_and c.from_residual-in_err-end_text_run-2.result
    c.from_residual-in_err-end_text_run-2.ensures.1 in
    rw p.1
    (StillToWrite-failed _ _ _ _ _ _ _ c.loop-metrics.invariant.written_so_far
    c.in_err-end_text_run-2.ensures
    (text-turn (context_view c.args.rows.now.context) (line_view c.args.rows.now.line) _ _ _
    c.in-Some.metrics _
    (g.S.Cursor.CharCursor.remaining c.next_metrics.new.self) c.in-Some.ensures.next
    c.source_style-style.ensures.style c.if-metrics-eq9.false))

pub loop-metrics-preserved-in_ok-put_spaces : goal.loop-metrics-preserved-in_ok-put_spaces
loop-metrics-preserved-in_ok-put_spaces g c =
    let n = over-next _ _ _ _ _ _ c.in-Some.ensures.next c.loop-metrics.invariant.over in
    let none : c.loop-metrics.end + c.in-Some.metrics.bytes
    - (c.loop-metrics.end + c.in-Some.metrics.bytes) ≡ 0 =
    omega arith in
    rw c.source_style-style.ensures.remaining record {
      written_so_far =
          rw none
          (StillToWrite-more _ _ _ _ _ _ _ c.loop-metrics.invariant.written_so_far
          (written-then _ _ _ c.in_ok-end_text_run.ensures c.in_ok-put_spaces.ensures)
          (text-tab (context_view c.args.rows.now.context) (line_view c.args.rows.now.line) _ _ _
          c.in-Some.metrics _
          (g.S.Cursor.CharCursor.remaining c.next_metrics.new.self) c.in-Some.ensures.next
          c.source_style-style.ensures.style c.if-metrics-eq9.true));
      over = n.over;
      same =
          c.source_style-style.ensures.labels ∙ c.in-Some.ensures.labels
          ∙ c.loop-metrics.invariant.same;
      ordered = omega arith;
      within = n.over.within;
    }

pub loop-metrics-preserved-in_ok-end_text_run-2 : goal.loop-metrics-preserved-in_ok-end_text_run-2
loop-metrics-preserved-in_ok-end_text_run-2 g c =
    let n = over-next _ _ _ _ _ _ c.in-Some.ensures.next c.loop-metrics.invariant.over in
    let grows = piece-grows c.as_bytes-text.result.now c.loop-metrics.end c.loop-metrics.end
    (encode_utf8 c.in-Some.metrics.ch) c.in-Some.metrics.bytes (omega arith)
    (rw c.as_bytes-text.ensures.value n.text_left)
    (n.bytes ∙ sym (length-encode c.in-Some.metrics.ch)) in
    let none : c.loop-metrics.end - c.loop-metrics.end ≡ 0 = omega arith in
    rw c.source_style-style.ensures.remaining record {
      written_so_far =
          rw (grows, none)
          (StillToWrite-more _ _ _ _ _ _ _ c.loop-metrics.invariant.written_so_far
          c.in_ok-end_text_run-2.ensures
          (text-turn (context_view c.args.rows.now.context) (line_view c.args.rows.now.line) _ _ _
          c.in-Some.metrics _
          (g.S.Cursor.CharCursor.remaining c.next_metrics.new.self) c.in-Some.ensures.next
          c.source_style-style.ensures.style c.if-metrics-eq9.false));
      over = n.over;
      same =
          c.source_style-style.ensures.labels ∙ c.in-Some.ensures.labels
          ∙ c.loop-metrics.invariant.same;
      ordered = omega arith;
      within = n.over.within;
    }

pub loop-metrics-preserved : goal.loop-metrics-preserved
loop-metrics-preserved g c =
    let n = over-next _ _ _ _ _ _ c.in-Some.ensures.next c.loop-metrics.invariant.over in
    let same : c.loop-metrics.previous ≡ c.source_style-style.result = search rules in
    let grows = piece-grows c.as_bytes-text.result.now c.loop-metrics.start c.loop-metrics.end
    (encode_utf8 c.in-Some.metrics.ch) c.in-Some.metrics.bytes c.loop-metrics.invariant.ordered
    (rw c.as_bytes-text.ensures.value n.text_left)
    (n.bytes ∙ sym (length-encode c.in-Some.metrics.ch)) in
    let rest =
    text-same (context_view c.args.rows.now.context) (line_view c.args.rows.now.line)
    c.loop-metrics.previous
    c.source_style-style.result
    (piece c.as_bytes-text.result.now c.loop-metrics.start c.loop-metrics.end) c.in-Some.metrics
    _ (g.S.Cursor.CharCursor.remaining c.next_metrics.new.self) c.in-Some.ensures.next
    c.source_style-style.ensures.style c.if-metrics-eq9.false same in
    rw c.source_style-style.ensures.remaining record {
      written_so_far = rw (same, grows) (rw rest at c.loop-metrics.invariant.written_so_far);
      over = n.over;
      same =
          c.source_style-style.ensures.labels ∙ c.in-Some.ensures.labels
          ∙ c.loop-metrics.invariant.same;
      ordered = omega (arith, c.loop-metrics.invariant.ordered);
      within = n.over.within;
    }

-- where the loop ends, the rest is written unchanged
rest : (g : Over) (c : After-end_text_run-2 g)
    → let at = c.loop-metrics in
    let context = context_view c.args.rows.now.context in
    let line = line_view c.args.rows.now.line in
    let run = piece c.as_bytes-text.result.now at.start at.end in
    (byte_stream run ++ style_change context.severity at.previous None)
    ++ byte_stream (drop at.end line.text)
    ≡ text_rest context line at.previous run (g.S.Cursor.CharCursor.remaining at.cursor)
rest g c =
    let at = c.loop-metrics in
    let context = context_view c.args.rows.now.context in
    let line = line_view c.args.rows.now.line in
    let run = piece c.as_bytes-text.result.now at.start at.end in
    elim c.match-next_metrics.branch [
      | in_default w ↦ text-over context line at.previous run at.end _ at.invariant.over
          w.in_default.ensures.next.0
      | in-Some+then-end-plain w
          ↦ text-past context line at.previous run c.plain_from-plain.result
          at.end _ at.invariant.over w.if-end-plain.true c.plain_from-plain.ensures.style
          c.plain_from-plain.ensures.tab
    ]

pub returns : goal.returns
returns g c =
    let at = c.loop-metrics in
    let context = context_view c.args.rows.now.context in
    let run = piece c.as_bytes-text.result.now at.start at.end in
    let taken =
    tail-taken at.end c.args.rows.now.line.text.now c.as_bytes-text.result.now
    c.as_bytes-text.ensures.value in
    let last =
    ap (λ l. (byte_stream run ++ style_change context.severity at.previous None) ++ byte_stream l)
    taken
    ∙ rest g (goal.at.returns g c).After-end_text_run-2 in
    StillToWrite-last _ _ _ _ _ _
    (StillToWrite-more _ _ _ _ _ _ _ at.invariant.written_so_far c.in_ok-end_text_run-3.ensures
    (sym last))
    c.put_all-2.ensures

pub returns-in_err-end_text_run-3 : goal.returns-in_err-end_text_run-3
returns-in_err-end_text_run-3 g c =
    let p = err_from_is_err_and c.from_residual-in_err-end_text_run-3.result
    c.from_residual-in_err-end_text_run-3.ensures.1 in
    rw p.1
    (StillToWrite-failed _ _ _ _ _ _ _ c.loop-metrics.invariant.written_so_far
    c.in_err-end_text_run-3.ensures
    (sym (rest g (goal.at.returns-in_err-end_text_run-3 g c).After-end_text_run-2)))

-- text of which no character has a style, and which has no tab
pub returns-then-plain-eq0 : goal.returns-then-plain-eq0
returns-then-plain-eq0 g c =
    let line = c.args.rows.now.line in
    let plain = c.plain_from-plain in
    rw (
      c.as_bytes-text.ensures.value,
      text-plain (context_view c.args.rows.now.context) (line_view line) plain.result
          (IsUtf8-had _ line.utf8) c.if-plain-eq0.true plain.ensures.style plain.ensures.tab,
    )
    at c.put_all.ensures
