use Rattle.codespan_core.proofs.Std.{[], append-nil, ◌≤◌, ◌≡◌, ◌+◌, ◌++◌}
use Rattle.codespan_core.proofs.Std.{◌∷◌, length, drop, get_or, map, sym, ap, ◌∙◌, refl}
use Rattle.codespan_core.proofs.Std.{slice_range, flat_map, drop_all, length-map, IfOk-weaker}
use Rattle.codespan_edits.specs.Edits.{text_edits}
use Rattle.codespan_edits.specs.Private.Places.{edits_at, replacement_at}
use Rattle.codespan_edits.specs.Private.Differs.{all_rows}
use Rattle.codespan_edits.specs.RowViews.{rows_view}
use Rattle.codespan_edits.specs.Diffs.{Change, kept, lines, pieces_from, block_rows, blocks_from}
use Rattle.codespan_edits.specs.Diffs.{no_change}
use Rattle.codespan_edits.specs.declared.order.Place.{Place}
use Rattle.codespan_edits.proofs.PartLemmas.{fit-here, replacement-is}
use Rattle.codespan_edits.proofs.FaultLemmas.{at_place}
use Rattle.codespan_edits.proofs.DiffBlocks.{same_change}
use Rattle.codespan_edits.proofs.rows.collect_rows.Goals as goal

pub range-requires-clause-start_le_end : goal.range-requires-clause-start_le_end
range-requires-clause-start_le_end g c =
    (fit-here c.args.source.now (text_edits c.args.edits.now) c.args.places.now
    c.loop-place.place-index c.loop-place.byte _ c.loop-place-test.true
    c.loop-place.invariant.fit).0

pub range-requires-clause-end_boundary : goal.range-requires-clause-end_boundary
range-requires-clause-end_boundary g c =
    (fit-here c.args.source.now (text_edits c.args.edits.now) c.args.places.now
    c.loop-place.place-index c.loop-place.byte _ c.loop-place-test.true
    c.loop-place.invariant.fit).2

pub range-replaced-requires-clause-start_le_end : goal.range-replaced-requires-clause-start_le_end
range-replaced-requires-clause-start_le_end g c =
    (fit-here c.args.source.now (text_edits c.args.edits.now) c.args.places.now
    c.loop-place.place-index c.loop-place.byte _ c.loop-place-test.true
    c.loop-place.invariant.fit).1

pub range-replaced-requires-clause-start_boundary :
    goal.range-replaced-requires-clause-start_boundary
range-replaced-requires-clause-start_boundary g c = λ _.
    (fit-here c.args.source.now (text_edits c.args.edits.now) c.args.places.now
    c.loop-place.place-index c.loop-place.byte _ c.loop-place-test.true
    c.loop-place.invariant.fit).2

pub range-replaced-requires-clause-end_boundary : goal.range-replaced-requires-clause-end_boundary
range-replaced-requires-clause-end_boundary g c =
    (fit-here c.args.source.now (text_edits c.args.edits.now) c.args.places.now
    c.loop-place.place-index c.loop-place.byte _ c.loop-place-test.true
    c.loop-place.invariant.fit).3

-- the kept lines and the edit were taken
pub loop-place-preserved : goal.loop-place-preserved
loop-place-preserved g c =
    let none : Place = record { start = 0; end = 0; index = 0 } in
    let place = get_or c.args.places.now c.loop-place.place-index none in
    let edits = text_edits c.args.edits.now in
    let all = edits_at edits c.args.places.now in
    let text = c.args.source.now in
    let fit = fit-here text edits c.args.places.now c.loop-place.place-index c.loop-place.byte none
    c.loop-place-test.true c.loop-place.invariant.fit in
    let ps = pieces_from text place.end (drop (c.loop-place.place-index + 1) all) in
    let replacement : c.deref.result.now ≡ replacement_at edits place.index =
    c.deref.ensures
    ∙ replacement-is c.args.edits.now place.index c.index-edits-place.result
    (c.requires.listed c.loop-place.place-index none c.loop-place-test.true) in
    let piece : Change = record { old = c.range-replaced.result.now; new = c.deref.result.now } in
    record {
      boundary = λ _. fit.3;
      fit = fit.4;
      rows =
          c.in_ok-push.ensures.rows ps
          ∙ (c.in_ok-keep.ensures.rows (piece ∷ ps)
          ∙ (ap (λ t. all_rows c.loop-place.differ (map kept (lines t) ++ (piece ∷ ps)))
          c.range.ensures.value
          ∙ (ap (λ x. all_rows c.loop-place.differ
          (map kept (lines (slice_range text c.loop-place.byte place.start)) ++ (x ∷ ps)))
          (same_change c.range-replaced.result.now (slice_range text place.start place.end)
          c.deref.result.now (replacement_at edits place.index) c.range-replaced.ensures.value
          replacement)
          ∙ (ap (λ xs. all_rows c.loop-place.differ (pieces_from text c.loop-place.byte xs))
          (sym (at_place edits c.args.places.now c.loop-place.place-index
          (c.loop-place.place-index + 1)
          none c.loop-place-test.true refl))
          ∙ c.loop-place.invariant.rows))));
    }

-- no edit is left
pub returns-clause-rows : goal.returns-clause-rows
returns-clause-rows g c =
    let text = c.args.source.now in
    let all = edits_at (text_edits c.args.edits.now) c.args.places.now in
    let past : length all ≤ c.loop-place.place-index = rw length-map c.loop-place-test.false in
    let total = flat_map block_rows (blocks_from no_change (pieces_from text 0 all)) in
    let whole : all_rows c.keep-2.new.self [] ≡ total =
    c.in_ok-keep-2.ensures.rows []
    ∙ (ap (λ t. all_rows c.loop-place.differ (map kept (lines t) ++ []))
    c.range_from.ensures.value
    ∙ (ap (all_rows c.loop-place.differ)
    (append-nil (map kept (lines (drop c.loop-place.byte text))))
    ∙ (ap (λ xs. all_rows c.loop-place.differ (pieces_from text c.loop-place.byte xs))
    (sym (drop_all c.loop-place.place-index all past)) ∙ c.loop-place.invariant.rows))) in
    IfOk-weaker c.finish.result (λ rows. rows_view rows ≡ all_rows c.keep-2.new.self [])
    (λ rows. rows_view rows ≡ total) (λ rows is. is ∙ whole) c.finish.ensures.rows
