use Rattle.codespan_core.proofs.Std.{[], append-nil, ◌≤◌, ◌≡◌, ◌+◌, ◌++◌, ◌∷◌}
use Rattle.codespan_core.proofs.Std.{length, drop, get_or, map, sym, subst, ap, ◌∙◌, refl, ap}
use Rattle.codespan_core.proofs.Std.{slice_range, flat_map, drop_all}
use Rattle.codespan_core.proofs.Std.{length-map, IfOk-weaker, List, ℕ}
use Rattle.codespan_edits.specs.Edits.{text_edits}
use Rattle.codespan_edits.specs.Private.Places.{edits_at, replacement_at}
use Rattle.codespan_edits.specs.Private.Blocks.{Holds, FitLines, rows_of, block_view}
use Rattle.codespan_edits.specs.Diffs.{Change, Row, kept}
use Rattle.codespan_edits.specs.Diffs.{lines, pieces_from, block_rows, blocks_from}
use Rattle.codespan_edits.specs.Diffs.{no_change}
use Rattle.codespan_edits.specs.declared.blocks.Collector.{Collector}
use Rattle.codespan_edits.specs.declared.order.Place.{Place}
use Rattle.codespan_edits.proofs.PartLemmas.{fit-here, replacement-is}
use Rattle.codespan_edits.proofs.FaultLemmas.{at_place}
use Rattle.codespan_edits.proofs.DiffBlocks.{same_change}
use Rattle.codespan_edits.proofs.DiffLines.{part-rest}
use Rattle.codespan_edits.proofs.blocks.collect_blocks.Goals as goal

pub range-requires-clause-start_le_end : goal.range-requires-clause-start_le_end
range-requires-clause-start_le_end g c =
    (fit-here c.args.source.now (text_edits c.args.edits.now) c.args.places.now
    c.loop-place.place-index c.loop-place.byte _ c.loop-place-test.true
    c.loop-place.invariant.fit).0

pub range-requires-clause-end_boundary : goal.range-requires-clause-end_boundary
range-requires-clause-end_boundary g c =
    (fit-here c.args.source.now (text_edits c.args.edits.now) c.args.places.now
    c.loop-place.place-index c.loop-place.byte _ c.loop-place-test.true
    c.loop-place.invariant.fit).2

pub range-replaced-requires-clause-start_le_end : goal.range-replaced-requires-clause-start_le_end
range-replaced-requires-clause-start_le_end g c =
    (fit-here c.args.source.now (text_edits c.args.edits.now) c.args.places.now
    c.loop-place.place-index c.loop-place.byte _ c.loop-place-test.true
    c.loop-place.invariant.fit).1

pub range-replaced-requires-clause-start_boundary :
    goal.range-replaced-requires-clause-start_boundary
range-replaced-requires-clause-start_boundary g c = λ _.
    (fit-here c.args.source.now (text_edits c.args.edits.now) c.args.places.now
    c.loop-place.place-index c.loop-place.byte _ c.loop-place-test.true
    c.loop-place.invariant.fit).2

pub range-replaced-requires-clause-end_boundary : goal.range-replaced-requires-clause-end_boundary
range-replaced-requires-clause-end_boundary g c =
    (fit-here c.args.source.now (text_edits c.args.edits.now) c.args.places.now
    c.loop-place.place-index c.loop-place.byte _ c.loop-place-test.true
    c.loop-place.invariant.fit).3

-- the kept lines and the edit were taken
pub loop-place-preserved : goal.loop-place-preserved
loop-place-preserved g c =
    let none : Place = record { start = 0; end = 0; index = 0 } in
    let place = get_or c.args.places.now c.loop-place.place-index none in
    let edits = text_edits c.args.edits.now in
    let every = edits_at edits c.args.places.now in
    let text = c.args.source.now in
    let byte = c.loop-place.byte in
    let fit = fit-here text edits c.args.places.now c.loop-place.place-index byte none
    c.loop-place-test.true c.loop-place.invariant.fit in
    let left = drop (c.loop-place.place-index + 1) every in
    let ps = pieces_from text place.end left in
    let ls = lines text in
    let rows = flat_map block_rows (blocks_from no_change (pieces_from text 0 every)) in
    let replacement : c.deref.result.now ≡ replacement_at edits place.index =
    c.deref.ensures
    ∙ replacement-is c.args.edits.now place.index c.index-edits-place.result
    (c.requires.listed c.loop-place.place-index none c.loop-place-test.true) in
    let piece : Change = record { old = c.range-replaced.result.now; new = c.deref.result.now } in
    let piece_is = same_change (slice_range text place.start place.end)
    c.range-replaced.result.now (replacement_at edits place.index) c.deref.result.now
    (sym c.range-replaced.ensures.value) (sym replacement) in
    let pieces : pieces_from text byte (drop c.loop-place.place-index every)
    ≡ map kept (lines c.range.result.now) ++ (piece ∷ ps) =
    ap (pieces_from text byte) (at_place edits c.args.places.now c.loop-place.place-index
    (c.loop-place.place-index + 1) none c.loop-place-test.true refl)
    ∙ (ap (λ x. map kept (lines (slice_range text byte place.start)) ++ (x ∷ ps)) piece_is
    ∙ ap (λ t. map kept (lines t) ++ (piece ∷ ps)) (sym c.range.ensures.value)) in
    let rest : drop byte text
    ≡ c.range.result.now ++ (c.range-replaced.result.now ++ drop place.end text) =
    sym (part-rest text byte place.start fit.0)
    ∙ (ap (λ t. slice_range text byte place.start ++ t)
    (sym (part-rest text place.start place.end fit.1))
    ∙ (ap (λ t. t ++ (slice_range text place.start place.end ++ drop place.end text))
    (sym c.range.ensures.value)
    ∙ ap (λ t. c.range.result.now ++ (t ++ drop place.end text))
    (sym c.range-replaced.ensures.value))) in
    record {
      boundary = λ _. fit.3;
      fit = fit.4;
      holds = c.in_ok-push.ensures.holds ls rows (drop place.end text) ps
          (c.in_ok-keep.ensures.holds ls rows
          (c.range-replaced.result.now ++ drop place.end text) (piece ∷ ps)
          (subst (Holds ls rows c.loop-place.collector
          (c.range.result.now ++ (c.range-replaced.result.now ++ drop place.end text))) pieces
          (subst (λ t. Holds ls rows c.loop-place.collector t
          (pieces_from text byte (drop c.loop-place.place-index every))) rest
          c.loop-place.invariant.holds)));
    }

-- no edit is left
done : (text byte_rest shown_rest : List ℕ) (ls : List (List ℕ)) (rows : List Row)
    (c : Collector) (ps : List Change) → shown_rest ≡ byte_rest
    → ps ≡ map kept (lines byte_rest) → Holds ls rows c byte_rest ps
    → Holds ls rows c (shown_rest ++ []) (map kept (lines shown_rest) ++ [])
done text byte_rest shown_rest ls rows c ps same pieces h =
    rw (append-nil shown_rest, append-nil (map kept (lines shown_rest)), same)
    (subst (Holds ls rows c byte_rest) pieces h)

pub returns-clause-fit : goal.returns-clause-fit
returns-clause-fit g c =
    let text = c.args.source.now in
    let every = edits_at (text_edits c.args.edits.now) c.args.places.now in
    let past : length every ≤ c.loop-place.place-index = rw length-map c.loop-place-test.false in
    let rows = flat_map block_rows (blocks_from no_change (pieces_from text 0 every)) in
    let whole = c.in_ok-keep-2.ensures.holds (lines text) rows [] []
    (done text (drop c.loop-place.byte text) c.range_from.result.now (lines text) rows
    c.loop-place.collector _ c.range_from.ensures.value
    (ap (pieces_from text c.loop-place.byte) (drop_all c.loop-place.place-index every past))
    c.loop-place.invariant.holds) in
    IfOk-weaker c.finish.result
    (λ blocks. (ls : List (List ℕ)) (all : List Row) → Holds ls all c.keep-2.new.self [] []
    → FitLines ls 0 (map block_view blocks.items)
    × (rows_of ls 0 (map block_view blocks.items) ≡ all))
    (λ blocks. FitLines (lines text) 0 (map block_view blocks.items))
    (λ blocks is. (is (lines text) rows whole).0) c.finish.ensures.blocks

pub returns-clause-rows : goal.returns-clause-rows
returns-clause-rows g c =
    let text = c.args.source.now in
    let every = edits_at (text_edits c.args.edits.now) c.args.places.now in
    let past : length every ≤ c.loop-place.place-index = rw length-map c.loop-place-test.false in
    let rows = flat_map block_rows (blocks_from no_change (pieces_from text 0 every)) in
    let whole = c.in_ok-keep-2.ensures.holds (lines text) rows [] []
    (done text (drop c.loop-place.byte text) c.range_from.result.now (lines text) rows
    c.loop-place.collector _ c.range_from.ensures.value
    (ap (pieces_from text c.loop-place.byte) (drop_all c.loop-place.place-index every past))
    c.loop-place.invariant.holds) in
    IfOk-weaker c.finish.result
    (λ blocks. (ls : List (List ℕ)) (all : List Row) → Holds ls all c.keep-2.new.self [] []
    → FitLines ls 0 (map block_view blocks.items)
    × (rows_of ls 0 (map block_view blocks.items) ≡ all))
    (λ blocks. rows_of (lines text) 0 (map block_view blocks.items) ≡ rows)
    (λ blocks is. (is (lines text) rows whole).1) c.finish.ensures.blocks
