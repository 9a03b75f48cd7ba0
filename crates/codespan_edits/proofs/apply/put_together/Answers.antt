use Rattle.codespan_core.proofs.Std.{◌≡◌, ◌+◌, drop, get_or, ◌∙◌, string_bytes}
use Rattle.codespan_core.proofs.Std.{slice_range}
use Rattle.codespan_edits.specs.Edits.{text_edits, edited_from}
use Rattle.codespan_edits.specs.Private.Places.{edits_at, replacement_at}
use Rattle.codespan_edits.specs.declared.order.Place.{Place}
use Rattle.codespan_edits.proofs.PartLemmas.{fit-here, text-here, text-more, replacement-is}
use Rattle.codespan_edits.proofs.apply.put_together.Goals as goal

-- the place starts at the byte or later
pub range-requires-clause-start_le_end : goal.range-requires-clause-start_le_end
range-requires-clause-start_le_end g c =
    (fit-here c.args.source.now (text_edits c.args.edits.now) c.args.places.now
    c.loop-place.place-index c.loop-place.byte _ c.loop-place-test.true
    c.loop-place.invariant.fit).0

-- it starts at a boundary of characters
pub range-requires-clause-end_boundary : goal.range-requires-clause-end_boundary
range-requires-clause-end_boundary g c =
    (fit-here c.args.source.now (text_edits c.args.edits.now) c.args.places.now
    c.loop-place.place-index c.loop-place.byte _ c.loop-place-test.true
    c.loop-place.invariant.fit).2

-- the kept text and the replacement are added
pub loop-place-preserved : goal.loop-place-preserved
loop-place-preserved g c =
    let none : Place = record { start = 0; end = 0; index = 0 } in
    let place = get_or c.args.places.now c.loop-place.place-index none in
    let all = edits_at (text_edits c.args.edits.now) c.args.places.now in
    let fit = fit-here c.args.source.now (text_edits c.args.edits.now) c.args.places.now
    c.loop-place.place-index c.loop-place.byte none c.loop-place-test.true
    c.loop-place.invariant.fit in
    let replacement : c.deref.result.now ≡ replacement_at (text_edits c.args.edits.now)
    place.index =
    c.deref.ensures
    ∙ replacement-is c.args.edits.now place.index c.index-edits-place.result
    (c.requires.listed c.loop-place.place-index none c.loop-place-test.true) in
    record {
      boundary = λ _. fit.3;
      fit = fit.4;
      text =
          text-more (string_bytes c.loop-place.text)
          (slice_range c.args.source.now c.loop-place.byte place.start)
          (replacement_at (text_edits c.args.edits.now) place.index)
          (edited_from c.args.source.now place.end (drop (c.loop-place.place-index + 1) all))
          (edited_from c.args.source.now c.loop-place.byte (drop c.loop-place.place-index all))
          c.range.result.now c.deref.result.now (string_bytes c.push_str.new.self)
          (string_bytes c.push_str-in-loop-place.new.self) (edited_from c.args.source.now 0 all)
          (text-here c.args.source.now (text_edits c.args.edits.now) c.args.places.now
          c.loop-place.place-index c.loop-place.byte none c.loop-place-test.true)
          c.loop-place.invariant.text c.range.ensures.value replacement
          c.in_ok-push_str.ensures.bytes c.in_ok-push_str-2.ensures.bytes;
    }
