use Rattle.codespan_core.proofs.Std.{◌+◌, length, drop, get_or, ap, ◌∙◌}
use Rattle.codespan_edits.specs.Edits.{text_edits, edited_from}
use Rattle.codespan_edits.specs.Private.Places.{edits_at, replacement_at}
use Rattle.codespan_edits.specs.declared.order.Place.{Place}
use Rattle.codespan_edits.proofs.PartLemmas.{fit-here, text-here, length-more, replacement-is}
use Rattle.codespan_edits.proofs.apply.edited_len.Goals as goal

-- the place starts at the byte or later
pub overflow_sub-place : goal.overflow_sub-place
overflow_sub-place g c =
    (fit-here c.args.source.now (text_edits c.args.edits.now) c.args.places.now
    c.loop-place.place-index c.loop-place.byte _ c.loop-place-test.true
    c.loop-place.invariant.fit).0

-- the kept text and the replacement are added
pub loop-place-preserved : goal.loop-place-preserved
loop-place-preserved g c =
    let none : Place = record { start = 0; end = 0; index = 0 } in
    let place = get_or c.args.places.now c.loop-place.place-index none in
    let all = edits_at (text_edits c.args.edits.now) c.args.places.now in
    let fit = fit-here c.args.source.now (text_edits c.args.edits.now) c.args.places.now
    c.loop-place.place-index c.loop-place.byte none c.loop-place-test.true
    c.loop-place.invariant.fit in
    record {
      fit = fit.4;
      len =
          length-more c.args.source.now c.loop-place.byte place.start
          (replacement_at (text_edits c.args.edits.now) place.index)
          (edited_from c.args.source.now place.end (drop (c.loop-place.place-index + 1) all))
          c.loop-place.len c.in_ok-len.len c.in_ok-len-2.len
          (edited_from c.args.source.now c.loop-place.byte (drop c.loop-place.place-index all))
          (length (edited_from c.args.source.now 0 all)) fit.0 fit.2.0
          (text-here c.args.source.now (text_edits c.args.edits.now) c.args.places.now
          c.loop-place.place-index c.loop-place.byte none c.loop-place-test.true)
          c.loop-place.invariant.len c.in_ok-len.ensures.sum
          (c.in_ok-len-2.ensures.sum
          ∙ ap (λ bytes. c.in_ok-len.len + length bytes) (c.as_str.ensures.value
          ∙ replacement-is c.args.edits.now place.index c.index-edits-place.result
          (c.requires.listed c.loop-place.place-index none c.loop-place-test.true)));
    }
