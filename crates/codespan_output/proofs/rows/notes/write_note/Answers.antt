use Rattle.codespan_core.proofs.Std.{ap, refl, err_from_is_err_and}
use Rattle.std.proofs.lemmas.Iterator.Splits.{YieldsList-from_lines}
use Rattle.codespan_output.specs.{later_note_rows_stream, note_stream}
use Rattle.codespan_core.proofs.Loops.{StillToWrite-start, StillToWrite-more, StillToWrite-failed}
use Rattle.codespan_core.proofs.Loops.{StillToWrite-end}
use Rattle.codespan_output.proofs.Lanes.UnderlineRows.{first-note, later-note, lines-next}
use Rattle.codespan_output.proofs.Lanes.UnderlineRows.{lines-none}
use Rattle.codespan_output.proofs.rows.notes.write_note.Goals as goal

pub returns-in_default : goal.returns-in_default
returns-in_default g c =
    let all = YieldsList-from_lines {s = c.lines-note_lines.result} c.args.message.now
    c.lines-note_lines.ensures.rest in
    let none = lines-none _ _ _ all c.in_default.ensures.steps in
    StillToWrite-end _ _ _ _ (StillToWrite-start _ _ _ refl)
    (ap (note_stream c.args.chars.now c.args.padding) none)

pub returns-in_err-write_note_row : goal.returns-in_err-write_note_row
returns-in_err-write_note_row g c =
    let p = err_from_is_err_and c.from_residual.result c.from_residual.ensures.1 in
    let all = YieldsList-from_lines {s = c.lines-note_lines.result} c.args.message.now
    c.lines-note_lines.ensures.rest in
    let next = lines-next c.lines-note_lines.result c.in-Some.first c.next.new.self _ all
    c.in-Some.ensures.steps in
    rw p.1
    (StillToWrite-failed _ _ _ _ _ _ _ (StillToWrite-start _ _ _ refl)
    (rw first-note at c.in_err-write_note_row.ensures)
    (ap (note_stream c.args.chars.now c.args.padding) next.is))

pub loop-note_line-init : goal.loop-note_line-init
loop-note_line-init g c =
    let all = YieldsList-from_lines {s = c.lines-note_lines.result} c.args.message.now
    c.lines-note_lines.ensures.rest in
    let next = lines-next c.lines-note_lines.result c.in-Some.first c.next.new.self _ all
    c.in-Some.ensures.steps in
    rw c.into_iter-note_line-iterator.ensures.into_iter_gives record {
      note_lines = next.after;
      yields = next.yields;
      written_so_far =
          StillToWrite-more _ _ _ _ _ _ _ (StillToWrite-start _ _ _ refl)
          (rw first-note at c.in_ok-write_note_row.ensures)
          (ap (note_stream c.args.chars.now c.args.padding) next.is);
    }

pub loop-note_line-preserved : goal.loop-note_line-preserved
loop-note_line-preserved g c =
    let i = c.loop-note_line.invariant in
    let next = lines-next c.loop-note_line.note_line-iterator c.in-Some-note_line.note_line
    c.next-in-loop-note_line.new.self _ i.yields c.in-Some-note_line.ensures.steps in
    record {
      note_lines = next.after;
      yields = next.yields;
      written_so_far =
          StillToWrite-more _ _ _ _ _ _ _ i.written_so_far (rw later-note at
          c.in_ok-write_note_row-2.ensures)
          (ap (later_note_rows_stream c.args.padding) next.is);
    }

pub returns-in_err-write_note_row-2 : goal.returns-in_err-write_note_row-2
returns-in_err-write_note_row-2 g c =
    let p = err_from_is_err_and c.from_residual-in_err-write_note_row-2.result
    c.from_residual-in_err-write_note_row-2.ensures.1 in
    let i = c.loop-note_line.invariant in
    let next = lines-next c.loop-note_line.note_line-iterator c.in-Some-note_line.note_line
    c.next-in-loop-note_line.new.self _ i.yields c.in-Some-note_line.ensures.steps in
    rw p.1
    (StillToWrite-failed _ _ _ _ _ _ _ i.written_so_far (rw later-note at
    c.in_err-write_note_row-2.ensures)
    (ap (later_note_rows_stream c.args.padding) next.is))

pub returns : goal.returns
returns g c =
    let i = c.loop-note_line.invariant in
    StillToWrite-end _ _ _ _ i.written_so_far
    (ap (later_note_rows_stream c.args.padding) (lines-none _ _ _ i.yields c.in-None.ensures.steps))
