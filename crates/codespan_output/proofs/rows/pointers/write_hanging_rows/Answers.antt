use Rattle.codespan_core.proofs.Std.{◌≡◌, refl, err_from_is_err_and}
use Rattle.codespan_core.proofs.Loops.{StillToWrite-start, StillToWrite-more, StillToWrite-same}
use Rattle.codespan_core.proofs.Loops.{StillToWrite-failed, StillToWrite-end}
use Rattle.codespan_output.proofs.Messages.Hanging.{hanging_first, hanging_skip, hanging_end}
use Rattle.codespan_output.proofs.Messages.Pieces.{near-last}
use Rattle.codespan_output.proofs.rows.pointers.write_hanging_rows.Goals as goal

pub loop-label-init : goal.loop-label-init
loop-label-init g c =
    let all : c.into_iter-label-iterator.result.iter.rest.now ≡ c.args.labels.now = cc in
    rw all record {
      with_written = StillToWrite-start _ _ _ refl;
      within_max_start =
          c.requires.within_max_start;
    }

pub write_hanging_row-requires : goal.write_hanging_row-requires
write_hanging_row-requires g c = record {
  within_max_start = (near-last _ _ _ _ c.in-Some.ensures.steps
      c.loop-label.invariant.within_max_start).here;
}

pub loop-label-preserved-then-is_empty : goal.loop-label-preserved-then-is_empty
loop-label-preserved-then-is_empty g c = record {
  with_written =
      StillToWrite-same _ _ _ _ _
      (hanging_skip _ _ _ _ _ _ c.in-Some.ensures.steps c.is_empty.ensures c.if-is_empty.true)
      c.loop-label.invariant.with_written;
  within_max_start = (near-last _ _ _ _ c.in-Some.ensures.steps
      c.loop-label.invariant.within_max_start).others;
}

pub returns-in_err-write_hanging_row : goal.returns-in_err-write_hanging_row
returns-in_err-write_hanging_row g c =
    let p = err_from_is_err_and c.from_residual.result c.from_residual.ensures.1 in
    rw p.1
    (StillToWrite-failed _ _ _ _ _ _ _ c.loop-label.invariant.with_written
    c.in_err-write_hanging_row.ensures
    (hanging_first _ _ _ _ _ _ c.in-Some.ensures.steps c.is_empty.ensures c.if-is_empty.false))

pub loop-label-preserved : goal.loop-label-preserved
loop-label-preserved g c = record {
  with_written =
      StillToWrite-more _ _ _ _ _ _ _ c.loop-label.invariant.with_written
      c.in_ok-write_hanging_row.ensures
      (hanging_first _ _ _ _ _ _ c.in-Some.ensures.steps c.is_empty.ensures c.if-is_empty.false);
  within_max_start = (near-last _ _ _ _ c.in-Some.ensures.steps
      c.loop-label.invariant.within_max_start).others;
}

pub returns : goal.returns
returns g c =
    StillToWrite-end _ _ _ _ c.loop-label.invariant.with_written
    (hanging_end _ _ _ c.in-None.ensures.steps.0)
