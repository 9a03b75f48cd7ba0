use Rattle.codespan_core.proofs.Std.{arith, refl, ◌∙◌, err_from_is_err_and}
use Rattle.codespan_core.proofs.Loops.{StillToWrite-start, StillToWrite-more, StillToWrite-failed}
use Rattle.codespan_core.proofs.Loops.{StillToWrite-last}
use Rattle.codespan_core.proofs.Repeats.{repeated-front, repeated-next}
use Rattle.codespan_core.proofs.term.config.writing.put_runs.Goals as goal

pub loop-left-init : goal.loop-left-init
loop-left-init g c = record { within = omega arith; with_written = StillToWrite-start _ _ _ refl }

pub returns-in_err-put_all : goal.returns-in_err-put_all
returns-in_err-put_all g c =
    let p = err_from_is_err_and c.from_residual.result c.from_residual.ensures.1 in
    rw p.1
    (StillToWrite-failed _ _ _ _ _ _ _ c.loop-left.invariant.with_written
    c.in_err-put_all.ensures
    (repeated-next _ c.loop-left.left c.args.c _ c.fill.new.run
    (c.as_bytes-glyph.ensures.value ∙ c.encode_utf8.ensures.value) (omega arith)
    c.fill.ensures))

pub loop-left-preserved : goal.loop-left-preserved
loop-left-preserved g c = record {
  within = omega arith;
  with_written =
      StillToWrite-more _ _ _ _ _ _ _ c.loop-left.invariant.with_written c.in_ok-put_all.ensures
      (repeated-next _ c.loop-left.left c.args.c _ c.fill.new.run
      (c.as_bytes-glyph.ensures.value ∙ c.encode_utf8.ensures.value) (omega arith)
      c.fill.ensures);
}

pub returns : goal.returns
returns g c =
    let e = repeated-front _ c.loop-left.left c.args.c _ c.fill.new.run
    (c.as_bytes-glyph.ensures.value ∙ c.encode_utf8.ensures.value) (omega arith)
    c.fill.ensures in
    StillToWrite-last _ _ _ _ _ _ c.loop-left.invariant.with_written (rw e at c.put_all-2.ensures)
