use Rattle.codespan_core.proofs.Std.{◌++◌, refl, ap, ◌∙◌, err_from_is_err_and}
use Rattle.codespan_core.proofs.Std.{IfOk-weaker}
use Rattle.codespan_core.proofs.diagnostic.Diagnostic.with_notes_iter.Goals as goal

-- the run of `collect` is the run of the iterator
pub returns-clause-notes : goal.returns-clause-notes
returns-clause-notes g c =
    let run = c.in_ok-notes.ensures.runs tt in
    IfOk-weaker c.with_notes.result _ _ (λ d items. (
      c.into_iter.result,
      c.into_iter.ensures.into_iter_gives,
      (run.0, run.1, run.2, items ∙ ap (◌++◌ c.args.self.notes.items) run.3.0),
    )) c.with_notes.ensures.notes

-- the iterator is one that `into_iter` returned
pub collect-requires-clause-can : goal.collect-requires-clause-can
collect-requires-clause-can g c = (c.requires _ c.into_iter.ensures.into_iter_gives).0

pub collect-requires-clause-finite : goal.collect-requires-clause-finite
collect-requires-clause-finite g c = (c.requires _ c.into_iter.ensures.into_iter_gives).1

pub collect-requires-clause-can_collect : goal.collect-requires-clause-can_collect
collect-requires-clause-can_collect g c = λ _ _ _. tt

-- the error is that of a failed allocation
pub returns-in_err-notes-clause-failed : goal.returns-in_err-notes-clause-failed
returns-in_err-notes-clause-failed g c =
    let p = err_from_is_err_and c.from_residual.result c.from_residual.ensures.1 in
    rw (p.1, p.2) refl
