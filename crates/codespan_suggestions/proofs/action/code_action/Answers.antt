use Rattle.codespan_core.proofs.Std.{◌≡◌, ◌+◌, ◌∷◌, ◌∙◌, Err, ap, sym, map}
use Rattle.codespan_core.proofs.Std.{subst, None, Some, List, err_from_is_err_and, drop_more, drop}
use Rattle.codespan_suggestions.specs.CodeActions.{TextEditView, text_edit_view, file_view}
use Rattle.codespan_suggestions.specs.CodeActions.{file_text_edits, action_file_fault}
use Rattle.codespan_suggestions.proofs.FaultLoops.{fault-more, fault-here}
use Rattle.codespan_suggestions.proofs.MadeLists.{made-more}
use Rattle.codespan_suggestions.proofs.action.code_action.Goals as goal

-- the text edits of one more file are made
pub loop-id-preserved : goal.loop-id-preserved
loop-id-preserved g c =
    let database = g.F.Files.database c.args.files.now in
    let edits = c.args.suggestion.now.edits.items in
    let x = c.id-item.result in
    let items = c.deref-id-items.result.now in
    let i = c.loop-id.id-index in
    let same = c.deref-in-loop-id.ensures.value in
    let made : map text_edit_view c.in_ok-text_edits.text_edits.items
    ≡ file_text_edits c.args.encoding database edits x =
    subst (λ es. map text_edit_view c.in_ok-text_edits.text_edits.items
    ≡ file_text_edits c.args.encoding database es x) same c.in_ok-text_edits.ensures.edits in
    let fine : action_file_fault c.args.encoding database edits x ≡ None =
    subst (λ es. action_file_fault c.args.encoding database es x ≡ None) same
    c.in_ok-text_edits.ensures.failed in
    record {
      files =
          made-more file_view
          (λ (id : g.row.F-FileId.Denot). (id, file_text_edits c.args.encoding database edits id))
          _ _ _ _ _ x _ c.in_ok-push.ensures.items
          (ap (λ (ts : List TextEditView). (x, ts)) made)
          (drop_more items i x c.loop-id-test.true
          ∙ ap (λ (y : g.row.F-FileId.Denot). y ∷ drop (i + 1) items) (sym c.id-item.is))
          c.loop-id.invariant.files;
      fault =
          fault-more (action_file_fault c.args.encoding database edits) items i x
          c.loop-id-test.true c.id-item.is _ c.loop-id.invariant.fault fine;
    }

-- those of this file are not made
pub returns-in_err-text_edits-clause-failed : goal.returns-in_err-text_edits-clause-failed
returns-in_err-text_edits-clause-failed g c =
    let p = err_from_is_err_and c.from_residual-in_err-text_edits.result
    c.from_residual-in_err-text_edits.ensures.1 in
    let database = g.F.Files.database c.args.files.now in
    let edits = c.args.suggestion.now.edits.items in
    let x = c.id-item.result in
    rw (p.1 ∙ ap Err p.2) (λ known.
    fault-here (action_file_fault c.args.encoding database edits) c.deref-id-items.result.now
    c.loop-id.id-index x c.loop-id-test.true c.id-item.is _ c.loop-id.invariant.fault
    c.in_err-text_edits.field-0.0
    (subst (λ es. action_file_fault c.args.encoding database es x
    ≡ Some c.in_err-text_edits.field-0.0) c.deref-in-loop-id.ensures.value
    (c.in_err-text_edits.ensures.failed known)))
