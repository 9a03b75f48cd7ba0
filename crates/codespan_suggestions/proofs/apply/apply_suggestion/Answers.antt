use Rattle.codespan_core.proofs.Std.{Err, ap, ◌∙◌, ◌≡◌, err_from_is_err_and, subst}
use Rattle.codespan_core.proofs.Std.{string_bytes, None, Some}
use Rattle.codespan_suggestions.specs.EditedFiles.{edited_text}
use Rattle.codespan_suggestions.specs.Faults.{file_fault}
use Rattle.codespan_suggestions.proofs.FaultLoops.{fault-more, fault-here}
use Rattle.codespan_suggestions.proofs.TextLemmas.{texts-more}
use Rattle.codespan_suggestions.proofs.apply.apply_suggestion.Goals as goal

-- the text of one more file is made
pub loop-id-preserved : goal.loop-id-preserved
loop-id-preserved g c =
    let database = g.F.Files.database c.args.files.now in
    let edits = c.args.suggestion.now.edits.items in
    let x = c.id-item.result in
    let same = c.deref-in-loop-id.ensures.value in
    let made : string_bytes c.in_ok-text.text ≡ edited_text database edits x =
    subst (λ es. string_bytes c.in_ok-text.text ≡ edited_text database es x) same
    c.in_ok-text.ensures.text in
    let fine : file_fault database edits x ≡ None =
    subst (λ es. file_fault database es x ≡ None) same c.in_ok-text.ensures.failed in
    record {
      texts =
          texts-more database edits c.deref-id-items.result.now c.loop-id.id-index x
          c.loop-id-test.true c.id-item.is c.loop-id.texts c.push.new.self c.in_ok-text.text _
          c.in_ok-push.ensures.items made c.loop-id.invariant.texts;
      fault =
          fault-more (file_fault database edits) c.deref-id-items.result.now c.loop-id.id-index x
          c.loop-id-test.true c.id-item.is _ c.loop-id.invariant.fault fine;
    }

-- the text of this file is not made
pub returns-in_err-text-clause-failed : goal.returns-in_err-text-clause-failed
returns-in_err-text-clause-failed g c =
    let p = err_from_is_err_and c.from_residual-in_err-text.result
    c.from_residual-in_err-text.ensures.1 in
    let database = g.F.Files.database c.args.files.now in
    let edits = c.args.suggestion.now.edits.items in
    let x = c.id-item.result in
    rw (p.1 ∙ ap Err p.2) (λ known.
    fault-here (file_fault database edits) c.deref-id-items.result.now c.loop-id.id-index x
    c.loop-id-test.true c.id-item.is _ c.loop-id.invariant.fault c.in_err-text.field-0.0
    (subst (λ es. file_fault database es x ≡ Some c.in_err-text.field-0.0)
    c.deref-in-loop-id.ensures.value (c.in_err-text.ensures.failed known)))
