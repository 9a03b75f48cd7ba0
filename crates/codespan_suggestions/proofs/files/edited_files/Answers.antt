use Rattle.codespan_core.proofs.Std.{ap, sym, ◌∙◌, ◌++◌, ◌≡◌, map, arith}
use Rattle.codespan_core.proofs.Std.{common_steps, true, false}
use Rattle.codespan_suggestions.proofs.FileLemmas.{has, others-start, files-skip, files-push}
use Rattle.codespan_suggestions.proofs.files.edited_files.Goals.{then-not-has_file+in_ok-push}
use Rattle.codespan_suggestions.proofs.files.edited_files.Goals.{else-not-has_file}
use Rattle.codespan_suggestions.proofs.files.edited_files.Goals as goal

-- no file is found yet
pub loop-edit-init : goal.loop-edit-init
loop-edit-init g c =
    rw c.new-ids.ensures.items
    (others-start g.FileId.PartialEq.eq (map (λ edit. edit.file_id) c.args.edits.now))

-- the file of one more edit is among these, or it comes last
pub loop-edit-preserved : goal.loop-edit-preserved
loop-edit-preserved g c =
    let same = g.FileId.PartialEq.eq in
    let x = c.edit-item.result in
    let i = c.loop-edit.edit-index in
    let edits = c.args.edits.now in
    let ids = c.loop-edit.ids.items in
    let found : c.has_file.result ≡ has same ids x.file_id =
    c.has_file.ensures
    ∙ ap (λ js. has same js x.file_id) c.deref.ensures.value in
    elim c.if-not-has_file.branch [
      | then-not-has_file+in_ok-push w ↦
          let none : has same ids x.file_id ≡ false =
          grind (arith, common_steps, found, w.if-not-has_file.true) in
          rw (w.ids-is, w.in_ok-push.ensures.items)
          (sym (files-push same edits i x ids c.loop-edit-test.true c.edit-item.is none)
          ∙ c.loop-edit.invariant)
      | else-not-has_file w ↦
          let there : has same ids x.file_id ≡ true =
          grind (arith, common_steps, found, w.if-not-has_file.false) in
          rw w.ids-is
          (ap (λ js. ids ++ js) (sym (files-skip same g.met.FileId.Eq.laws edits i x ids
          c.loop-edit-test.true c.edit-item.is there))
          ∙ c.loop-edit.invariant)
    ]
