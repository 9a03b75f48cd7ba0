use Rattle.codespan_core.proofs.Std.{◌∙◌, Err, ap, arith, err_from_is_err_and}
use Rattle.codespan_suggestions.specs.CodeActions.{text_edit_view, text_edit_of, edit_failure}
use Rattle.codespan_suggestions.proofs.MadeLists.{made-more, failure-more, failure-here}
use Rattle.codespan_suggestions.proofs.NextEdits.{edit-inside, edit-next}
use Rattle.codespan_suggestions.proofs.action.text_edits.Goals as goal

-- the index is that of an edit
pub index-requires : goal.index-requires
index-requires g c =
    omega (
      arith,
      c.args.file.now.edits.ok,
      edit-inside ((g.F.Files.database c.args.files.now).file c.args.id).text
          c.args.file.now.edits.items c.deref-index-items.result.now c.loop-index.index-index
          c.requires (c.deref-index-items.ensures.value ∙ c.args.file.now.ordered)
          c.loop-index-test.true,
    )

-- its text edit is made
pub loop-index-preserved : goal.loop-index-preserved
loop-index-preserved g c =
    let database = g.F.Files.database c.args.files.now in
    let is = edit-next (database.file c.args.id).text c.args.file.now.edits.items
    c.deref-index-items.result.now c.loop-index.index-index c.requires
    (c.deref-index-items.ensures.value ∙ c.args.file.now.ordered) c.loop-index-test.true
    c.index.result.now c.index.ensures in
    record {
      edits =
          made-more text_edit_view (text_edit_of c.args.encoding (database.file c.args.id)) _ _ _
          _ _ _ _ c.in_ok-push.ensures.items c.in_ok-edit.ensures.edit is
          c.loop-index.invariant.edits;
      failed =
          failure-more
          (edit_failure c.args.encoding (database.file c.args.id) (database.failure c.args.id)) _
          _ _ is _ c.loop-index.invariant.failed c.in_ok-edit.ensures.failed;
    }

-- or its positions have an error
pub returns-in_err-edit-clause-failed : goal.returns-in_err-edit-clause-failed
returns-in_err-edit-clause-failed g c =
    let p = err_from_is_err_and c.from_residual-in_err-edit.result
    c.from_residual-in_err-edit.ensures.1 in
    let database = g.F.Files.database c.args.files.now in
    let is = edit-next (database.file c.args.id).text c.args.file.now.edits.items
    c.deref-index-items.result.now c.loop-index.index-index c.requires
    (c.deref-index-items.ensures.value ∙ c.args.file.now.ordered) c.loop-index-test.true
    c.index.result.now c.index.ensures in
    rw (p.1 ∙ ap Err p.2) (λ known.
    failure-here
    (edit_failure c.args.encoding (database.file c.args.id) (database.failure c.args.id)) _ _ _ is
    _ c.loop-index.invariant.failed c.in_err-edit.field-0.0
    (c.in_err-edit.ensures.failed known))
