use Rattle.codespan_core.proofs.Std.{◌∙◌, arith, string_bytes}
use Rattle.codespan_suggestions.specs.FixIts.{fix_it}
use Rattle.codespan_suggestions.proofs.FixItLines.{line-more}
use Rattle.codespan_suggestions.proofs.NextEdits.{edit-inside, edit-start, edit-end, edit-next}
use Rattle.codespan_suggestions.proofs.fix_it.push_fix_its.Goals as goal

-- the index is that of an edit
pub index-requires : goal.index-requires
index-requires g c =
    omega (
      arith,
      c.args.file.now.edits.ok,
      edit-inside c.args.lines.now.text.now c.args.file.now.edits.items
          c.deref-index-items.result.now c.loop-index.index-index c.requires
          (c.deref-index-items.ensures.value ∙ c.args.file.now.ordered) c.loop-index-test.true,
    )

-- the edit is in the text
pub push_fix_it-requires-clause-start : goal.push_fix_it-requires-clause-start
push_fix_it-requires-clause-start g c =
    edit-start c.args.lines.now.text.now c.args.file.now.edits.items
    c.deref-index-items.result.now c.loop-index.index-index c.requires
    (c.deref-index-items.ensures.value ∙ c.args.file.now.ordered) c.loop-index-test.true
    c.index.result.now c.index.ensures

pub push_fix_it-requires-clause-end : goal.push_fix_it-requires-clause-end
push_fix_it-requires-clause-end g c =
    edit-end c.args.lines.now.text.now c.args.file.now.edits.items
    c.deref-index-items.result.now c.loop-index.index-index c.requires
    (c.deref-index-items.ensures.value ∙ c.args.file.now.ordered) c.loop-index-test.true
    c.index.result.now c.index.ensures

-- its line is appended
pub loop-index-preserved : goal.loop-index-preserved
loop-index-preserved g c =
    line-more (fix_it c.args.name.now c.args.lines.now.text.now)
    (string_bytes c.loop-index.output) _ _ _ _ _
    (edit-next c.args.lines.now.text.now c.args.file.now.edits.items
    c.deref-index-items.result.now c.loop-index.index-index c.requires
    (c.deref-index-items.ensures.value ∙ c.args.file.now.ordered) c.loop-index-test.true
    c.index.result.now c.index.ensures)
    c.in_ok-push_fix_it.ensures c.loop-index.invariant
