use Rattle.codespan_core.proofs.Std.{Err, ap, sym, ◌∙◌, err_from_is_err_and, subst, map}
use Rattle.std.specs.Prelude.{IsSome}
use Rattle.std.specs.List.{AllByRecursion}
use Rattle.codespan_edits.specs.RowViews.{context_view}
use Rattle.codespan_suggestions.specs.DrawnFiles.{drawn_file, drawn_files}
use Rattle.codespan_suggestions.specs.NamedFiles.{named_file_fault}
use Rattle.codespan_suggestions.specs.Private.FileViews.{file_view}
use Rattle.codespan_suggestions.proofs.DrawnLemmas.{has-here, files-more, none-more, fault-first}
use Rattle.codespan_suggestions.proofs.drawn_files.draw_files.Goals as goal

-- one more file is looked up
pub loop-id-preserved : goal.loop-id-preserved
loop-id-preserved g c =
    let database = g.F.Files.database c.args.files.now in
    let edits = c.args.edits.now in
    let items = c.deref-id-items.result.now in
    let x = c.id-item.result in
    record {
      ids = c.loop-id.invariant.ids;
      files = λ stated.
          files-more items c.loop-id.id-index x c.loop-id-test.true c.id-item.is
          (drawn_file (context_view c.args.context) database edits)
          (map file_view c.loop-id.kept.items) (map file_view c.keep_file.new.kept.items)
          (file_view c.in_ok-file.file) (drawn_files (context_view c.args.context) database edits)
          c.in_ok-keep_file.ensures.kept
          (c.in_ok-file.ensures.file
          (has-here items c.loop-id.id-index x c.loop-id-test.true c.id-item.is
          (λ id. IsSome (database.file id).name)
          (subst (AllByRecursion (λ id. IsSome (database.file id).name))
          (sym c.loop-id.invariant.ids) stated)))
          (c.loop-id.invariant.files stated);
      fault =
          none-more items c.loop-id.id-index x c.loop-id-test.true c.id-item.is
          (named_file_fault database edits) _ c.loop-id.invariant.fault c.in_ok-file.ensures.failed;
    }

-- this file is not drawn
pub returns-in_err-file-clause-failed : goal.returns-in_err-file-clause-failed
returns-in_err-file-clause-failed g c =
    let p = err_from_is_err_and c.from_residual-in_err-file.result
    c.from_residual-in_err-file.ensures.1 in
    let database = g.F.Files.database c.args.files.now in
    rw (p.1 ∙ ap Err p.2) (λ memory format.
    fault-first c.deref-id-items.result.now c.loop-id.id-index c.id-item.result c.loop-id-test.true
    c.id-item.is (named_file_fault database c.args.edits.now) _ c.in_err-file.field-0.0
    c.loop-id.invariant.fault (c.in_err-file.ensures.failed memory format))
