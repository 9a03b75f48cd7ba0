use Rattle.codespan_core.proofs.Std.{rules, Err, ap, ap₂, sym, map, ◌∙◌, ◌≡◌}
use Rattle.codespan_core.proofs.Std.{◌++◌, Some, subst, err_from_is_err_and, string_bytes, None}
use Rattle.codespan_suggestions.specs.EditedFiles.{edited_files}
use Rattle.codespan_suggestions.specs.Faults.{first_fault}
use Rattle.codespan_suggestions.specs.UnifiedDiffs.{file_patch}
use Rattle.codespan_suggestions.specs.NamedFiles.{named_file_fault}
use Rattle.codespan_suggestions.proofs.FaultLoops.{fault-more, fault-here}
use Rattle.codespan_suggestions.proofs.NamedParts.{no-part, part-more, parts-end}
use Rattle.codespan_suggestions.proofs.PatchedTexts.{unified-diffs-are-patches}
use Rattle.codespan_suggestions.proofs.patch.unified_diff.Goals as goal

-- no file comes before the first one
pub loop-id-init : goal.loop-id-init
loop-id-init g c =
    let database = g.F.Files.database c.args.files.now in
    let edits = c.args.suggestion.now.edits.items in
    let is : c.deref-id-items.result.now ≡ edited_files database.same edits =
    c.deref-id-items.ensures.value ∙ c.in_ok-ids.ensures.ids
    ∙ ap₂ (λ same es. edited_files same es)
    (sym ((g.met.F.Files c.lifetimes (search rules)).same_is_eq c.args.files.now))
    c.deref.ensures.value in
    record {
      parts = no-part database (file_patch database edits) _ c.new-text.ensures.bytes;
      fault = ap (λ ids. first_fault (map (named_file_fault database edits) ids)) (sym is);
    }

-- the patch of one more file are appended
pub loop-id-preserved : goal.loop-id-preserved
loop-id-preserved g c =
    let database = g.F.Files.database c.args.files.now in
    let edits = c.args.suggestion.now.edits.items in
    let x = c.id-item.result in
    let same = c.deref-in-loop-id.ensures.value in
    let made = c.in_ok-push_file_patch.ensures.text in
    let appended : string_bytes c.push_file_patch.new.output
    ≡ string_bytes c.loop-id.text ++ file_patch database edits (x, made.0) =
    subst (λ es. string_bytes c.push_file_patch.new.output
    ≡ string_bytes c.loop-id.text ++ file_patch database es (x, made.0)) same made.2 in
    let fine : named_file_fault database edits x ≡ None =
    subst (λ es. named_file_fault database es x ≡ None) same
    c.in_ok-push_file_patch.ensures.failed in
    record {
      parts =
          part-more database (file_patch database edits) c.deref-id-items.result.now
          c.loop-id.id-index x made.0 (string_bytes c.loop-id.text) _ c.loop-id-test.true
          c.id-item.is made.1 appended c.loop-id.invariant.parts;
      fault =
          fault-more (named_file_fault database edits) c.deref-id-items.result.now
          c.loop-id.id-index x c.loop-id-test.true c.id-item.is _ c.loop-id.invariant.fault fine;
    }

-- those of all files are
pub returns-clause-text : goal.returns-clause-text
returns-clause-text g c =
    let database = g.F.Files.database c.args.files.now in
    let edits = c.args.suggestion.now.edits.items in
    parts-end database (file_patch database edits) edits c.deref-id-items.result.now
    c.loop-id.id-index (string_bytes c.loop-id.text)
    (c.deref-id-items.ensures.value ∙ c.in_ok-ids.ensures.ids
    ∙ ap₂ (λ same es. edited_files same es)
    (sym ((g.met.F.Files c.lifetimes (search rules)).same_is_eq c.args.files.now))
    c.deref.ensures.value)
    c.loop-id-test.false c.loop-id.invariant.parts

-- those of this file are not
pub returns-in_err-push_file_patch-clause-failed :
    goal.returns-in_err-push_file_patch-clause-failed
returns-in_err-push_file_patch-clause-failed g c =
    let p = err_from_is_err_and c.from_residual-in_err-push_file_patch.result
    c.from_residual-in_err-push_file_patch.ensures.1 in
    let database = g.F.Files.database c.args.files.now in
    let edits = c.args.suggestion.now.edits.items in
    let x = c.id-item.result in
    rw (p.1 ∙ ap Err p.2) (λ known formatted.
    fault-here (named_file_fault database edits) c.deref-id-items.result.now
    c.loop-id.id-index x c.loop-id-test.true c.id-item.is _ c.loop-id.invariant.fault
    c.in_err-push_file_patch.field-0.0
    (subst (λ es. named_file_fault database es x
    ≡ Some c.in_err-push_file_patch.field-0.0) c.deref-in-loop-id.ensures.value
    (c.in_err-push_file_patch.ensures.failed known formatted)))

-- so the text is a patch
pub returns-clause-patches : goal.returns-clause-patches
returns-clause-patches g c =
    unified-diffs-are-patches (g.F.Files.database c.args.files.now)
    c.args.suggestion.now.edits.items _ (returns-clause-text g c)
