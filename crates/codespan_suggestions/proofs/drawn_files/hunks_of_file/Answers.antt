use Rattle.codespan_core.proofs.Std.{◌≡◌, length, ap, ◌∙◌, sym, subst, length-map}
use Rattle.codespan_edits.specs.Edits.{text_edit, text_edits}
use Rattle.codespan_suggestions.specs.Faults.{NamesEdits}
use Rattle.codespan_suggestions.proofs.NamedEdits.{fault-names}
use Rattle.codespan_suggestions.proofs.drawn_files.hunks_of_file.Goals as goal

-- the fault names edits of the file, each of which has an index
pub by_indices-requires : goal.by_indices-requires
by_indices-requires g c =
    let count : length (text_edits c.deref.result.now) ≡ length c.deref-in_default.result.now =
    length-map c.deref.result.now text_edit
    ∙ (ap length c.deref.ensures.value
    ∙ (sym c.requires ∙ sym (ap length c.deref-in_default.ensures.value))) in
    subst (λ n. NamesEdits n c.in-Err.error) count
    (fault-names c.args.text.now (text_edits c.deref.result.now) c.in-Err.error
    (c.in-Err.ensures.failed c.in_default.not-OutOfMemory))
