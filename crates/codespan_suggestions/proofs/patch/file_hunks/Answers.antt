use Rattle.codespan_core.proofs.Std.{◌≡◌, length, ap, ◌∙◌, sym, subst}
use Rattle.codespan_edits.specs.Edits.{text_edits}
use Rattle.codespan_suggestions.specs.Faults.{NamesEdits}
use Rattle.codespan_suggestions.proofs.NamedEdits.{fault-names, same-count}
use Rattle.codespan_suggestions.proofs.patch.file_hunks.Goals as goal

-- the fault names edits of the file, each of which has an index
pub by_indices-requires : goal.by_indices-requires
by_indices-requires g c =
    let count : length (text_edits c.deref.result.now) ≡ length c.deref-in_default.result.now =
    ap (λ es. length (text_edits es)) c.deref.ensures.value
    ∙ (ap length c.in_ok-found.ensures.edits
    ∙ (same-count g.F.FileId.PartialEq.eq c.args.edits.now c.args.id
    ∙ sym (ap length (c.deref-in_default.ensures.value ∙ c.in_ok-found.ensures.indices)))) in
    subst (λ n. NamesEdits n c.in-Err.error) count
    (fault-names c.as_str.result.now (text_edits c.deref.result.now) c.in-Err.error
    (c.in-Err.ensures.failed c.in_default.not-OutOfMemory))
