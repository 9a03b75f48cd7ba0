use Rattle.codespan_core.proofs.Std.{◌≡◌, drop, list_any}
use Rattle.codespan_suggestions.proofs.files.has_file.Given as goal

-- no id before this one is equal to that of the file
abbrev pub invariant-loop-id : goal.invariant-loop-id
invariant-loop-id g l =
    list_any (λ (id : g.row.FileId.Denot). g.FileId.PartialEq.eq id l.file_id) l.ids
    ≡ list_any (λ (id : g.row.FileId.Denot). g.FileId.PartialEq.eq id l.file_id)
    (drop l.id-index l.ids)
