use Rattle.std.proofs.Common.{ℕ, List, [], ◌∷◌, ◌++◌, ap, ◌∙◌, map, string_bytes}
use Rattle.std.proofs.Common.{sym, take}
use Rattle.std.proofs.lemmas.List.{map_more, map_push}
use Rattle.codespan_base.specs.SimpleFilesViews.{entries}
use Rattle.gallery_cases.specs.Database.{borrowed_view}
use Rattle.gallery_cases.specs.Cases.{file_view}
use Rattle.gallery_cases.proofs.database.several_files.Goals as goal

-- the file is added by its name and its source
pub loop-file-preserved : goal.loop-file-preserved
loop-file-preserved c =
    let file = c.file-item.result in
    let files = c.args.files.now in
    let i = c.loop-file.file-index in
    let named =
    ap (λ (name : List ℕ). (name, c.as_str-in-loop-file.result.now)) c.as_str.ensures.value in
    let sourced = ap (λ (source : List ℕ). (string_bytes file.name, source))
    c.as_str-in-loop-file.ensures.value in
    ap (map borrowed_view) c.in_ok-add.ensures.ok
    ∙ map_push borrowed_view (entries c.loop-file.database)
    (c.as_str.result, c.as_str-in-loop-file.result)
    ∙ ap (λ views. views ++ borrowed_view (c.as_str.result, c.as_str-in-loop-file.result) ∷ [])
    c.loop-file.invariant
    ∙ ap (λ view. map file_view (take i files) ++ view ∷ [])
    (named ∙ sourced ∙ ap file_view c.file-item.is)
    ∙ sym (map_more file_view files i file c.loop-file-test.true)
