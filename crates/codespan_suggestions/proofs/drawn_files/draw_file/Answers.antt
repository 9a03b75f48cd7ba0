use Rattle.codespan_core.proofs.Std.{◌≡◌, length, ap, ◌∙◌, sym, length-map, List, ℕ}
use Rattle.codespan_core.proofs.Std.{string_bytes, subst, rules, IfSome}
use Rattle.codespan_edits.specs.Edits.{TextEdit, text_edit, text_edits}
use Rattle.codespan_edits.specs.DrawnRows.{diff_hunks}
use Rattle.codespan_edits.specs.RowViews.{context_view}
use Rattle.codespan_suggestions.specs.EditedFiles.{edits_of_file}
use Rattle.codespan_suggestions.specs.DrawnText.{location_in, usual_end}
use Rattle.codespan_suggestions.specs.DrawnFiles.{least_start}
use Rattle.codespan_suggestions.proofs.NamedEdits.{same-count}
use Rattle.codespan_suggestions.proofs.DrawnLemmas.{name-is, drawn-is}
use Rattle.codespan_suggestions.proofs.drawn_files.draw_file.Goals as goal

-- each edit of the file has an index
pub hunks_of_file-requires : goal.hunks_of_file-requires
hunks_of_file-requires g c =
    let found = c.in_ok-found.found in
    sym (sym (length-map found.edits.items text_edit)
    ∙ (ap length c.in_ok-found.ensures.edits
    ∙ (same-count g.F.FileId.PartialEq.eq c.args.edits.now c.args.id
    ∙ sym (ap length c.in_ok-found.ensures.indices))))

-- each part of the file is drawn
pub returns-clause-file : goal.returns-clause-file
returns-clause-file g c = λ stated.
    let claim : g.claim c.lifetimes = search rules in
    let database = g.F.Files.database c.args.files.now in
    let file = database.file c.args.id in
    let context = context_view c.args.context in
    let edits : List TextEdit = edits_of_file database.same c.args.edits.now c.args.id in
    let text : c.as_str-text.result.now ≡ file.text =
    c.as_str-text.ensures ∙ c.in_ok-source.ensures.value in
    let bytes : c.as_bytes-bytes.result.now ≡ file.text = c.as_bytes-bytes.ensures.value
    ∙ text in
    let same = (g.met.F.Files c.lifetimes claim).same_is_eq c.args.files.now in
    let found : text_edits c.in_ok-found.found.edits.items ≡ edits =
    c.in_ok-found.ensures.edits
    ∙ ap (λ eq. edits_of_file eq c.args.edits.now c.args.id) (sym same) in
    let least : c.least_start.result ≡ least_start edits =
    c.least_start.ensures ∙ ap least_start (ap text_edits c.deref.ensures.value ∙ found) in
    drawn-is context file edits _ _ _ _
    (name-is file.name (string_bytes c.in_ok-name.name) stated
    (subst (λ o. IfSome o (λ (name : List ℕ). string_bytes c.in_ok-name.name ≡ name))
    c.in_ok-named.ensures.value c.in_ok-name.ensures.text))
    (c.location_in-location.ensures
    ∙ (ap (λ t. location_in t c.least_start.result) bytes ∙ ap (location_in file.text) least))
    (c.in_ok-from_slice.ensures.items ∙ (c.usual_end.ensures ∙ ap usual_end bytes))
    (c.in_ok-hunks.ensures.hunks
    ∙ (ap (λ t. diff_hunks context t (text_edits c.in_ok-found.found.edits.items)) text
    ∙ ap (diff_hunks context file.text) found))
