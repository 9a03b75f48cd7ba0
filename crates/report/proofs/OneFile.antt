-- For the clauses of `rendering::script_diff` and `rendering::render_suggestion`: the edits of the
-- one file that a script speaks of.
use Rattle.codespan_core.proofs.Std.{◌≡◌, ℕ, ◌+◌, Bool, true, not, List, [], ◌∷◌}
use Rattle.codespan_core.proofs.Std.{map, filter, enumerate_from, refl, ap}
use Rattle.codespan_core.specs.FileModel.{FileDatabase}
use Rattle.codespan_core.specs.Labels.{first_seen}
use Rattle.codespan_edits.specs.Edits.{TextEdit, text_edit, text_edits}
use Rattle.codespan_edits.specs.declared.edit.Edit.{Edit}
use Rattle.codespan_output.specs.Lookups.{Failures}
use Rattle.codespan_suggestions.specs.EditedFiles.{edited_files}
use Rattle.report.specs.RenderedTexts.{only_file}

-- all ids are those of the one file
abbrev pub same : Unit {0} → Unit {0} → Bool
same i j = true

-- a file database of that file alone
abbrev pub one_file : List ℕ → List ℕ → Failures (Unit {0}) → FileDatabase (Unit {0})
one_file name source failure =
    record { same = same; file = only_file name source; failure = failure }

-- no id is that of another file
no_other : (ids : List (Unit {0})) → filter (λ (id : Unit {0}). not true) ids ≡ []
no_other [] = refl
no_other (id ∷ ids) = no_other ids

-- edits of it change no other file
pub only_edited : (edit : Edit (Unit {0})) (edits : List (Edit (Unit {0})))
    → edited_files same (edit ∷ edits) ≡ edit.file_id ∷ []
only_edited edit edits =
    ap (λ (ids : List (Unit {0})). edit.file_id ∷ ids)
    (no_other (first_seen same (map (λ (e : Edit (Unit {0})). e.file_id) edits)))

-- and each of them is one of its text
pub all_edits : (n : ℕ) (edits : List (Edit (Unit {0})))
    → map (λ (x : ℕ × Edit (Unit {0})). text_edit x.1)
    (filter (λ (x : ℕ × Edit (Unit {0})). true) (enumerate_from n edits))
    ≡ text_edits edits
all_edits n [] = refl
all_edits n (edit ∷ edits) =
    ap (λ (es : List TextEdit). text_edit edit ∷ es) (all_edits (n + 1) edits)
