-- What the text edits of a code action make of the text of their file.
use Rattle.std.specs.Prelude.{◌≡◌, ◌≤◌, ℕ, List, [], ◌∷◌, None}
use Rattle.std.specs.List.{AllByRecursion, AllZip}
use Rattle.codespan_core.specs.FileModel.{FileDatabase, FileModel}
use Rattle.codespan_core.specs.LawfulFiles.{IsLawful}
use Rattle.codespan_edits.specs.EditLaws.{edited_once}
use Rattle.codespan_edits.specs.Edits as of_edits
use Rattle.codespan_edits.specs.Faults.{fault}
use Rattle.codespan_edits.specs.declared.edit.Edit.{Edit}
use Rattle.codespan_lsp.specs.Positions.{IsByteAt}
use Rattle.codespan_lsp.specs.declared.encoding.PositionEncoding.{PositionEncoding}
use Rattle.codespan_suggestions.specs.CodeActions.{TextEditView, file_text_edits, positions_failure}
use Rattle.codespan_suggestions.specs.EditedFiles.{edits_of_file, edited_text}

-- an edit replaces the bytes that are at the positions of a text edit by its text
pub record IsEditAt (encoding : PositionEncoding) (f : FileModel) (view : TextEditView)
    (edit : of_edits.TextEdit) : Type 0 where
  pub start : IsByteAt encoding f view.range.start edit.start
  pub end : IsByteAt encoding f view.range.end edit.end
  pub text : edit.replacement ≡ view.new_text

-- the text after edits that are made one after another, from the last to the first
abbrev pub made_backwards : List ℕ → List of_edits.TextEdit → List ℕ
made_backwards text [] = text
made_backwards text (e ∷ es) = edited_once (made_backwards text es) e

-- no insertion follows an edit that replaces bytes from the same one on
abbrev pub InsertionsComeFirst : List of_edits.TextEdit → Type 0
InsertionsComeFirst [] = Unit {0}
InsertionsComeFirst (e ∷ es) =
    AllByRecursion (λ (f : of_edits.TextEdit).
    f.start ≡ e.start → f.end ≡ f.start → e.end ≤ e.start) es
    × InsertionsComeFirst es

-- text edits make a text: all their positions are those of bytes, and the edits of these bytes make
-- it, from the last to the first, and have insertions first
pub record MakeText (encoding : PositionEncoding) (f : FileModel) (views : List TextEditView)
    (text : List ℕ) : Type 0 where
  pub found : (es : List of_edits.TextEdit) × AllZip (IsEditAt encoding f) views es
  pub made : (es : List of_edits.TextEdit) → AllZip (IsEditAt encoding f) views es
      → made_backwards f.text es ≡ text
  pub ordered : (es : List of_edits.TextEdit) → AllZip (IsEditAt encoding f) views es
      → InsertionsComeFirst es

-- where the edits of a file have no fault, and their positions no error, the text edits of a code
-- action make its text after the edits
abbrev pub CodeActionsMakeTexts : Type 0 → Type 0
CodeActionsMakeTexts Id = (encoding : PositionEncoding) (database : FileDatabase Id)
    (edits : List (Edit Id)) (id : Id) → IsLawful (database.file id)
    → fault (database.file id).text (edits_of_file database.same edits id) ≡ None
    → positions_failure encoding database edits id ≡ None
    → MakeText encoding (database.file id) (file_text_edits encoding database edits id)
    (edited_text database edits id)
