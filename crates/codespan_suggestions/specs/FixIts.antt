-- The fix-its of a suggestion: a line for each edit, in clang's format.
use Rattle.std.specs.Prelude.{◌≡◌, ℕ, List, ◌++◌, flat_map, codes}
use Rattle.std.specs.Fmt.{decimal}
use Rattle.codespan_core.specs.FileModel.{FileDatabase}
use Rattle.codespan_edits.specs.Edits.{TextEdit, ordered}
use Rattle.codespan_edits.specs.declared.edit.Edit.{Edit}
use Rattle.codespan_suggestions.specs.EditedFiles.{edits_of_file}
use Rattle.codespan_suggestions.specs.Escapes.{quoted}
use Rattle.codespan_suggestions.specs.LineColumns.{line_number, byte_column}
use Rattle.codespan_suggestions.specs.NamedFiles.{AreNamedFiles}

-- the line and the column of a byte
abbrev pub position_text : List ℕ → ℕ → List ℕ
position_text text byte =
    decimal (line_number text byte) ++ (codes ":" ++ decimal (byte_column text byte))

-- the range of an edit
abbrev pub range_text : List ℕ → TextEdit → List ℕ
range_text text edit =
    codes "{" ++ (position_text text edit.start
    ++ (codes "-" ++ (position_text text edit.end ++ codes "}")))

-- the line of an edit of a file with this name and text
abbrev pub fix_it : List ℕ → List ℕ → TextEdit → List ℕ
fix_it name text edit =
    codes "fix-it:" ++ (quoted name ++ (codes ":" ++ (range_text text edit
    ++ (codes ":" ++ (quoted edit.replacement ++ codes "\n")))))

module _ {Id : Type 0} (database : FileDatabase Id) (edits : List (Edit Id)) where
  -- the lines of a file with this name: its edits in their order
  abbrev pub file_fix_its : Id × List ℕ → List ℕ
  file_fix_its x =
      flat_map (fix_it x.1 (database.file x.0).text)
      (ordered (edits_of_file database.same edits x.0))

  -- a text is the fix-its of the edits, with the names of their files
  abbrev pub AreFixIts : List ℕ → Type 0
  AreFixIts text =
      (named : List (Id × List ℕ)) × AreNamedFiles database edits named
      × (text ≡ flat_map file_fix_its named)
