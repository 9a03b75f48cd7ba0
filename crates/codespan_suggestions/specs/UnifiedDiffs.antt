-- The unified diff of a suggestion: the hunks of each file that changes, with three lines of
-- context.
use Rattle.std.specs.Prelude.{◌≡◌, ℕ, nat_lt, ◌==◌, Bool, ◌||◌, if◌then◌else◌}
use Rattle.std.specs.Prelude.{List, [], ◌∷◌, ◌++◌, flat_map, length, slice_index_or}
use Rattle.std.specs.Prelude.{codes}
use Rattle.std.specs.List.{filter_map, list_any}
use Rattle.std.specs.Fmt.{decimal}
use Rattle.std.specs.Str.{byte}
use Rattle.codespan_core.specs.FileModel.{FileDatabase}
use Rattle.codespan_edits.specs.Diffs.{Row, is_whole}
use Rattle.codespan_edits.specs.DrawnRows.{Context, diff_hunks}
use Rattle.codespan_edits.specs.Numbers.{NumberedRow}
use Rattle.codespan_edits.specs.declared.edit.Edit.{Edit}
use Rattle.codespan_edits.specs.declared.rows.RowSign.{RowSign}
use Rattle.codespan_edits.specs.declared.rows.RowSign.TheVariants.{Kept, Removed, Added}
use Rattle.codespan_suggestions.specs.EditedFiles.{edits_of_file}
use Rattle.codespan_suggestions.specs.Escapes.{quoted}
use Rattle.codespan_suggestions.specs.NamedFiles.{AreNamedFiles}

-- three lines before a change, and three after it
abbrev pub patch_context : Context
patch_context = record { before = 3; after = 3 }

-- whether a name has a control character, a quotation mark or a backslash
abbrev pub needs_quotes : List ℕ → Bool
needs_quotes = list_any (λ b.
    nat_lt b (byte " ") || (b == 127 || (b == byte "\"" || b == byte "\\")))

-- whether a name has a space
abbrev pub has_space : List ℕ → Bool
has_space = list_any (λ b. b == byte " ")

-- a path, between quotation marks where its name needs them, and before a tab where that has a
-- space
abbrev pub path_text : List ℕ → List ℕ → List ℕ
path_text folder name =
    if needs_quotes name then quoted (folder ++ name)
    else folder ++ (name ++ (if has_space name then codes "\t" else []))

-- the two lines before the hunks of a file
abbrev pub file_header : List ℕ → List ℕ
file_header name =
    codes "--- " ++ (path_text (codes "a/") name
    ++ (codes "\n+++ " ++ (path_text (codes "b/") name ++ codes "\n")))

-- the numbers that the rows of a hunk have in the old text, and in the new one
abbrev pub old_numbers : List NumberedRow → List ℕ
old_numbers = filter_map (λ (r : NumberedRow). r.old_number)

abbrev pub new_numbers : List NumberedRow → List ℕ
new_numbers = filter_map (λ (r : NumberedRow). r.new_number)

-- the first number, 0 where there is none, and how many there are
abbrev pub numbers_text : List ℕ → List ℕ
numbers_text numbers =
    decimal (slice_index_or numbers 0 0) ++ (codes "," ++ decimal (length numbers))

-- the line before the rows of a hunk
abbrev pub hunk_header : List NumberedRow → List ℕ
hunk_header rows =
    codes "@@ -" ++ (numbers_text (old_numbers rows)
    ++ (codes " +" ++ (numbers_text (new_numbers rows) ++ codes " @@\n")))

-- the byte of a sign
abbrev pub sign_byte : RowSign → ℕ
sign_byte Kept = byte " "
sign_byte Removed = byte "-"
sign_byte Added = byte "+"

-- what follows a line that has no newline
abbrev pub newline_mark : List ℕ → List ℕ
newline_mark line = if is_whole line then [] else codes "\n\\ No newline at end of file\n"

-- a row
abbrev pub row_text : Row → List ℕ
row_text r = sign_byte r.sign ∷ (r.line ++ newline_mark r.line)

-- a hunk
abbrev pub hunk_text : List NumberedRow → List ℕ
hunk_text rows = hunk_header rows ++ flat_map (λ (r : NumberedRow). row_text r.row) rows

-- the hunks of a file with this name, which is left out where it has none
abbrev pub patch_text : List ℕ → List (List NumberedRow) → List ℕ
patch_text name [] = []
patch_text name (hunk ∷ hunks) = file_header name ++ flat_map hunk_text (hunk ∷ hunks)

module _ {Id : Type 0} (database : FileDatabase Id) (edits : List (Edit Id)) where
  -- the hunks of a file
  abbrev pub file_hunks : Id → List (List NumberedRow)
  file_hunks id =
      diff_hunks patch_context (database.file id).text (edits_of_file database.same edits id)

  -- the patch of a file with this name
  abbrev pub file_patch : Id × List ℕ → List ℕ
  file_patch x = patch_text x.1 (file_hunks x.0)

  -- a text is the unified diff of the edits, with the names of their files
  abbrev pub IsUnifiedDiff : List ℕ → Type 0
  IsUnifiedDiff text =
      (named : List (Id × List ℕ)) × AreNamedFiles database edits named
      × (text ≡ flat_map file_patch named)
