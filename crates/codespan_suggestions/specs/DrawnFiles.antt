-- The files that a suggestion changes, as its output shows them.
use Rattle.std.specs.Prelude.{ℕ, Bool, nat_lt, List, map, filter, fold, min, ◌-◌, ◌^◌}
use Rattle.std.specs.Prelude.{length, IsSome}
use Rattle.std.specs.List.{AllByRecursion}
use Rattle.codespan_core.specs.FileModel.{FileDatabase, FileModel, name_text}
use Rattle.codespan_output.specs.Rows.{Locus}
use Rattle.codespan_output.specs.Types.{Config}
use Rattle.codespan_edits.specs.Edits.{TextEdit}
use Rattle.codespan_edits.specs.Numbers.{NumberedRow}
use Rattle.codespan_edits.specs.DrawnRows.{Context, diff_hunks}
use Rattle.codespan_edits.specs.declared.edit.Edit.{Edit}
use Rattle.codespan_suggestions.specs.EditedFiles.{edited_files, edits_of_file}
use Rattle.codespan_suggestions.specs.DrawnText.{location_in, usual_end}

-- a file as an output shows it: its name and the location of its first edit, the usual end of its
-- lines, and the hunks of its diff
pub record DrawnFile : Type 0 where
  pub locus : Locus
  pub usual_end : List ℕ
  pub hunks : List (List NumberedRow)

-- the least byte, of 64 bits, at which an edit starts
abbrev pub least_start : List TextEdit → ℕ
least_start edits = fold min (2 ^ 64 - 1) (map (λ (e : TextEdit). e.start) edits)

-- a file with its edits as an output shows it
abbrev pub drawn : Context → FileModel → List TextEdit → DrawnFile
drawn context file edits = record {
  locus = record {
    name = name_text file;
    location = location_in file.text (least_start edits);
  };
  usual_end = usual_end file.text;
  hunks = diff_hunks context file.text edits;
}

-- whether a file is shown: whether a row of its diff is drawn
abbrev pub has_hunk : DrawnFile → Bool
has_hunk f = nat_lt 0 (length f.hunks)

-- the context of rows: how many lines a configuration has before a label and after it
abbrev pub context_of : Config → Context
context_of config = record {
  before = config.before_label_lines;
  after = config.after_label_lines;
}

module _ {Id : Type 0} (context : Context) (database : FileDatabase Id) (edits : List (Edit Id))
  where
    -- a file that is edited as an output shows it
    abbrev pub drawn_file : Id → DrawnFile
    drawn_file id = drawn context (database.file id) (edits_of_file database.same edits id)

    -- the files that are shown, in the order of their first edits
    abbrev pub drawn_files : List DrawnFile
    drawn_files = filter has_hunk (map drawn_file (edited_files database.same edits))

module _ {Id : Type 0} (database : FileDatabase Id) (edits : List (Edit Id)) where
  -- each file that is edited states its name
  abbrev pub NamesAreStated : Type 0
  NamesAreStated =
      AllByRecursion (λ id. IsSome (database.file id).name) (edited_files database.same edits)
