-- The rows of an output: of each line, of each file, and of all, with the loci in them.
use Rattle.std.specs.Prelude.{ℕ, Bool, ◌||◌, min, List, [], ◌∷◌, ◌++◌, map, filter}
use Rattle.std.specs.Prelude.{fold, flat_map, Option, Some, None, length, if◌then◌else◌, not}
use Rattle.std.specs.Str.Lines.{lines}
use Rattle.codespan_output.specs.Types.{Config}
use Rattle.codespan_core.specs.FileModel.{FileModel, line_text}
use Rattle.codespan_core.specs.Labels.{LabelModel, is_primary, first_seen, multi_line_labels}
use Rattle.codespan_core.specs.Labels.{single_labels, lane_marks_on, is_empty}
use Rattle.codespan_output.specs.CharMetrics.{text_without_line_end}
use Rattle.codespan_output.specs.Lines.{drawn_lines}
use Rattle.codespan_output.specs.Rows.{Locus, HeaderText, Lanes, Line, Row, HeaderRow}
use Rattle.codespan_output.specs.Rows.{SnippetStartRow, EmptyRow, BreakRow, FirstNoteRow}
use Rattle.codespan_output.specs.Rows.{LaterNoteRow, FinalRow, rows_of}
use Rattle.codespan_output.specs.Sequences.{break_between, gap_between, in_sequence}

-- a file with its labels, in the order given; not the model of `LabeledFile`, which keeps less
pub record LabeledFileModel : Type 0 where
  pub file : FileModel
  pub labels : List LabelModel

-- a label of the diagnostic, with the id of its file
pub record LabelInFile (Id : Type 0) : Type 0 where
  pub file_id : Id
  pub label : LabelModel

-- one file with its labels
abbrev pub labeled_file_model : {Id : Type 0}
    → (Id → Id → Bool) → (Id → FileModel) → List (LabelInFile Id) → Id
    → LabeledFileModel
labeled_file_model {Id} same file labels id = record {
  file = file id;
  labels =
      map (λ (x : LabelInFile Id). x.label)
      (filter (λ (x : LabelInFile Id). same id x.file_id) labels);
}

-- the ids of the labels' files, in the order of their first label
abbrev pub file_ids : {Id : Type 0} → (Id → Id → Bool) → List (LabelInFile Id) → List Id
file_ids {Id} same labels = first_seen same (map (λ (x : LabelInFile Id). x.file_id) labels)

-- the labels' files in that order, each with its labels
abbrev pub labeled_file_models : {Id : Type 0}
    → (Id → Id → Bool) → (Id → FileModel) → List (LabelInFile Id)
    → List LabeledFileModel
labeled_file_models same file labels =
    map (labeled_file_model same file labels) (file_ids same labels)

-- ---- the rows of one file

-- the lanes of the file, with no lane mark in them
abbrev pub empty_lanes : LabeledFileModel → Lanes
empty_lanes s = record { count = length (multi_line_labels s.file s.labels); lane_marks = [] }

-- a line of the file, with what its labels do on it
abbrev pub line_at : LabeledFileModel → ℕ → Line
line_at s l = record {
  number = s.file.line_number l;
  text = text_without_line_end (line_text s.file l);
  labels = single_labels s.file s.labels l;
  lanes = record (empty_lanes s) { lane_marks = lane_marks_on s.file s.labels l };
}

-- the rows of drawn lines with their breaks, where the optional line is drawn before them
abbrev pub rows_of_drawn : LabeledFileModel → Option ℕ → List ℕ → List Row
rows_of_drawn s =
    in_sequence (λ l. l) (break_between (λ d. BreakRow (line_at s d).lanes ∷ []))
    (λ l. rows_of (line_at s l))

-- the same rows, from the shown lines alone, in ascending order
abbrev pub rows_of_shown : (ℕ → Line) → Option ℕ → List ℕ → List Row
rows_of_shown line =
    in_sequence (λ l. l)
    (gap_between (λ l. rows_of (line l)) (λ d. BreakRow (line d).lanes ∷ []))
    (λ l. rows_of (line l))

-- ---- the locus of a snippet

-- the least of some numbers, 0 where there is none
abbrev pub least : List ℕ → ℕ
least [] = 0
least (n ∷ ns) = fold min n ns

-- the first list, or the second where the first is empty
abbrev pub if_any : {A : Type 0} → List A → List A → List A
if_any [] others = others
if_any (x ∷ xs) others = x ∷ xs

-- the byte of a file's locus: the least start of its primary labels, or of all where none is
abbrev pub locus_byte_of : List LabelModel → ℕ
locus_byte_of labels =
    least (map (λ (x : LabelModel). x.start) (if_any (filter is_primary labels) labels))

-- the rows of a file's snippet, which starts with this locus
abbrev pub snippet : Config → Locus → LabeledFileModel → List Row
snippet config locus s =
    (SnippetStartRow locus ∷ EmptyRow (empty_lanes s) ∷ [])
    ++ rows_of_drawn s None (drawn_lines config s.file s.labels)

-- the row after a file's snippet, where something follows
abbrev pub empty_row_after : Bool → LabeledFileModel → List Row
empty_row_after followed s = if followed then EmptyRow (empty_lanes s) ∷ [] else []

-- ---- the rows of all files

-- the snippets of files with these loci. An empty row follows each but the last, and the last too
-- where notes follow
abbrev pub snippets : Config → Bool → List Locus → List LabeledFileModel → List Row
snippets config has_notes [] ss = []
snippets config has_notes (p ∷ ps) [] = []
snippets config has_notes (p ∷ ps) (s ∷ ss) =
    snippet config p s ++ empty_row_after (not (is_empty ss) || has_notes) s
    ++ snippets config has_notes ps ss

-- the rows of a note's lines
abbrev pub note_line_rows : List (List ℕ) → List Row
note_line_rows [] = []
note_line_rows (p ∷ ps) = FirstNoteRow p ∷ map LaterNoteRow ps

-- the rows of the notes
abbrev pub note_rows : List (List ℕ) → List Row
note_rows notes = flat_map (λ note. note_line_rows (lines note)) notes

-- the rows of rich style, where the files' snippets have these loci
abbrev pub rich_rows : Config → HeaderText → List Locus → List LabeledFileModel
    → List (List ℕ)
    → List Row
rich_rows config header_text loci ss notes =
    (HeaderRow None header_text ∷ snippets config (not (is_empty notes)) loci ss)
    ++ note_rows notes ++ (FinalRow ∷ [])

-- ---- short and medium style

-- the primary ones of these labels
abbrev pub primary_of : {Id : Type 0} → List (LabelInFile Id) → List (LabelInFile Id)
primary_of {Id} xs = filter (λ (x : LabelInFile Id). is_primary x.label) xs

-- a header with each of these loci, or one without a locus where there is none
abbrev pub header_rows : HeaderText → List Locus → List Row
header_rows header_text loci =
    if_any (map (λ (locus : Locus). HeaderRow (Some locus) header_text) loci)
    (HeaderRow None header_text ∷ [])
