-- For `outputs_mean_labels`: the rows of an output can be fitted where its files are lawful.
use Rattle.codespan_core.proofs.Std.{Bool, List, [], ◌∷◌, ◌++◌, filter, reverse, Option}
use Rattle.codespan_core.proofs.Std.{Some, None, IfSome, AllByRecursion, cond_both, ℕ, ◌||◌}
use Rattle.std.specs.Str.Lines.{lines}
use Rattle.codespan_core.specs.FileModel.{FileDatabase}
use Rattle.codespan_core.specs.Labels.{LabelModel, LaneMark}
use Rattle.codespan_core.specs.LawfulFiles.{IsLawful}
use Rattle.codespan_output.specs.Types.{Config}
use Rattle.codespan_output.specs.{Row, Line, HeaderRow, EmptyRow}
use Rattle.codespan_output.specs.{SourceRow, HangingRow}
use Rattle.codespan_output.specs.{UnderlineRow, LaterNoteRow, FinalRow, rows_of}
use Rattle.codespan_output.specs.{hanging_labels, has_underline, leading_whitespace, line_of_row}
use Rattle.codespan_output.specs.{IsFittable, LabeledFileModel, LabelInFile, line_at, Locus}
use Rattle.codespan_output.specs.{HeaderText, rows_of_drawn, drawn_lines, snippet, snippets}
use Rattle.codespan_output.specs.{empty_lanes, empty_row_after, note_rows, note_line_rows}
use Rattle.codespan_output.specs.{rich_rows}
use Rattle.codespan_output.specs.{file_ids, labeled_file_model, labeled_file_models, break_between}
use Rattle.codespan_output.specs.{CanFit}
use Rattle.codespan_output.specs.Private.{caret_rows, pointer_and_hanging_rows, underline_rows}
use Rattle.codespan_output.specs.Private.{break_rows, line_rows, has_any}
use Rattle.codespan_output.proofs.Fitting.DrawnLines.{line_at-fittable}
use Rattle.codespan_output.proofs.Lanes.LineLemmas.{each_all, each_map}
use Rattle.codespan_output.proofs.Utf8.ListElements.{all-append}
use Rattle.codespan_output.proofs.Utf8.Sequences.{all-break, all-sequence}

-- ---- rows that can be fitted

-- the line can be fitted, if it has to be
abbrev pub LineCanFit : Option ℕ → Line → Type 0
LineCanFit width line = IfSome width (λ _. IsFittable line)

-- so can the line of the row, if it has one
abbrev pub RowCanFit : Option ℕ → Row → Type 0
RowCanFit width row = IfSome (line_of_row row) (LineCanFit width)

-- the file is lawful, if its lines have to be fitted
abbrev pub FileCanFit : Option ℕ → LabeledFileModel → Type 0
FileCanFit width s = IfSome width (λ _. IsLawful s.file)

module _ (width : Option ℕ) where
  -- ---- the rows of a line

  can-hang : (line : Line) (labels : List LabelModel) → LineCanFit width line
      → AllByRecursion (RowCanFit width) (pointer_and_hanging_rows line labels)
  can-hang line [] h = tt
  can-hang line (x ∷ xs) h = (
    h,
    each_map (RowCanFit width) (HangingRow line) (reverse (x ∷ xs))
        (each_all (λ (y : LabelModel). RowCanFit width (HangingRow line y)) (reverse (x ∷ xs))
        (λ y. h)),
  )

  can-caret : (line : Line) (labels : List LabelModel) → LineCanFit width line
      → AllByRecursion (RowCanFit width) (caret_rows line labels)
  can-caret line [] h = tt
  can-caret line (x ∷ xs) h = (h, tt)

  can-line : (line : Line) → LineCanFit width line
      → AllByRecursion (RowCanFit width) (rows_of line)
  can-line line h =
      let test : LaneMark → Bool = λ m. has_underline (leading_whitespace line.text) m.multi_label
      in
      let underlined : List LaneMark = filter test line.lanes.lane_marks in
      all-append (RowCanFit width)
      ((SourceRow line ∷ caret_rows line line.labels)
      ++ pointer_and_hanging_rows line (hanging_labels line.labels))
      (underline_rows line)
      (all-append (RowCanFit width) (SourceRow line ∷ caret_rows line line.labels)
      (pointer_and_hanging_rows line (hanging_labels line.labels))
      (h, can-caret line line.labels h)
      (can-hang line (hanging_labels line.labels) h))
      (each_map (RowCanFit width) (UnderlineRow line) underlined
      (each_all (λ (m : LaneMark). RowCanFit width (UnderlineRow line m)) underlined (λ m. h)))

  -- ---- the rows of a file

  can-line_at : (s : LabeledFileModel) → FileCanFit width s → (l : ℕ)
      → LineCanFit width (line_at s l)
  can-line_at s law l = by_width width law
    where
      by_width : (o : Option ℕ) → FileCanFit o s → LineCanFit o (line_at s l)
      by_width None law = tt
      by_width (Some n) law = line_at-fittable s law l

  can-drawn : (s : LabeledFileModel) → FileCanFit width s → (previous : Option ℕ) (ls : List ℕ)
      → AllByRecursion (RowCanFit width) (rows_of_drawn s previous ls)
  can-drawn s law previous ls =
      all-sequence (RowCanFit width) (λ l. l) (break_between (break_rows (line_at s)))
      (line_rows (line_at s))
      (all-break (RowCanFit width) (break_rows (line_at s)) (λ d. (tt, tt)))
      (λ l. can-line (line_at s l) (can-line_at s law l)) previous ls

  -- the snippet of a file, with the empty row after it, if it has one
  pub can-snippet : (config : Config) (followed : Bool) (at : Locus) (s : LabeledFileModel)
      → FileCanFit width s
      → AllByRecursion (RowCanFit width) (snippet config at s ++ empty_row_after followed s)
  can-snippet config followed at s law =
      all-append (RowCanFit width) (snippet config at s) (empty_row_after followed s)
      (tt, (tt, can-drawn s law None (drawn_lines config s.file s.labels)))
      (cond_both followed (EmptyRow (empty_lanes s) ∷ []) [] (AllByRecursion (RowCanFit width))
      (λ _. (tt, tt)) (λ _. tt))

  -- ---- the rows of all files

  can-snippets : (config : Config) (has_notes : Bool) (loci : List Locus)
      (ss : List LabeledFileModel) → AllByRecursion (FileCanFit width) ss
      → AllByRecursion (RowCanFit width) (snippets config has_notes loci ss)
  can-snippets config has_notes [] ss h = tt
  can-snippets config has_notes (p ∷ ps) [] h = tt
  can-snippets config has_notes (p ∷ ps) (s ∷ ss) h =
      all-append (RowCanFit width)
      (snippet config p s ++ empty_row_after (has_any ss || has_notes) s)
      (snippets config has_notes ps ss)
      (can-snippet config (has_any ss || has_notes) p s h.0)
      (can-snippets config has_notes ps ss h.1)

  can-note : (ps : List (List ℕ)) → AllByRecursion (RowCanFit width) (note_line_rows ps)
  can-note [] = tt
  can-note (p ∷ ps) = (
    tt,
    each_map (RowCanFit width) LaterNoteRow ps
        (each_all (λ (q : List ℕ). RowCanFit width (LaterNoteRow q)) ps (λ q. tt)),
  )

  can-notes : (notes : List (List ℕ)) → AllByRecursion (RowCanFit width) (note_rows notes)
  can-notes [] = tt
  can-notes (note ∷ notes) =
      all-append (RowCanFit width) (note_line_rows (lines note)) (note_rows notes)
      (can-note (lines note)) (can-notes notes)

  -- all rows of a rich output
  pub can-rich : (config : Config) (header_text : HeaderText) (loci : List Locus)
      (ss : List LabeledFileModel) (notes : List (List ℕ)) → AllByRecursion (FileCanFit width) ss
      → AllByRecursion (RowCanFit width) (rich_rows config header_text loci ss notes)
  can-rich config header_text loci ss notes h =
      let first : List Row = HeaderRow None header_text ∷ snippets config (has_any notes) loci ss
      in
      all-append (RowCanFit width) (first ++ note_rows notes) (FinalRow ∷ [])
      (all-append (RowCanFit width) first (note_rows notes)
      (tt, can-snippets config (has_any notes) loci ss h) (can-notes notes))
      (tt, tt)

-- the files of labels are lawful, where all are
pub can-files : {Id : Type 0} (config : Config) (files : FileDatabase Id)
    (labels : List (LabelInFile Id)) → CanFit config files
    → AllByRecursion (FileCanFit config.max_width)
    (labeled_file_models files.same files.file labels)
can-files {Id} config files labels h =
    each_map (FileCanFit config.max_width) (labeled_file_model files.same files.file labels)
    (file_ids files.same labels)
    (each_all
    (λ (id : Id). FileCanFit config.max_width
    (labeled_file_model files.same files.file labels id))
    (file_ids files.same labels) (λ id. by_width config.max_width h id))
  where
    by_width : (width : Option ℕ) → IfSome width (λ _. (id : Id) → IsLawful (files.file id))
        → (id : Id) → IfSome width (λ _. IsLawful (files.file id))
    by_width None h id = tt
    by_width (Some n) h id = h id
