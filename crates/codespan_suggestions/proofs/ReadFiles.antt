-- The rows of files, as they are read, for the clause of `laws::sources_and_output_give_texts`.
use Rattle.codespan_core.proofs.Std.{◌≡◌, ◌∙◌, ℕ, Bool, true, false, if◌then◌else◌, List, []}
use Rattle.codespan_core.proofs.Std.{◌∷◌, ◌++◌, map, flat_map, refl, sym, ap, append_assoc}
use Rattle.codespan_core.proofs.Std.{append-nil, map-append, bytes_eq, subst}
use Rattle.codespan_core.proofs.Std.{AllByRecursion}
use Rattle.std.proofs.lemmas.Slice.Eq.{bytes_eq-Decides}
use Rattle.std.specs.Bool.{Decides}
use Rattle.codespan_edits.specs.HunkLaws.{rows_of_hunks}
use Rattle.codespan_edits.specs.Numbers.{NumberedRow}
use Rattle.codespan_suggestions.specs.DrawnText.{shown_text, line_end}
use Rattle.codespan_suggestions.specs.DrawnFiles.{DrawnFile}
use Rattle.codespan_suggestions.specs.SuggestionRows.{Row, line_rows, hunk_rows}
use Rattle.codespan_suggestions.specs.SuggestionRows.{separated, file_rows}
use Rattle.codespan_suggestions.specs.SuggestionRows.Row.{StartRow, EmptyRow, BreakRow}
use Rattle.codespan_suggestions.specs.SuggestionRows.Row.{LineRow, EndRow, FinalRow}
use Rattle.codespan_suggestions.specs.ReadOutput.{RowRead, until_start, files_read, end_before}
use Rattle.codespan_suggestions.specs.ReadOutput.{diff_read}
use Rattle.codespan_suggestions.specs.ReadOutput.RowRead.{FileStart, LineShown, EndStated, OtherRow}
use Rattle.codespan_suggestions.specs.ReadingLaws.{shown_row}

-- what a row is read as
abbrev pub reading_of : ℕ → Row → RowRead
reading_of tab (StartRow locus) = FileStart
reading_of tab (LineRow r) =
    LineShown
    (record {
      sign = r.row.sign;
      old_number = r.old_number;
      new_number = r.new_number;
      text = shown_text tab r.row.line;
    })
reading_of tab (EndRow end) = EndStated end
reading_of tab _ = OtherRow

-- ---- files

-- no row starts a file
abbrev IsNoStart : RowRead → Type 0
IsNoStart FileStart = ⊥
IsNoStart _ = Unit {0}

abbrev StartsFile : List RowRead → Type 0
StartsFile [] = Unit {0}
StartsFile (FileStart ∷ xs) = Unit {0}
StartsFile (_ ∷ xs) = ⊥

until-none : (xs : List RowRead) → StartsFile xs → until_start xs ≡ []
until-none [] starts = refl
until-none (FileStart ∷ xs) starts = refl
until-none (LineShown line ∷ xs) starts = absurd starts
until-none (EndStated end ∷ xs) starts = absurd starts
until-none (OtherRow ∷ xs) starts = absurd starts

until-append : (xs ys : List RowRead) → AllByRecursion IsNoStart xs → StartsFile ys
    → until_start (xs ++ ys) ≡ xs
until-append [] ys none starts = until-none ys starts
until-append (FileStart ∷ xs) ys none starts = absurd none.0
until-append (LineShown line ∷ xs) ys none starts =
    ap (λ zs. LineShown line ∷ zs) (until-append xs ys none.1 starts)
until-append (EndStated end ∷ xs) ys none starts =
    ap (λ zs. EndStated end ∷ zs) (until-append xs ys none.1 starts)
until-append (OtherRow ∷ xs) ys none starts =
    ap (λ zs. OtherRow ∷ zs) (until-append xs ys none.1 starts)

files-append : (xs ys : List RowRead) → AllByRecursion IsNoStart xs
    → files_read (xs ++ ys) ≡ files_read ys
files-append [] ys none = refl
files-append (FileStart ∷ xs) ys none = absurd none.0
files-append (LineShown line ∷ xs) ys none = files-append xs ys none.1
files-append (EndStated end ∷ xs) ys none = files-append xs ys none.1
files-append (OtherRow ∷ xs) ys none = files-append xs ys none.1

-- a file with no other start in it, and what follows it
file-read : (xs ys : List RowRead) → AllByRecursion IsNoStart xs → StartsFile ys
    → files_read (FileStart ∷ (xs ++ ys)) ≡ xs ∷ files_read ys
file-read xs ys none starts =
    ap (λ zs. zs ∷ files_read (xs ++ ys)) (until-append xs ys none starts)
    ∙ ap (λ zs. xs ∷ zs) (files-append xs ys none)

-- ---- rows of a file

-- a row with the text of its line, and this end
abbrev shown_with : ℕ → NumberedRow → List ℕ → NumberedRow
shown_with tab r end = record {
  row = record { sign = r.row.sign; line = shown_text tab r.row.line ++ end };
  old_number = r.old_number;
  new_number = r.new_number;
}

module _ (tab : ℕ) (usual : List ℕ) where
  -- the rows of a line and its end
  line-reads : (r : NumberedRow) (rest : List RowRead) → end_before usual rest ≡ usual
      → diff_read usual (map (reading_of tab) (line_rows usual r) ++ rest)
      ≡ shown_row tab r ∷ diff_read usual rest
  line-reads r rest none =
      by (bytes_eq (line_end r.row.line) usual) (bytes_eq-Decides (line_end r.row.line) usual)
    where
      by : (b : Bool) → Decides b (line_end r.row.line ≡ usual)
          → diff_read usual
          (map (reading_of tab)
          (LineRow r ∷ (if b then [] else EndRow (line_end r.row.line) ∷ [])) ++ rest)
          ≡ shown_row tab r ∷ diff_read usual rest
      by true is =
          ap (λ (end : List ℕ). shown_with tab r end ∷ diff_read usual rest)
          (none ∙ sym (is.0 refl))
      by false differs = refl

  -- the rows of a hunk do not begin with an end
  hunk-begins : (hunk : List NumberedRow) (rest : List RowRead) → end_before usual rest ≡ usual
      → end_before usual (map (reading_of tab) (hunk_rows usual hunk) ++ rest) ≡ usual
  hunk-begins [] rest none = none
  hunk-begins (r ∷ rs) rest none = refl

  hunk-reads : (hunk : List NumberedRow) (rest : List RowRead) → end_before usual rest ≡ usual
      → diff_read usual (map (reading_of tab) (hunk_rows usual hunk) ++ rest)
      ≡ map (shown_row tab) hunk ++ diff_read usual rest
  hunk-reads [] rest none = refl
  hunk-reads (r ∷ rs) rest none =
      let more = map (reading_of tab) (hunk_rows usual rs) ++ rest in
      ap (λ xs. diff_read usual (xs ++ rest))
      (map-append (reading_of tab) (line_rows usual r) (hunk_rows usual rs))
      ∙ (ap (diff_read usual)
      (append_assoc (map (reading_of tab) (line_rows usual r))
      (map (reading_of tab) (hunk_rows usual rs)) rest)
      ∙ (line-reads r more (hunk-begins rs rest none)
      ∙ ap (λ xs. shown_row tab r ∷ xs) (hunk-reads rs rest none)))

  later-begins : (hunks : List (List NumberedRow)) (rest : List RowRead)
      → end_before usual rest ≡ usual
      → end_before usual
      (map (reading_of tab)
      (flat_map (λ rows. BreakRow ∷ rows) (map (hunk_rows usual) hunks)) ++ rest) ≡ usual
  later-begins [] rest none = none
  later-begins (h ∷ hs) rest none = refl

  -- hunks with a break before each
  later-reads : (hunks : List (List NumberedRow)) (rest : List RowRead)
      → end_before usual rest ≡ usual
      → diff_read usual
      (map (reading_of tab)
      (flat_map (λ rows. BreakRow ∷ rows) (map (hunk_rows usual) hunks)) ++ rest)
      ≡ map (shown_row tab) (rows_of_hunks hunks) ++ diff_read usual rest
  later-reads [] rest none = refl
  later-reads (h ∷ hs) rest none =
      let later = flat_map (λ rows. BreakRow ∷ rows) (map (hunk_rows usual) hs) in
      ap (λ xs. diff_read usual (xs ++ rest))
      (map-append (reading_of tab) (hunk_rows usual h) later)
      ∙ (ap (diff_read usual)
      (append_assoc (map (reading_of tab) (hunk_rows usual h)) (map (reading_of tab) later) rest)
      ∙ (hunk-reads h (map (reading_of tab) later ++ rest) (later-begins hs rest none)
      ∙ (ap (λ xs. map (shown_row tab) h ++ xs) (later-reads hs rest none)
      ∙ (sym (append_assoc (map (shown_row tab) h) (map (shown_row tab) (rows_of_hunks hs))
      (diff_read usual rest))
      ∙ ap (λ xs. xs ++ diff_read usual rest)
      (sym (map-append (shown_row tab) h (rows_of_hunks hs)))))))

  hunks-read : (hunks : List (List NumberedRow)) (rest : List RowRead)
      → end_before usual rest ≡ usual
      → diff_read usual
      (map (reading_of tab) (separated BreakRow (map (hunk_rows usual) hunks)) ++ rest)
      ≡ map (shown_row tab) (rows_of_hunks hunks) ++ diff_read usual rest
  hunks-read [] rest none = refl
  hunks-read (h ∷ hs) rest none =
      let later = flat_map (λ rows. BreakRow ∷ rows) (map (hunk_rows usual) hs) in
      ap (λ xs. diff_read usual (xs ++ rest))
      (map-append (reading_of tab) (hunk_rows usual h) later)
      ∙ (ap (diff_read usual)
      (append_assoc (map (reading_of tab) (hunk_rows usual h)) (map (reading_of tab) later) rest)
      ∙ (hunk-reads h (map (reading_of tab) later ++ rest) (later-begins hs rest none)
      ∙ (ap (λ xs. map (shown_row tab) h ++ xs) (later-reads hs rest none)
      ∙ (sym (append_assoc (map (shown_row tab) h) (map (shown_row tab) (rows_of_hunks hs))
      (diff_read usual rest))
      ∙ ap (λ xs. xs ++ diff_read usual rest)
      (sym (map-append (shown_row tab) h (rows_of_hunks hs)))))))

  -- no row of a line or an end starts a file
  lines-no-start : (hunk : List NumberedRow)
      → AllByRecursion IsNoStart (map (reading_of tab) (hunk_rows usual hunk))
  lines-no-start [] = tt
  lines-no-start (r ∷ rs) =
      (tt, by (bytes_eq (line_end r.row.line) usual) (lines-no-start rs))
    where
      by : (b : Bool) → AllByRecursion IsNoStart (map (reading_of tab) (hunk_rows usual rs))
          → AllByRecursion IsNoStart (map (reading_of tab)
          ((if b then [] else EndRow (line_end r.row.line) ∷ []) ++ hunk_rows usual rs))
      by true rest = rest
      by false rest = (tt, rest)

-- ---- all files

-- the readings of the rows of a file after its start, and of the row after them
abbrev pub file_readings : ℕ → DrawnFile → List RowRead
file_readings tab f =
    OtherRow ∷ (map (reading_of tab) (separated BreakRow (map (hunk_rows f.usual_end) f.hunks))
    ++ OtherRow ∷ [])

pub file-reads : (tab : ℕ) (f : DrawnFile)
    → diff_read f.usual_end (file_readings tab f) ≡ map (shown_row tab) (rows_of_hunks f.hunks)
file-reads tab f =
    hunks-read tab f.usual_end f.hunks (OtherRow ∷ []) refl
    ∙ append-nil (map (shown_row tab) (rows_of_hunks f.hunks))

all-append : (P : RowRead → Type 0) (xs ys : List RowRead) → AllByRecursion P xs
    → AllByRecursion P ys → AllByRecursion P (xs ++ ys)
all-append P [] ys all more = more
all-append P (x ∷ xs) ys all more = (all.0, all-append P xs ys all.1 more)

later-no-start : (tab : ℕ) (usual : List ℕ) (hunks : List (List NumberedRow))
    → AllByRecursion IsNoStart
    (map (reading_of tab) (flat_map (λ rows. BreakRow ∷ rows) (map (hunk_rows usual) hunks)))
later-no-start tab usual [] = tt
later-no-start tab usual (h ∷ hs) =
    let later = flat_map (λ rows. BreakRow ∷ rows) (map (hunk_rows usual) hs) in (
      tt,
      subst (AllByRecursion IsNoStart)
          (sym (map-append (reading_of tab) (hunk_rows usual h) later))
          (all-append IsNoStart (map (reading_of tab) (hunk_rows usual h))
          (map (reading_of tab) later) (lines-no-start tab usual h)
          (later-no-start tab usual hs)),
    )

hunks-no-start : (tab : ℕ) (usual : List ℕ) (hunks : List (List NumberedRow))
    → AllByRecursion IsNoStart
    (map (reading_of tab) (separated BreakRow (map (hunk_rows usual) hunks)))
hunks-no-start tab usual [] = tt
hunks-no-start tab usual (h ∷ hs) =
    let later = flat_map (λ rows. BreakRow ∷ rows) (map (hunk_rows usual) hs) in
    subst (AllByRecursion IsNoStart) (sym (map-append (reading_of tab) (hunk_rows usual h) later))
    (all-append IsNoStart (map (reading_of tab) (hunk_rows usual h))
    (map (reading_of tab) later) (lines-no-start tab usual h) (later-no-start tab usual hs))

file-no-start : (tab : ℕ) (f : DrawnFile) → AllByRecursion IsNoStart (file_readings tab f)
file-no-start tab f = (
  tt,
  all-append IsNoStart
      (map (reading_of tab) (separated BreakRow (map (hunk_rows f.usual_end) f.hunks)))
      (OtherRow ∷ []) (hunks-no-start tab f.usual_end f.hunks) (tt, tt),
)

-- the rows of the files after the first one, each after an empty row, and a final row
abbrev pub later_rows : List DrawnFile → List Row
later_rows fs =
    flat_map (λ rows. EmptyRow ∷ rows) (map file_rows fs) ++ FinalRow ∷ []

-- the row before the next file is read with the rows of this one
abbrev pub readings_after : ℕ → List DrawnFile → List RowRead
readings_after tab [] = []
readings_after tab (f ∷ fs) = FileStart ∷ (file_readings tab f ++ readings_after tab fs)

starts-file : (tab : ℕ) (fs : List DrawnFile) → StartsFile (readings_after tab fs)
starts-file tab [] = tt
starts-file tab (f ∷ fs) = tt

-- the rows of a file and what follows
file-and : (tab : ℕ) (f : DrawnFile) (rows : List Row) (rest : List RowRead)
    → map (reading_of tab) rows ≡ OtherRow ∷ rest
    → map (reading_of tab) (file_rows f ++ rows) ≡ FileStart ∷ (file_readings tab f ++ rest)
file-and tab f rows rest is =
    let hunks = separated BreakRow (map (hunk_rows f.usual_end) f.hunks) in
    let shown = map (reading_of tab) hunks in
    ap (λ xs. FileStart ∷ (OtherRow ∷ xs))
    (map-append (reading_of tab) hunks rows ∙ (ap (λ xs. shown ++ xs) is
    ∙ sym (append_assoc shown (OtherRow ∷ []) rest)))

later-are : (tab : ℕ) (fs : List DrawnFile)
    → map (reading_of tab) (later_rows fs) ≡ OtherRow ∷ readings_after tab fs
later-are tab [] = refl
later-are tab (f ∷ fs) =
    ap (λ xs. OtherRow ∷ map (reading_of tab) xs)
    (append_assoc (file_rows f) (flat_map (λ rows. EmptyRow ∷ rows) (map file_rows fs))
    (FinalRow ∷ []))
    ∙ ap (λ xs. OtherRow ∷ xs)
    (file-and tab f (later_rows fs) (readings_after tab fs) (later-are tab fs))

files-are : (tab : ℕ) (fs : List DrawnFile)
    → files_read (readings_after tab fs) ≡ map (file_readings tab) fs
files-are tab [] = refl
files-are tab (f ∷ fs) =
    file-read (file_readings tab f) (readings_after tab fs) (file-no-start tab f)
    (starts-file tab fs)
    ∙ ap (λ xs. file_readings tab f ∷ xs) (files-are tab fs)

-- the files of all rows but the header
pub all-files : (tab : ℕ) (fs : List DrawnFile)
    → files_read (map (reading_of tab) (separated EmptyRow (map file_rows fs) ++ FinalRow ∷ []))
    ≡ map (file_readings tab) fs
all-files tab [] = refl
all-files tab (f ∷ fs) =
    ap (λ xs. files_read (map (reading_of tab) xs))
    (append_assoc (file_rows f) (flat_map (λ rows. EmptyRow ∷ rows) (map file_rows fs))
    (FinalRow ∷ []))
    ∙ (ap files_read
    (file-and tab f (later_rows fs) (readings_after tab fs) (later-are tab fs))
    ∙ files-are tab (f ∷ fs))
