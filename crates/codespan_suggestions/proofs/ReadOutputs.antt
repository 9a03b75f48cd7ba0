-- The text of an output, as it is read, for the clause of `laws::sources_and_output_give_texts`.
use Rattle.codespan_core.proofs.Std.{◌≡◌, ◌∙◌, ℕ, ◌+◌, ◌<◌, ◌≤◌, ◌^◌, Bool, true}
use Rattle.codespan_core.proofs.Std.{false, if◌then◌else◌, List, [], ◌∷◌, ◌++◌, length, map}
use Rattle.codespan_core.proofs.Std.{flat_map, refl, sym, ap, ap₂, subst, arith, AllByRecursion}
use Rattle.codespan_core.proofs.Std.{Some, cond_both, filter}
use Rattle.codespan_core.proofs.Std.{string_bytes, take, option_map, AllZip}
use Rattle.codespan_core.proofs.Std.{take-append-drop, drop, length-append}
use Rattle.codespan_core.specs.FileModel.{FileModel}
use Rattle.codespan_core.specs.Streams.{text_of}
use Rattle.codespan_core.specs.declared.files.Location.{Location}
use Rattle.codespan_edits.specs.Edits.{TextEdit, edited}
use Rattle.codespan_edits.specs.Diffs.{lines}
use Rattle.codespan_edits.specs.DrawnRows.{Context}
use Rattle.codespan_edits.specs.HunkLaws.{rows_of_hunks}
use Rattle.codespan_edits.specs.Numbers.{NumberedRow}
use Rattle.codespan_edits.specs.Patches.{patched}
use Rattle.codespan_edits.proofs.HunkPatches.{hunks-are-patch}
use Rattle.codespan_edits.proofs.LineLemmas.{lines-whole}
use Rattle.codespan_suggestions.specs.EditedFiles.{edited_files}
use Rattle.codespan_suggestions.specs.DrawnText.{location_after, location_past}
use Rattle.codespan_suggestions.specs.DrawnText.{location_in}
use Rattle.codespan_suggestions.specs.DrawnFiles.{DrawnFile, has_hunk, drawn, drawn_file}
use Rattle.codespan_suggestions.specs.DrawnFiles.{drawn_files}
use Rattle.codespan_suggestions.specs.DrawnFiles.{context_of, least_start}
use Rattle.codespan_suggestions.specs.SuggestionRows.{RowSettings, stream_of_rows}
use Rattle.codespan_suggestions.specs.SuggestionOutput.{settings_of, rows_in, suggestion_stream}
use Rattle.codespan_suggestions.specs.ReadOutput.{output_read}
use Rattle.codespan_suggestions.specs.ReadingLaws.{HasNoTab, shown_line, shown_row}
use Rattle.codespan_suggestions.specs.ReadingLaws.{AreGiven, CanBeRead, edits_in, shown_files}
use Rattle.codespan_suggestions.specs.ReadingLaws.{SourcesAndOutputGiveTexts}
use Rattle.codespan_suggestions.proofs.LocationLemmas.{line-more, column-more}
use Rattle.codespan_suggestions.proofs.ShownTexts.{shown-whole}
use Rattle.codespan_suggestions.proofs.ReadFiles.{file_readings, file-reads}
use Rattle.codespan_suggestions.proofs.ReadCells.{IsDrawableFile, all-fit}
use Rattle.codespan_suggestions.proofs.ReadFits.{locus-one, output-reads}
use Rattle.codespan_suggestions.proofs.MappedPatches.{patched-mapped}
use Rattle.codespan_suggestions.proofs.DrawableRows.{IsDrawable, hunks-drawable}

-- ---- locations

past-bound : (at : Location) (bs : List ℕ) (m : ℕ) → at.line_number ≤ m → at.column_number ≤ m
    → ((location_past at bs).line_number ≤ m + length bs)
    × ((location_past at bs).column_number ≤ m + length bs)
past-bound at [] m line column = (omega (arith, line), omega (arith, column))
past-bound at (b ∷ bs) m line column =
    let more = line-more at b in
    let rest = past-bound (location_after at b) bs (m + 1) (omega (arith, more, line))
    (column-more at b m column (omega arith)) in
    (omega (arith, rest.0), omega (arith, rest.1))

few-taken : (n : ℕ) (xs : List ℕ) → length (take n xs) ≤ length xs
few-taken n xs =
    let whole = length-append (take n xs) (drop n xs) in
    omega (arith, whole, ap length (take-append-drop n xs))

location-few : (text : List ℕ) (byte : ℕ) → length text + 1 < 2 ^ 64
    → ((location_in text byte).line_number < 2 ^ 64)
    × ((location_in text byte).column_number < 2 ^ 64)
location-few text byte few =
    let bound = past-bound (record { line_number = 1; column_number = 1 }) (take byte text) 1
    (omega arith) (omega arith) in
    let less = few-taken byte text in
    (omega (arith, few, less, bound.0), omega (arith, few, less, bound.1))

-- ---- files

pub file-drawable : (settings : RowSettings) (context : Context) (f : FileModel)
    (edits : List TextEdit) → CanBeRead f edits
    → IsDrawableFile settings (drawn context f edits)
file-drawable settings context f edits can =
    let few = location-few f.text (least_start edits) can.source.len in
    record {
      locus = locus-one (drawn context f edits).locus can.name few.0 few.1;
      rows = hunks-drawable context f.text edits can.fine can.source can.result;
    }

-- a row with another line
abbrev with_line : NumberedRow → List ℕ → NumberedRow
with_line r line = record {
  row = record { sign = r.row.sign; line = line };
  old_number = r.old_number;
  new_number = r.new_number;
}

-- rows without tabs are shown as they are
rows-unshown : (tab : ℕ) (rows : List NumberedRow)
    → AllByRecursion (λ (r : NumberedRow). HasNoTab r.row.line) rows
    → AllByRecursion IsDrawable rows → map (shown_row tab) rows ≡ rows
rows-unshown tab [] none can = refl
rows-unshown tab (r ∷ rs) none can =
    ap₂ (λ (line : List ℕ) (xs : List NumberedRow). with_line r line ∷ xs)
    (shown-whole tab r.row.line can.0.utf8 none.0) (rows-unshown tab rs none.1 can.1)

each-row : (hunks : List (List NumberedRow)) → AllByRecursion (AllByRecursion IsDrawable) hunks
    → AllByRecursion IsDrawable (rows_of_hunks hunks)
each-row [] all = tt
each-row (h ∷ hs) all = both h (rows_of_hunks hs) all.0 (each-row hs all.1) where
  both : (xs ys : List NumberedRow) → AllByRecursion IsDrawable xs
      → AllByRecursion IsDrawable ys → AllByRecursion IsDrawable (xs ++ ys)
  both [] ys all more = more
  both (x ∷ xs) ys all more = (all.0, both xs ys all.1 more)

given : (tab : ℕ) (context : Context) (f : FileModel) (edits : List TextEdit)
    → CanBeRead f edits
    → AreGiven tab context f.text edits (file_readings tab (drawn context f edits))
given tab context f edits can =
    let file = drawn context f edits in
    let made = hunks-are-patch context f.text edits can.fine in
    record {
      shown =
          ap (patched (map (shown_line tab) (lines f.text))) (file-reads tab file)
          ∙ patched-mapped (shown_line tab) (lines f.text) (lines (edited f.text edits))
          (rows_of_hunks file.hunks) made;
      bytes = λ none.
          ap (λ rows. option_map (flat_map (λ (line : List ℕ). line))
          (patched (lines f.text) rows))
          (file-reads tab file
          ∙ rows-unshown tab (rows_of_hunks file.hunks) none
          (each-row file.hunks
          (hunks-drawable context f.text edits can.fine can.source can.result)))
          ∙ (ap (option_map (flat_map (λ (line : List ℕ). line))) made
          ∙ ap (λ (u : List ℕ). Some u) (lines-whole (edited f.text edits)));
    }

-- ---- all files

module _ {Id : Type 0} where
  pub filter-map : {A : Type 0} (p : A → Bool) (f : Id → A) (xs : List Id)
      → filter p (map f xs) ≡ map f (filter (λ x. p (f x)) xs)
  filter-map p f [] = refl
  filter-map p f (x ∷ xs) = by (p (f x)) (filter-map p f xs) where
    by : (b : Bool) → filter p (map f xs) ≡ map f (filter (λ x. p (f x)) xs)
        → (if b then f x ∷ filter p (map f xs) else filter p (map f xs))
        ≡ map f (if b then x ∷ filter (λ x. p (f x)) xs else filter (λ x. p (f x)) xs)
    by true rest = ap (λ ys. f x ∷ ys) rest
    by false rest = rest

  pub filter-all : (P : Id → Type 0) (p : Id → Bool) (xs : List Id) → AllByRecursion P xs
      → AllByRecursion P (filter p xs)
  filter-all P p [] all = tt
  filter-all P p (x ∷ xs) all =
      cond_both (p x) (x ∷ filter p xs) (filter p xs) (AllByRecursion P)
      (λ _. (all.0, filter-all P p xs all.1)) (λ _. filter-all P p xs all.1)

  pub map-all : {A : Type 0} (P : Id → Type 0) (Q : A → Type 0) (f : Id → A)
      → ((x : Id) → P x → Q (f x)) → (xs : List Id) → AllByRecursion P xs
      → AllByRecursion Q (map f xs)
  map-all P Q f each [] all = tt
  map-all P Q f each (x ∷ xs) all = (each x all.0, map-all P Q f each xs all.1)

  pub zip-all : {A B : Type 0} (P : Id → Type 0) (R : Id → B → Type 0) (f : Id → A) (g : A → B)
      → ((x : Id) → P x → R x (g (f x))) → (xs : List Id) → AllByRecursion P xs
      → AllZip R xs (map g (map f xs))
  zip-all P R f g each [] all = tt
  zip-all P R f g each (x ∷ xs) all = (each x all.0, zip-all P R f g each xs all.1)

pub sources-and-output-give-texts : {Id : Type 0} → SourcesAndOutputGiveTexts Id
sources-and-output-give-texts {Id} config database s rich ok one each =
    let context = context_of config in
    let edits = edits_in config database s in
    let ids = edited_files database.same s.edits.items in
    let shown = shown_files config database s in
    let file : Id → DrawnFile = drawn_file context database s.edits.items in
    let files = drawn_files context database s.edits.items in
    let settings = settings_of config (string_bytes s.message) files in
    let P : Id → Type 0 = λ id. CanBeRead (database.file id) (edits id) in
    let can : AllByRecursion P shown = filter-all P (λ id. has_hunk (file id)) ids each in
    let are : files ≡ map file shown = filter-map has_hunk file ids in
    let drawable : AllByRecursion (IsDrawableFile settings) files =
    subst (AllByRecursion (IsDrawableFile settings)) (sym are)
    (map-all P (IsDrawableFile settings) file
    (λ id h. file-drawable settings context (database.file id) (edits id) h) shown can) in
    let reads : output_read config.chars (text_of (suggestion_stream config database s))
    ≡ map (file_readings config.tab_width) files =
    ap (λ style. output_read config.chars (text_of (stream_of_rows settings (rows_in style files))))
    rich
    ∙ output-reads settings ok files one (all-fit settings files refl drawable) in
    subst (AllZip (λ id rows. AreGiven config.tab_width context (database.file id).text
    (edits id) rows) shown)
    (sym (reads ∙ ap (map (file_readings config.tab_width)) are))
    (zip-all P (λ id rows. AreGiven config.tab_width context (database.file id).text
    (edits id) rows) file (file_readings config.tab_width)
    (λ id h. given config.tab_width context (database.file id) (edits id) h) shown can)
