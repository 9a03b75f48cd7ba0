-- The lookups of an output, in the order in which their errors count, and which error is returned.
use Rattle.std.specs.Prelude.{◌≡◌, ◌≢◌, ◌<◌, length, ℕ, ◌+◌, Bool, not}
use Rattle.std.specs.Prelude.{◌&&◌, ◌||◌, nat_le, List, [], ◌∷◌, ◌++◌, map}
use Rattle.std.specs.Prelude.{filter, flat_map, Option, Some, None, Contains, if◌then◌else◌}
use Rattle.std.specs.Prelude.{true, false}
use Rattle.std.specs.List.{range_with_len}
use Rattle.codespan_output.specs.Types.{Config, DisplayStyle, Rich, Layout, Classic, Unbroken}
use Rattle.codespan_output.specs.Types.{Diagnostic, Error, FormatError, LineTooLarge, OutOfMemory}
use Rattle.codespan_core.specs.FileModel.{FileDatabase, FileModel, Lookup, line_count}
use Rattle.codespan_core.specs.FileModel.Lookup.{Name, Source, LineIndex, LineNumber, LocationAt}
use Rattle.codespan_core.specs.FileModel.Lookup.{LineRange}
use Rattle.codespan_core.specs.Labels.{LabelModel, first_line, last_line}
use Rattle.codespan_output.specs.Lines.{is_around, is_drawn, is_shown, spans}
use Rattle.codespan_output.specs.Snippets.{LabeledFileModel, LabelInFile, file_ids}
use Rattle.codespan_output.specs.Snippets.{labeled_file_model, locus_byte_of, primary_of}
use Rattle.codespan_output.specs.OutputStreams.{labels_of}
use Rattle.std.specs.Option.{option_or}

-- the error that a lookup of a file fails with, if any
abbrev pub Failures : Type 0 → Type 0
Failures Id = Id → Lookup → Option Error

-- the lookups of a line: its range and its number
abbrev pub line_lookups : ℕ → List Lookup
line_lookups l = LineRange l ∷ LineNumber l ∷ []

-- the lookups of a filled line, made with its file's snippet: its range, and its number where that
-- is not known before the header
abbrev pub filled_line_lookups : Layout → ℕ → List Lookup
filled_line_lookups Classic l = line_lookups l
filled_line_lookups Unbroken l = LineRange l ∷ []

-- the error only ends the context lines of a label: it is not an error of the output
abbrev pub ends_context_lines : Option Error → Bool
ends_context_lines (Some (LineTooLarge given max)) = true
ends_context_lines _ = false

-- the range of the line past the file's last one, where the context lines reach it. It is not
-- listed where it fails with `LineTooLarge`, which is not an error of the output
abbrev pub lookup_past_end : Config → FileModel → (Lookup → Option Error) → LabelModel
    → List Lookup
lookup_past_end config f failure x =
    if nat_le (line_count f) (last_line f x + config.after_label_lines)
    && not (ends_context_lines (failure (LineRange (line_count f))))
    then LineRange (line_count f) ∷ [] else []

-- the line is one of the label's, or is around them
abbrev pub is_looked_up : Config → FileModel → LabelModel → ℕ → Bool
is_looked_up config f x l =
    spans (first_line f x) (last_line f x) l || is_around config (first_line f x) (last_line f x) l

-- the lines of the file that are looked up for a label: its own and those around them
abbrev pub looked_up_lines : Config → FileModel → LabelModel → List ℕ
looked_up_lines config f x = filter (is_looked_up config f x) (range_with_len 0 (line_count f))

-- the lookups of one label: the line indices of its ends, then the ranges and numbers of its lines
-- and of those around them, then that past the last line
abbrev pub label_line_lookups : Config → FileModel → (Lookup → Option Error) → LabelModel
    → List Lookup
label_line_lookups config f failure x =
    LineIndex x.start ∷ LineIndex x.end
    ∷ flat_map line_lookups (looked_up_lines config f x) ++ lookup_past_end config f failure x

-- the filled lines: those that are drawn and not shown
abbrev pub filled_lines : Config → LabeledFileModel → List ℕ
filled_lines config s =
    filter (λ l. is_drawn config s.file s.labels l && not (is_shown config s.file s.labels l))
    (range_with_len 0 (line_count s.file))

-- these lookups, of one file
abbrev pub lookups_of_file : {Id : Type 0} → Id → List Lookup → List (Id × Lookup)
lookups_of_file {Id} id ls = map (λ l. (id, l)) ls

-- ---- the lookups of a diagnostic

-- those of all labels, in their order
abbrev pub label_lookups : {Id : Type 0}
    → Config → FileDatabase Id → List (LabelInFile Id) → List (Id × Lookup)
label_lookups {Id} config files xs =
    flat_map (λ (x : LabelInFile Id).
    lookups_of_file x.file_id
    (label_line_lookups config (files.file x.file_id) (files.failure x.file_id) x.label))
    xs

module _ {Id : Type 0} (files : FileDatabase Id) (xs : List (LabelInFile Id)) where
  -- a file with its labels
  abbrev pub file_at : Id → LabeledFileModel
  file_at id = labeled_file_model files.same files.file xs id

  module _ (config : Config) where
    -- the numbers of filled lines that the padding needs
    abbrev pub numbers_for_padding : Layout → Id → List Lookup
    numbers_for_padding Classic id = []
    numbers_for_padding Unbroken id = map LineNumber (filled_lines config (file_at id))

    -- those made with a file's snippet: its source, and those of its filled lines
    abbrev pub snippet_lookups : Id → List Lookup
    snippet_lookups id =
        Source ∷ flat_map (filled_line_lookups config.layout) (filled_lines config (file_at id))

    -- in rich style, those before the header: where one fails nothing is written
    abbrev pub early_lookups : List (Id × Lookup)
    early_lookups =
        label_lookups config files xs
        ++ flat_map (λ id. lookups_of_file id (numbers_for_padding config.layout id))
        (file_ids files.same xs)
        ++ flat_map
        (λ id. lookups_of_file id (Name ∷ LocationAt (locus_byte_of (file_at id).labels) ∷ []))
        (file_ids files.same xs)

    -- those after the header, file by file
    abbrev pub late_lookups : List (Id × Lookup)
    late_lookups = flat_map (λ id. lookups_of_file id (snippet_lookups id))
        (file_ids files.same xs)

-- those of a label's header: the name of its file, and the location of its start
abbrev pub header_lookups_of : {Id : Type 0} → LabelInFile Id → List (Id × Lookup)
header_lookups_of x = lookups_of_file x.file_id (Name ∷ LocationAt x.label.start ∷ [])

-- all lookups of an output in a style: in short and medium style those of all primary labels
abbrev pub lookups_in : {Id : Type 0}
    → DisplayStyle → Config → FileDatabase Id → Diagnostic Id → List (Id × Lookup)
lookups_in Rich config files d =
    early_lookups files (labels_of d) config ++ late_lookups files (labels_of d) config
lookups_in _ config files d = flat_map header_lookups_of (primary_of (labels_of d))

-- the error of the first of these lookups that fails
abbrev pub first_error : {Id : Type 0} → Failures Id → List (Id × Lookup) → Option Error
first_error failure [] = None
first_error failure (l ∷ ls) = option_or (failure l.0 l.1) (first_error failure ls)

-- none of these lookups fails
abbrev pub AllSucceed : {Id : Type 0} → Failures Id → List (Id × Lookup) → Type 0
AllSucceed {Id} failure lookups = (id : Id) (lookup : Lookup)
    → Contains lookups (id, lookup) → failure id lookup ≡ None

-- there is a lookup, and the error is that of the first one that fails, `OutOfMemory`, or
-- `FormatError`, which stands for a name whose `Display` fails
abbrev pub IsLookupError : {Id : Type 0} → FileDatabase Id → List (Id × Lookup) → Error
    → Type 0
IsLookupError files lookups e =
    (0 < length lookups)
    × (e ≢ OutOfMemory → e ≢ FormatError → first_error files.failure lookups ≡ Some e)
