-- What a label does on the lines of its file: its annotations of each line that is looked up for
-- it, and the digit counts of the numbers of the lines that it spans.
use Rattle.std.specs.Prelude.{ℕ, ◌+◌, ◌<◌, Bool, ◌==◌, ◌&&◌, List, [], ◌∷◌}
use Rattle.std.specs.Prelude.{◌++◌, flat_map, Option, Some, None, if◌then◌else◌}
use Rattle.std.specs.List.{range_with_len}
use Rattle.std.specs.Option.{option_map}
use Rattle.codespan_core.specs.FileModel.{FileModel, line_count, line_start, Lookup}
use Rattle.codespan_core.specs.Labels.{LabelModel, MultiLabel, first_line, last_line, lane_mark_of}
use Rattle.codespan_core.specs.Labels.{from_line_start}
use Rattle.codespan_output.specs.Types.{Config}
use Rattle.codespan_output.specs.Lines.{shows, spans}
use Rattle.codespan_output.specs.Lookups.{looked_up_lines, is_looked_up, line_lookups}
use Rattle.codespan_output.specs.Padding.{count_digits}
use Rattle.codespan_views.specs.Private.Annotations.{Annotation, AnnotationKind, Shown, Single}
use Rattle.codespan_views.specs.Private.Annotations.{Multi, annotation_if_any}
use Rattle.codespan_core.specs.Labels.{Top, Left, Bottom}
use Rattle.std.specs.Prelude.{◌-◌, nat_lt}

-- ---- the lines on which a label starts and ends

-- line `l` is between lines `first` and `last`, and near neither of them
abbrev pub IsFarInside : Config → ℕ → ℕ → ℕ → Type 0
IsFarInside config first last l =
    (first + config.start_context_lines < l) × (l + config.end_context_lines < last)

-- what a label from line `first` to line `last` does on line `l`, which starts at byte `start`
abbrev pub kind_by_ends : Config → ℕ → ℕ → ℕ → ℕ → ℕ → LabelModel
    → Option AnnotationKind
kind_by_ends config index first last l start x =
    if (first == last) && (first == l) then Some (Single index (from_line_start start x))
    else if shows config first last l then Some Shown else None

-- what a label from line `first` to line `last` does on line `l`, as `multi_label_on` says it
abbrev pub multi_label_at : ℕ → ℕ → ℕ → ℕ → LabelModel → Option MultiLabel
multi_label_at first last l start x =
    if first == l then Some (Top (x.start - start))
    else if last == l then Some (Bottom (x.end - start) x.message)
    else if nat_lt first l && nat_lt l last then Some Left
    else None

-- its multi-line label mark there, if it is a multi-line label that has one
abbrev pub multi_label_by_ends : ℕ → ℕ → ℕ → ℕ → LabelModel → Option MultiLabel
multi_label_by_ends first last l start x =
    if first == last then None else multi_label_at first last l start x

-- what it does there as a multi-line label, if it has a lane mark there
abbrev pub multi_kind_by_ends : ℕ → ℕ → ℕ → ℕ → ℕ → LabelModel
    → Option AnnotationKind
multi_kind_by_ends lane first last l start x =
    option_map Multi (lane_mark_of lane x (multi_label_by_ends first last l start x))

-- ---- its annotations

-- of a label of the file at this index, which has this index itself, and this lane if it is a
-- multi-line label
module _ (config : Config) (f : FileModel) (file_index index lane : ℕ) (x : LabelModel) where
  -- its annotations of a line
  abbrev pub line_annotations : ℕ → List Annotation
  line_annotations l =
      annotation_if_any file_index l
      (kind_by_ends config index (first_line f x) (last_line f x) l
      (line_start f (first_line f x)) x)
      ++ annotation_if_any file_index l
      (multi_kind_by_ends lane (first_line f x) (last_line f x) l (line_start f l) x)

  -- its annotations of all lines that are looked up for it
  abbrev pub annotations_of : List Annotation
  annotations_of = flat_map line_annotations (looked_up_lines config f x)

-- ---- the lines that are looked up for it

module _ (config : Config) (f : FileModel) (x : LabelModel) where
  -- the lookups of a line, where it is looked up for the label
  abbrev pub lookups_if_looked_up : ℕ → List Lookup
  lookups_if_looked_up l = if is_looked_up config f x l then line_lookups l else []

  -- the annotations of such a line
  abbrev pub annotations_if_looked_up : ℕ → ℕ → ℕ → ℕ → List Annotation
  annotations_if_looked_up file_index index lane l =
      if is_looked_up config f x l then line_annotations config f file_index index lane x l
      else []

-- ---- the lines that it spans

-- the label spans the line
abbrev pub is_spanned : FileModel → LabelModel → ℕ → Bool
is_spanned f x l = spans (first_line f x) (last_line f x) l

-- the digit count of a line's number, where the label spans it
abbrev pub digit_count_if_spanned : FileModel → LabelModel → ℕ → List ℕ
digit_count_if_spanned f x l = if is_spanned f x l then count_digits (f.line_number l) ∷ []
    else []

-- those of all lines of a label
abbrev pub label_digit_counts : FileModel → LabelModel → List ℕ
label_digit_counts f x = flat_map (digit_count_if_spanned f x) (range_with_len 0 (line_count f))
