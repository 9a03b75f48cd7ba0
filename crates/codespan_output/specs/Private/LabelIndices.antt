-- Which message trails, by the index of its label in the list.
use Rattle.std.specs.Prelude.{ℕ, Bool, not, ◌&&◌, ◌==◌, List, filter, Option, Some, None}
use Rattle.std.specs.Prelude.{if◌then◌else◌}
use Rattle.std.specs.List.{list_any, enumerate_from, last_or, remove}
use Rattle.std.specs.Option.{option_and_then}
use Rattle.codespan_core.specs.Labels.{LabelModel, has_message}
use Rattle.codespan_output.specs.Carets.{is_overlapping, max_label_end}

-- the last of the labels with this end, with its index
abbrev pub last_with_end : ℕ → List LabelModel → Option (ℕ × LabelModel)
last_with_end end labels =
    last_or None (filter (λ (e : ℕ × LabelModel). e.1.end == end) (enumerate_from 0 labels))

-- one of the other labels overlaps the label
abbrev pub overlaps_any : LabelModel → List LabelModel → Bool
overlaps_any x others = list_any (λ (y : LabelModel). is_overlapping x y.start y.end) others

-- the label's message trails: it is not empty, and no other label of the line overlaps the label
abbrev pub does_trail : List LabelModel → ℕ × LabelModel → Bool
does_trail labels e = has_message e.1 && not (overlaps_any e.1 (remove labels e.0))

-- the last of the labels with the greatest end, where its message trails
abbrev pub indexed_trailing_label : List LabelModel → Option (ℕ × LabelModel)
indexed_trailing_label labels =
    option_and_then (λ e. if does_trail labels e then Some e else None)
    (last_with_end (max_label_end labels) labels)
