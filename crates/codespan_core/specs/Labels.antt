-- Labels, as rendering sees them.
use Rattle.std.specs.Prelude.{ℕ, ◌+◌, ◌-◌, ◌^◌, min, max, Bool, true, false, not}
use Rattle.std.specs.Prelude.{◌&&◌, ◌||◌, ◌==◌, nat_lt, List, [], ◌∷◌, map}
use Rattle.std.specs.Prelude.{filter, reverse, Option, Some, None, if◌then◌else◌}
use Rattle.std.specs.List.{enumerate_from, filter_map}
use Rattle.codespan_core.specs.declared.diagnostic.LabelStyle.{LabelStyle}
use Rattle.codespan_core.specs.declared.diagnostic.LabelStyle.TheVariants.{Primary, Secondary}
use Rattle.codespan_core.specs.Streams.{Stream}
use Rattle.codespan_core.specs.FileModel.{FileModel, line_of, line_start}

-- a label: its range counts from the start of the file or of its line; its message is a stream, so
-- that a slot can stand for it
pub record LabelModel : Type 0 where
  pub style : LabelStyle
  pub start : ℕ
  pub end : ℕ
  pub message : Stream

-- the list is empty
abbrev pub is_empty : {A : Type 0} → List A → Bool
is_empty [] = true
is_empty _ = false

-- the label has a message
abbrev pub has_message : LabelModel → Bool
has_message x = not (is_empty x.message)

-- the style is `Primary`
abbrev pub is_primary_style : LabelStyle → Bool
is_primary_style Primary = true
is_primary_style Secondary = false

-- the label is primary
abbrev pub is_primary : LabelModel → Bool
is_primary x = is_primary_style x.style

-- ---- one label and the lines of its file

-- the line of a label's start
abbrev pub first_line : FileModel → LabelModel → ℕ
first_line f x = line_of f.starts x.start

-- the line of a label's end
abbrev pub last_line : FileModel → LabelModel → ℕ
last_line f x = line_of f.starts x.end

-- the label is a single-line label: it ends on the line that it begins on
abbrev pub is_single : FileModel → LabelModel → Bool
is_single f x = first_line f x == last_line f x

-- the label with its drawn range, where its line starts at this byte: it counts from there, and is
-- at least one byte long, except that its end is at most the greatest `usize`
abbrev pub from_line_start : ℕ → LabelModel → LabelModel
from_line_start start x = record x {
  start = x.start - start;
  end = min (2 ^ 64 - 1) (max (x.end - start) (x.start - start + 1));
}

-- the label with its drawn range
abbrev pub drawn_label : FileModel → LabelModel → LabelModel
drawn_label f x = from_line_start (line_start f (first_line f x)) x

-- ---- the labels of a file, in the list's order

-- the ids in the order of their first appearance
abbrev pub first_seen : {Id : Type 0} → (Id → Id → Bool) → List Id → List Id
first_seen same [] = []
first_seen same (id ∷ ids) = id ∷ filter (λ other. not (same id other)) (first_seen same ids)

-- the labels that end on another line than they begin on; a label's index among them is its lane
abbrev pub multi_line_labels : FileModel → List LabelModel → List LabelModel
multi_line_labels f labels = filter (λ x. not (is_single f x)) labels

-- the first label's range is before the second's: by their starts, where these are equal by their
-- ends
abbrev pub range_precedes : LabelModel → LabelModel → Bool
range_precedes x y = nat_lt x.start y.start || (x.start == y.start && nat_lt x.end y.end)

-- sorted labels with one more, which is before those of its range
abbrev pub insert_sorted : LabelModel → List LabelModel → List LabelModel
insert_sorted x [] = x ∷ []
insert_sorted x (y ∷ ys) = if range_precedes y x then y ∷ insert_sorted x ys else x ∷ y ∷ ys

-- labels in the order of their ranges, those of one range in the order given: the only such list of
-- them, by the law `sorted_is_stable_sort`
abbrev pub sorted : List LabelModel → List LabelModel
sorted [] = []
sorted (x ∷ xs) = insert_sorted x (sorted xs)

-- the single-line labels of a line by their drawn ranges; of equal ranges the last given is first
abbrev pub single_labels : FileModel → List LabelModel → ℕ → List LabelModel
single_labels f labels l =
    sorted (reverse (map (drawn_label f)
    (filter (λ x. is_single f x && (first_line f x == l)) labels)))

-- ---- lane marks of a line

-- a multi-line label mark: what a multi-line label does on a line
pub data MultiLabel : Type 0 where
  Top : ℕ → MultiLabel
  Left : MultiLabel
  Bottom : ℕ → Stream → MultiLabel

-- a lane mark: a multi-line label mark with its lane and style
pub record LaneMark : Type 0 where
  pub lane : ℕ
  pub style : LabelStyle
  pub multi_label : MultiLabel

-- what the label does on a line of its file: it begins or ends there, goes through, or nothing
abbrev pub multi_label_on : FileModel → ℕ → LabelModel → Option MultiLabel
multi_label_on f l x =
    if first_line f x == l then Some (Top (x.start - line_start f l))
    else if last_line f x == l then Some (Bottom (x.end - line_start f l) x.message)
    else if nat_lt (first_line f x) l && nat_lt l (last_line f x) then Some Left
    else None

-- the lane mark, where the label has one
abbrev pub lane_mark_of : ℕ → LabelModel → Option MultiLabel → Option LaneMark
lane_mark_of lane x None = None
lane_mark_of lane x (Some multi_label) =
    Some (record { lane = lane; style = x.style; multi_label = multi_label })

-- the lane marks of a line, in the order of the lanes
abbrev pub lane_marks_on : FileModel → List LabelModel → ℕ → List LaneMark
lane_marks_on f labels l =
    filter_map
    (λ (entry : ℕ × LabelModel). lane_mark_of entry.0 entry.1 (multi_label_on f l entry.1))
    (enumerate_from 0 (multi_line_labels f labels))
