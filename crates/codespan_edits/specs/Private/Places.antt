-- Places of edits, and places that fit a text.
use Rattle.std.specs.Prelude.{◌≤◌, ℕ, List, [], ◌∷◌, map, length, slice_index_or}
use Rattle.std.specs.Str.{IsCharBoundary}
use Rattle.codespan_edits.specs.Edits.{TextEdit, ListedEdit}
use Rattle.codespan_edits.specs.declared.order.Place.{Place}

-- the replacement of the edit with this index
abbrev pub replacement_at : List TextEdit → ℕ → List ℕ
replacement_at edits i =
    (slice_index_or edits i (record { start = 0; end = 0; replacement = [] })).replacement

-- the edit of a list that has this place
abbrev pub edit_at : List TextEdit → Place → ListedEdit
edit_at edits place = record {
  index = place.index;
  edit = record {
    start = place.start;
    end = place.end;
    replacement = replacement_at edits place.index;
  };
}

-- the edits of a list that have these places
abbrev pub edits_at : List TextEdit → List Place → List ListedEdit
edits_at edits = map (edit_at edits)

-- edits in order fit a text from a byte on: each starts at the byte or later and at the end of the
-- one before it or later, and at boundaries of characters
abbrev pub FitFrom : List ℕ → ℕ → List ListedEdit → Type 0
FitFrom text byte [] = byte ≤ length text
FitFrom text byte (x ∷ xs) = (byte ≤ x.edit.start) × (x.edit.start ≤ x.edit.end)
    × IsCharBoundary text x.edit.start × IsCharBoundary text x.edit.end
    × FitFrom text x.edit.end xs
