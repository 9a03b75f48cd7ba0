-- The primary multi-line labels, as far as they color one line's text.
use Rattle.std.specs.Prelude.{◌≡◌, ℕ, ◌+◌, ◌≤◌, Bool, false, ◌||◌, ◌&&◌}
use Rattle.std.specs.Prelude.{nat_le, List, Option, Some, None}
use Rattle.std.specs.List.{list_any}
use Rattle.codespan_core.specs.Labels.{LaneMark, is_primary_style}
use Rattle.codespan_output.specs.RowParts.{multi_label_covers}
use Rattle.codespan_output.specs.declared.char_metrics.Metrics.{Metrics}
use Rattle.codespan_output.specs.declared.rows.primary_cover.PrimaryCover.{PrimaryCover}

-- all is covered from `from` on, and the byte index is there or later
abbrev pub is_from : Option ℕ → ℕ → Bool
is_from None byte_index = false
is_from (Some start) byte_index = nat_le start byte_index

-- the character is covered: it begins at `from` or later, or ends at `to` or before it
abbrev pub covers_char : PrimaryCover → Metrics → Bool
covers_char m c = is_from m.from c.byte_index || nat_le (c.byte_index + c.bytes) m.to

-- the covered characters are those that a label of these lane marks covers, if it is primary
abbrev pub CoversAsLaneMarks : List LaneMark → PrimaryCover → Type 0
CoversAsLaneMarks lane_marks covered =
    (c : Metrics) → 1 ≤ c.bytes → covers_char covered c
    ≡ list_any (λ (m : LaneMark). is_primary_style m.style && multi_label_covers c m.multi_label)
    lane_marks
