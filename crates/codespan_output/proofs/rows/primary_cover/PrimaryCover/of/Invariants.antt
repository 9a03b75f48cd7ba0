use Rattle.codespan_core.proofs.Std.{◌≡◌, ◌≤◌, ◌&&◌, ◌||◌, drop, map, list_any}
use Rattle.codespan_core.specs.Labels.{LaneMark, is_primary_style}
use Rattle.codespan_output.specs.Types.{Metrics}
use Rattle.codespan_output.specs.{lane_mark_view, multi_label_covers}
use Rattle.codespan_output.specs.Private.{covers_char}
use Rattle.codespan_output.proofs.rows.primary_cover.PrimaryCover.of.Given as goal

-- what was found and the remaining lane marks cover what all of them cover
abbrev pub invariant-loop-lane_mark : goal.invariant-loop-lane_mark
invariant-loop-lane_mark l =
    (c : Metrics) → 1 ≤ c.bytes
    → (covers_char l.found c || list_any
    (λ (m : LaneMark). is_primary_style m.style && multi_label_covers c m.multi_label)
    (map lane_mark_view (drop l.lane_mark-index l.lane_marks)))
    ≡ list_any (λ (m : LaneMark). is_primary_style m.style && multi_label_covers c m.multi_label)
    (map lane_mark_view l.lane_marks)
