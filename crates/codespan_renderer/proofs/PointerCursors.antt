-- For `find_pointers` and `next_pointer`: what finds the pointers of a line.
use Rattle.codespan_core.proofs.Std.{◌≡◌, ℕ, ◌+◌, ◌<◌, ◌≤◌, arith, List, []}
use Rattle.codespan_core.proofs.Std.{◌∷◌, ◌++◌, Option, Some, None, refl, append_assoc}
use Rattle.codespan_core.proofs.Std.{filter, chars, common_steps}
use Rattle.std.specs.Str.Iter.{chars_rest}
use Rattle.codespan_core.specs.Labels.{LabelModel, has_message}
use Rattle.codespan_output.specs.Types.{LabelStyle}
use Rattle.codespan_output.specs.Arguments.{SingleLabelTuple, single_label_views}
use Rattle.codespan_output.specs.Rows.{hanging_labels}
use Rattle.codespan_output.specs.RowParts.{max_label_start, starts_in}
use Rattle.codespan_output.specs.declared.char_metrics.Metrics.{Metrics}
use Rattle.codespan_output.specs.declared.rows.pointer_cursor.Pointer.{Pointer}
use Rattle.codespan_output.specs.Private.PointerLists.{pointer_style_if_any, pointer_under}
use Rattle.codespan_output.specs.Private.PointerLists.{pointers_in}
use Rattle.codespan_output.specs.Private.RowLabels.{AreHanging}
use Rattle.codespan_renderer.specs.declared.term.renderer.cached.label_cursor.StartCursor.{StartCursor}
use Rattle.codespan_renderer.specs.declared.term.renderer.char_metrics.CharMetrics.{CharMetrics}
use Rattle.codespan_renderer.specs.Private.{HasPassedStarts, GoesOver, metrics_from, no_more}
use Rattle.codespan_renderer.specs.Private.{preferred_style}
use Rattle.codespan_renderer.proofs.PointerStyles.{pointer_is}
use Rattle.codespan_output.proofs.Characters.Consecutive.{AreConsecutive, char_metrics-consecutive}
use Rattle.codespan_output.proofs.Pointers.Spaced.{pointers-past}

-- two cursors have passed the labels of two lists that start before these characters
pub record IsPassing (before after : List SingleLabelTuple) (s t : StartCursor)
    (left : List Metrics) : Type 0 where
  pub byte_index : ℕ
  pub column : ℕ
  pub early : HasPassedStarts byte_index s
  pub late : HasPassedStarts byte_index t
  pub same_early : s.labels.now ≡ before
  pub same_late : t.labels.now ≡ after
  pub consecutive : AreConsecutive byte_index column left

-- at the next character
pub record IsPassingAt (before after : List SingleLabelTuple) (s t : StartCursor) (c : Metrics)
    (left : List Metrics) : Type 0 where
  pub some : 1 ≤ c.bytes
  pub early : HasPassedStarts c.byte_index s
  pub late : HasPassedStarts c.byte_index t
  pub same_early : s.labels.now ≡ before
  pub same_late : t.labels.now ≡ after
  pub consecutive : AreConsecutive (c.byte_index + c.bytes) (c.column + c.unicode_width) left

pub passing-at : (before after : List SingleLabelTuple) (s t : StartCursor) (cs left : List Metrics)
    (c : Metrics)
    → cs ≡ c ∷ left → IsPassing before after s t cs
    → IsPassingAt before after s t c left
passing-at before after s t cs left c step w = grind (arith, common_steps)

pub passing-more : (before after : List SingleLabelTuple) (s t u v : StartCursor) (c : Metrics)
    (left : List Metrics)
    → IsPassingAt before after s t c left
    → HasPassedStarts (c.byte_index + c.bytes) u → HasPassedStarts (c.byte_index + c.bytes) v
    → u.labels.now ≡ s.labels.now → v.labels.now ≡ t.labels.now
    → IsPassing before after u v left
passing-more before after s t u v c left w early late same same2 = grind (arith, common_steps)

-- the style that the two cursors find
pub found-style : (labels before after bs ds : List SingleLabelTuple) (c : Metrics)
    (first second : Option LabelStyle)
    → AreHanging labels before after → bs ≡ before → ds ≡ after
    → first ≡ preferred_style (starts_in c) None (filter has_message (single_label_views bs))
    → second ≡ preferred_style (starts_in c) first (filter has_message (single_label_views ds))
    → second ≡ pointer_style_if_any (hanging_labels (single_label_views labels)) c
found-style labels before after bs ds c first second h e f p q =
    rw (q, p, e, f) (pointer_is labels before after c h)

-- there is no pointer where no label hangs
pub no-pointers : (cs : List Metrics) → pointers_in [] cs ≡ []
no-pointers [] = refl
no-pointers (c ∷ cs) = no-pointers cs

-- a pointer comes to those that were found
pub found-some : (labels : List LabelModel) (ps : List Pointer) (cs left : List Metrics)
    (c : Metrics) (style : LabelStyle)
    → cs ≡ c ∷ left
    → pointer_style_if_any (hanging_labels labels) c ≡ Some style
    → (ps ++ pointer_under c style ∷ []) ++ pointers_in (hanging_labels labels)
    left ≡ ps ++ pointers_in (hanging_labels labels) cs
found-some labels ps cs left c style step is = grind (arith, common_steps, append_assoc)

-- none does
pub found-none : (labels : List LabelModel) (ps : List Pointer) (cs left : List Metrics)
    (c : Metrics)
    → cs ≡ c ∷ left
    → pointer_style_if_any (hanging_labels labels) c ≡ None
    → ps ++ pointers_in (hanging_labels labels) left ≡ ps
    ++ pointers_in (hanging_labels labels) cs
found-none labels ps cs left c step is = rw (step, is) refl

-- both cursors are at the line's start
pub passing-start : (before after : List SingleLabelTuple) (s t : StartCursor) (cs : List Metrics)
    → HasPassedStarts 0 s → HasPassedStarts 0 t → s.labels.now ≡ before
    → t.labels.now ≡ after
    → AreConsecutive 0 0 cs → IsPassing before after s t cs
passing-start before after s t cs early late same_early same_late consecutive =
    grind (arith, common_steps)

-- ---- past the greatest start

-- the next character begins past the starts, and so do all that follow
pub pointers-past-at : (labels before after : List SingleLabelTuple) (s t : StartCursor)
    (greatest_start : ℕ) (cs left : List Metrics) (c : Metrics)
    → cs ≡ c ∷ left
    → IsPassing before after s t cs → greatest_start < c.byte_index
    → greatest_start ≡ max_label_start (single_label_views labels)
    → pointers_in (hanging_labels (single_label_views labels)) cs ≡ []
pointers-past-at labels before after s t greatest_start cs left c step w past e =
    grind (arith, common_steps, pointers-past)

-- a scan has none left there
scan-past : (labels : List LabelModel) (s : CharMetrics) → max_label_start labels < s.byte_index
    → pointers_in (hanging_labels labels) (metrics_from no_more s) ≡ []
scan-past labels s past =
    pointers-past labels s.byte_index s.column (metrics_from no_more s)
    (char_metrics-consecutive s.tab_width s.byte_index s.column (chars (chars_rest s.chars))) past

-- nor has it after the next character
pub scan-past-at : (labels : List LabelModel) (reach : ℕ) (c : Metrics) (old new : CharMetrics)
    → GoesOver c old new → reach < c.byte_index → reach ≡ max_label_start labels
    → (pointers_in (hanging_labels labels) (metrics_from no_more old) ≡ [])
    × (pointers_in (hanging_labels labels) (metrics_from no_more new) ≡ [])
scan-past-at labels reach c old new over past far = grind (arith, common_steps, scan-past)
