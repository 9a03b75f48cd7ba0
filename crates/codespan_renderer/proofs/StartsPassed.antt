-- For `StartCursor::start_style`: the starts of labels with messages, as a cursor over labels
-- passes them.
use Rattle.codespan_core.proofs.Std.{◌≡◌, ℕ, ◌+◌, ◌<◌, ◌≤◌, Bool, true, false}
use Rattle.codespan_core.proofs.Std.{cond, ◌==◌, nat_lt, nat_le, List, [], ◌∷◌, length}
use Rattle.codespan_core.proofs.Std.{drop, get_or, filter, Option, refl, ◌∙◌, arith, not}
use Rattle.codespan_core.proofs.Std.{if◌then◌else◌, and_parts, nat_tests, common_steps}
use Rattle.codespan_core.specs.Labels.{LabelModel, has_message}
use Rattle.codespan_output.specs.Types.{LabelStyle}
use Rattle.codespan_output.specs.Arguments.{SingleLabelTuple, single_label_view, single_label_views}
use Rattle.codespan_output.specs.Arguments.{starts_from}
use Rattle.codespan_output.specs.RowParts.{starts_in}
use Rattle.codespan_output.specs.declared.char_metrics.Metrics.{Metrics}
use Rattle.codespan_renderer.specs.Private.{prefer_primary, preferred_style}
use Rattle.codespan_renderer.proofs.PreferredStyles.{preferred-cons}
use Rattle.codespan_renderer.proofs.PointerStyles.{preferred-step}

-- a label that starts in the character
pub start-here : (c : Metrics) (found best : Option LabelStyle) (ys xs : List SingleLabelTuple)
    (i : ℕ) (d : SingleLabelTuple) (empty : Bool)
    → ys ≡ xs → i < length xs
    → empty ≡ (length (get_or xs i d).2.now == 0) → c.byte_index ≤ (get_or xs i d).1.start
    → (get_or xs i d).1.start < c.byte_index + c.bytes
    → best ≡ (if not empty then prefer_primary found (get_or xs i d).0 else found)
    → preferred_style (starts_in c) best
    (filter has_message (single_label_views (drop (i + 1) ys)))
    ≡ preferred_style (starts_in c) found (filter has_message (single_label_views (drop i ys)))
start-here c found best ys xs i d empty same h is low high e =
    let inside : starts_in c (single_label_view (get_or xs i d)) ≡ true =
    grind (arith, nat_tests) in
    rw same (preferred-step c found best xs i d empty h is (rw inside e))

same-found : (b : Bool) (found : Option LabelStyle) → found ≡ (if b then found else found)
same-found true found = refl
same-found false found = refl

-- a label that starts before the character
pub start-before : (c : Metrics) (found : Option LabelStyle) (ys xs : List SingleLabelTuple)
    (i : ℕ)
    (d : SingleLabelTuple) (byte_index : ℕ)
    → ys ≡ xs → i < length xs
    → (get_or xs i d).1.start < byte_index → byte_index ≤ c.byte_index
    → preferred_style (starts_in c) found
    (filter has_message (single_label_views (drop i ys)))
    ≡ preferred_style (starts_in c) found
    (filter has_message (single_label_views (drop (i + 1) ys)))
start-before c found ys xs i d byte_index same h low past =
    grind (arith, common_steps, preferred-step, same-found)

-- labels that start after the character
pub none-start : (c : Metrics) (found : Option LabelStyle) (byte_index : ℕ) (xs : List LabelModel)
    → starts_from byte_index xs ≡ true → c.byte_index + c.bytes ≤ byte_index
    → preferred_style (starts_in c) found (filter has_message xs) ≡ found
none-start c found byte_index [] ordered past = refl
none-start c found byte_index (x ∷ xs) ordered past =
    let parts = and_parts (nat_le byte_index x.start) (starts_from x.start xs) ordered in
    let far : byte_index ≤ x.start = (let test = parts.0 in grind (arith, nat_tests)) in
    by_message (none-start c found x.start xs parts.1 (omega arith))
    (let h : c.byte_index + c.bytes ≤ x.start = omega arith in grind (arith, nat_tests))
    (has_message x)
  where
    by_message : preferred_style (starts_in c) found (filter has_message xs) ≡ found
        → starts_in c x ≡ false → (b : Bool)
        → preferred_style (starts_in c) found
        (cond b (x ∷ filter has_message xs) (filter has_message xs)) ≡ found
    by_message rest outside true =
        preferred-cons (starts_in c) found x (filter has_message xs) ∙ rw outside rest
    by_message rest outside false = rest

-- a label that starts before a byte index
pub prefix-start : (xs : List SingleLabelTuple) (i : ℕ) (d : SingleLabelTuple) (byte_index : ℕ)
    → nat_lt (single_label_view (get_or xs i d)).start byte_index ≡ true
    → (get_or xs i d).1.start < byte_index
prefix-start xs i d byte_index h = grind (arith, nat_tests)
