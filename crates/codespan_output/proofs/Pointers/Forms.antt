-- For `pointers_are_cells`, and for the calls that write pointers: what each character of a line
-- shows in a pointer row, also one after the greatest start.
use Rattle.codespan_core.proofs.Std.{◌≡◌, ◌-◌, ◌<◌, Bool, true, false, ◌&&◌}
use Rattle.codespan_core.proofs.Std.{◌||◌, nat_le, List, [], ◌∷◌, ◌++◌, flat_map}
use Rattle.codespan_core.proofs.Std.{Some, None, refl, sym, ap, ap₂, ◌∙◌, arith, cond}
use Rattle.codespan_core.proofs.Std.{if◌then◌else◌, list_any, nat_tests}
use Rattle.codespan_core.specs.Labels.{LabelModel, is_primary}
use Rattle.codespan_core.specs.Streams.{Stream}
use Rattle.codespan_output.specs.Types.{Primary, Secondary, Metrics}
use Rattle.codespan_output.specs.{style_of_any, label_glyph, RowContext, hanging_labels, starts_in}
use Rattle.codespan_output.specs.{max_label_start, metrics_up_to, pointer_glyphs, pointers}
use Rattle.codespan_output.specs.Private.{pointer_style_if_any, spaces_up_to, pointer_at}
use Rattle.codespan_output.proofs.Pointers.HangingStarts.{any-below, any-hanging_labels}
use Rattle.codespan_output.proofs.Pointers.HangingStarts.{starts_in-low}

-- ---- past the greatest start

pub none-test : (labels : List LabelModel) (c : Metrics) (b : Bool)
    → max_label_start labels < c.byte_index
    → list_any (starts_in c) (hanging_labels labels) ≡ b
    → b ≡ false
none-test labels c true past is =
    let low = any-below 0 c.byte_index (starts_in c) labels (λ x. starts_in-low c x)
    (any-hanging_labels (starts_in c) labels is) in
    absurd (omega arith)
none-test labels c false past is = refl

-- no label hangs from a character there
pub none-past : (labels : List LabelModel) (c : Metrics) → max_label_start labels < c.byte_index
    → pointer_style_if_any (hanging_labels labels) c ≡ None
none-past labels c past =
    rw (none-test labels c (list_any (starts_in c) (hanging_labels labels)) past refl) refl

-- it shows nothing
far : (context : RowContext) (labels : List LabelModel) (c : Metrics)
    → nat_le c.byte_index (max_label_start labels) ≡ false
    → pointer_at context labels (hanging_labels labels) c ≡ []
unfolding pointer_at spaces_up_to
far context labels c outside =
    let past : max_label_start labels < c.byte_index = grind (arith, nat_tests) in
    rw (none-test labels c (list_any (starts_in c) (hanging_labels labels)) past refl, outside)
    refl

-- ---- up to the greatest start

no_primary : (p : LabelModel → Bool) (xs : List LabelModel) → list_any p xs ≡ false
    → list_any (λ x. is_primary x && p x) xs ≡ false
no_primary p [] h = refl
no_primary p (x ∷ xs) h = by_tests (is_primary x) (p x) (no_primary p xs) h
  where
    by_tests : (a b : Bool)
        → (list_any p xs ≡ false → list_any (λ y. is_primary y && p y) xs ≡ false)
        → (b || list_any p xs) ≡ false
        → ((a && b) || list_any (λ y. is_primary y && p y) xs) ≡ false
    by_tests a true again none = cc
    by_tests true false again none = again none
    by_tests false false again none = again none

-- a character there shows its pointer or its spaces
near : (context : RowContext) (labels : List LabelModel) (c : Metrics)
    → nat_le c.byte_index (max_label_start labels) ≡ true
    → pointer_glyphs context (style_of_any (starts_in c) (hanging_labels labels)) c
    ≡ pointer_at context labels (hanging_labels labels) c
unfolding pointer_glyphs pointer_at spaces_up_to
near context labels c within =
    by_tests (list_any (λ x. is_primary x && starts_in c x) (hanging_labels labels))
    (list_any (starts_in c) (hanging_labels labels))
    (no_primary (starts_in c) (hanging_labels labels))
  where
    by_tests : (p q : Bool) → (q ≡ false → p ≡ false)
        → pointer_glyphs context
        (if p then Some Primary else if q then Some Secondary else None) c
        ≡ (if q then
        label_glyph context.severity (if p then Primary else Secondary) context.chars.pointer_left
        ++ spaces_up_to (max_label_start labels) c (c.unicode_width - 1)
        else spaces_up_to (max_label_start labels) c c.unicode_width)
    by_tests true true h = rw within refl
    by_tests false true h = rw within refl
    by_tests true false h = let none = h refl in cc
    by_tests false false h = rw within refl

-- ---- all characters

pub pointers-each : (context : RowContext) (labels : List LabelModel) (cs : List Metrics)
    → pointers context labels cs
    ≡ flat_map (pointer_at context labels (hanging_labels labels)) cs
unfolding pointers
pointers-each context labels [] = refl
pointers-each context labels (c ∷ cs) =
    by_test (pointers-each context labels cs) (nat_le c.byte_index (max_label_start labels)) refl
  where
    shown : Metrics → Stream
    shown d = pointer_glyphs context (style_of_any (starts_in d) (hanging_labels labels)) d

    each : Metrics → Stream
    each = pointer_at context labels (hanging_labels labels)

    later : List Metrics
    later = metrics_up_to (max_label_start labels) cs

    by_test : flat_map shown later ≡ flat_map each cs
        → (b : Bool) → nat_le c.byte_index (max_label_start labels) ≡ b
        → flat_map shown (cond b (c ∷ later) later) ≡ each c ++ flat_map each cs
    by_test rest true is = ap₂ (λ s t. s ++ t) (near context labels c is) rest
    by_test rest false is =
        rest ∙ ap (λ s. s ++ flat_map each cs) (sym (far context labels c is))
