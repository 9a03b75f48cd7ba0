-- For `next_pointer` and `find_pointers`: the style of a pointer.
use Rattle.codespan_core.proofs.Std.{◌≡◌, ℕ, suc, ◌+◌, ◌<◌, Bool, true, false, cond}
use Rattle.codespan_core.proofs.Std.{◌==◌, ◌&&◌, ◌||◌, List, [], ◌∷◌, ◌++◌}
use Rattle.codespan_core.proofs.Std.{length, get_or, drop, filter, Option, Some, None, refl, sym}
use Rattle.codespan_core.proofs.Std.{ap, ◌∙◌, drop-cons, add-one, not, if◌then◌else◌}
use Rattle.codespan_core.proofs.Std.{list_any, filter-append, fold-append, arith, common_steps}
use Rattle.codespan_core.specs.Labels.{LabelModel, has_message, is_primary, is_primary_style}
use Rattle.codespan_output.specs.Types.{LabelStyle, Primary, Secondary}
use Rattle.codespan_output.specs.Arguments.{SingleLabelTuple, single_label_view, single_label_views}
use Rattle.codespan_output.specs.Rows.{hanging_labels}
use Rattle.codespan_output.specs.RowParts.{starts_in}
use Rattle.codespan_output.specs.declared.char_metrics.Metrics.{Metrics}
use Rattle.codespan_output.specs.Private.PointerLists.{pointer_style_if_any, pointer_style}
use Rattle.codespan_output.specs.Private.RowLabels.{AreHanging}
use Rattle.codespan_renderer.specs.Private.{prefer_primary, preferred_style}
use Rattle.codespan_renderer.proofs.PreferredStyles.{preferred-cons, preferred-primary}
use Rattle.codespan_output.proofs.Messages.TrailingLabel.{is_empty_bytes}
use Rattle.codespan_output.proofs.Messages.Hanging.{hanging_parts}

-- ---- the style of a pointer

-- the preferred style of two lists
preferred-append : (p : LabelModel → Bool) (found : Option LabelStyle) (xs ys : List LabelModel)
    → preferred_style p found (xs ++ ys) ≡ preferred_style p (preferred_style p found xs) ys
preferred-append p found xs ys = grind (arith, common_steps, filter-append, fold-append)

-- after a secondary style only a primary one counts
preferred-after_secondary : (c : Metrics) (xs : List LabelModel)
    → preferred_style (starts_in c) (Some Secondary) xs ≡ Some (pointer_style xs c)
preferred-after_secondary c [] = refl
preferred-after_secondary c (x ∷ xs) =
    preferred-cons (starts_in c) (Some Secondary) x xs
    ∙ by_style (preferred-after_secondary c xs) (starts_in c x) x.style
  where
    by_style : preferred_style (starts_in c) (Some Secondary) xs ≡ Some (pointer_style xs c)
        → (b : Bool) (s : LabelStyle)
        → preferred_style (starts_in c)
        (if b then prefer_primary (Some Secondary) s else Some Secondary) xs
        ≡ Some
        (if (is_primary_style s && b)
        || list_any (λ y. is_primary y && starts_in c y) xs then Primary else Secondary)
    by_style more true Primary = preferred-primary (starts_in c) xs
    by_style more true Secondary = more
    by_style more false Primary = more
    by_style more false Secondary = more

-- the preferred style of the labels that start in the character is that of its pointer
preferred-pointer_style : (c : Metrics) (xs : List LabelModel)
    → preferred_style (starts_in c) None xs ≡ pointer_style_if_any xs c
preferred-pointer_style c [] = refl
preferred-pointer_style c (x ∷ xs) =
    preferred-cons (starts_in c) None x xs
    ∙ by_style (preferred-pointer_style c xs) (starts_in c x) x.style
  where
    by_style : preferred_style (starts_in c) None xs ≡ pointer_style_if_any xs c
        → (b : Bool) (s : LabelStyle)
        → preferred_style (starts_in c) (if b then prefer_primary None s else None) xs
        ≡ (if b
        || list_any (starts_in c) xs then Some
        (if (is_primary_style s && b)
        || list_any (λ y. is_primary y && starts_in c y) xs then Primary else Secondary)
        else None)
    by_style more true Primary = preferred-primary (starts_in c) xs
    by_style more true Secondary = preferred-after_secondary c xs
    by_style more false Primary = more
    by_style more false Secondary = more

-- the style of a pointer is that of the labels of the one list and then of the other
pub pointer_is : (labels before after : List SingleLabelTuple) (c : Metrics)
    → AreHanging labels before after
    → preferred_style (starts_in c)
    (preferred_style (starts_in c) None (filter has_message (single_label_views before)))
    (filter has_message (single_label_views after))
    ≡ pointer_style_if_any (hanging_labels (single_label_views labels)) c
pointer_is labels before after c h =
    sym (preferred-append (starts_in c) None (filter has_message (single_label_views before))
    (filter has_message (single_label_views after)))
    ∙ ap (preferred_style (starts_in c) None) (hanging_parts labels before after h)
    ∙ preferred-pointer_style c (hanging_labels (single_label_views labels))

-- a step over the label at an index
pub preferred-step : (c : Metrics) (found best : Option LabelStyle) (xs : List SingleLabelTuple)
    (i : ℕ) (d : SingleLabelTuple) (empty : Bool)
    → i < length xs
    → empty ≡ (length (get_or xs i d).2.now == 0)
    → best
    ≡ (if not
    empty then (if starts_in c (single_label_view (get_or xs i d)) then prefer_primary found
    (get_or xs i d).0 else found)
    else found)
    → preferred_style (starts_in c) best
    (filter has_message (single_label_views (drop (i + 1) xs)))
    ≡ preferred_style (starts_in c) found (filter has_message (single_label_views (drop i xs)))
preferred-step c found best xs i d empty h is e =
    rw (drop-cons xs i d h, add-one, e, is_empty_bytes, ← is)
    (by_message (get_or xs i d) (not empty))
  where
    by_message : (x : SingleLabelTuple) (b : Bool)
        → preferred_style (starts_in c)
        (if b then (if starts_in c (single_label_view x) then prefer_primary found x.0 else found)
        else found)
        (filter has_message (single_label_views (drop (suc i) xs)))
        ≡ preferred_style (starts_in c) found
        (cond b (single_label_view x ∷ filter has_message (single_label_views (drop (suc i) xs)))
        (filter has_message (single_label_views (drop (suc i) xs))))
    by_message x true =
        sym
        (preferred-cons (starts_in c) found (single_label_view x)
        (filter has_message (single_label_views (drop (suc i) xs))))
    by_message x false = refl
