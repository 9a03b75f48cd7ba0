-- For `Messages::of` and `write_pointer_and_hanging_rows`: which message trails, and which hang.
use Rattle.codespan_core.proofs.Std.{◌||◌, ◌≡◌, ℕ, ◌+◌, ◌-◌, ◌<◌, Bool}
use Rattle.codespan_core.proofs.Std.{true, false, cond, ◌==◌, List, [], ◌∷◌, ◌++◌}
use Rattle.codespan_core.proofs.Std.{length, get_or, take, drop, map, filter, reverse, Option, Some}
use Rattle.codespan_core.proofs.Std.{None, refl, sym, ap, subst, ◌∙◌, arith, length-drop}
use Rattle.codespan_core.proofs.Std.{append_assoc, append-nil, ◌⊎◌, ⊎_elim, take-length}
use Rattle.codespan_core.proofs.Std.{not, list_any, remove, option_map, option_map_or, map-append}
use Rattle.codespan_core.proofs.Std.{reverse-append, filter-append, flat_map-append}
use Rattle.std.specs.List.{push}
use Rattle.codespan_core.specs.Labels.{LabelModel, has_message}
use Rattle.codespan_core.specs.Streams.{Stream, newline}
use Rattle.codespan_output.specs.{max_label_end, SingleLabelTuple, single_label_view}
use Rattle.codespan_output.specs.{single_label_views, RowContext, Line, HangingRow, trailing_label}
use Rattle.codespan_output.specs.{hanging_labels, stream_of, stream_of_rows, PointerRow}
use Rattle.codespan_output.specs.Private.{indexed_label_view, AreHanging, hanging_stream}
use Rattle.codespan_output.specs.Private.{pointer_and_hanging_rows}
use Rattle.codespan_output.specs.Private.{last_with_end, does_trail, indexed_trailing_label}
use Rattle.codespan_output.proofs.Messages.TrailingLabel.{is_empty_bytes, entry_is, without_at}
use Rattle.codespan_output.proofs.Messages.Rightmost.{trailing-indexed, hanging-indexed}

-- ---- where one trails

-- the rightmost label trails
trails_by : (xs : List LabelModel) (e : ℕ × LabelModel)
    → last_with_end (max_label_end xs) xs ≡ Some e → does_trail xs e ≡ true
    → indexed_trailing_label xs ≡ Some e
trails_by xs e is h = rw (is, h) refl

-- the label at an index trails
entry_trails : (xs : List SingleLabelTuple) (k end : ℕ) (d : SingleLabelTuple) → k < length xs
    → end ≡ max_label_end (single_label_views xs)
    → last_with_end end (single_label_views xs) ≡ indexed_label_view xs (Some k)
    → option_map_or (does_trail (single_label_views xs)) (indexed_label_view xs (Some k)) false
    ≡ true
    → indexed_trailing_label (single_label_views xs)
    ≡ Some (k, single_label_view (get_or xs k d))
entry_trails xs k end d h greatest last holds =
    let here = entry_is xs k d h in
    trails_by (single_label_views xs) (k, single_label_view (get_or xs k d))
    (ap (λ e. last_with_end e (single_label_views xs)) (sym greatest) ∙ last ∙ here)
    (ap (λ (o : Option (ℕ × LabelModel)). option_map_or (does_trail (single_label_views xs)) o
    false) (sym here) ∙ holds)

-- its message trails
pub trailing_here : (xs : List SingleLabelTuple) (k end : ℕ) (d : SingleLabelTuple)
    → k < length xs
    → end ≡ max_label_end (single_label_views xs)
    → last_with_end end (single_label_views xs) ≡ indexed_label_view xs (Some k)
    → option_map_or (does_trail (single_label_views xs)) (indexed_label_view xs (Some k)) false
    ≡ true
    → Some (single_label_view (get_or xs k d)) ≡ trailing_label (single_label_views xs)
trailing_here xs k end d h greatest last holds =
    ap (option_map (λ (e : ℕ × LabelModel). e.1))
    (sym (entry_trails xs k end d h greatest last holds))
    ∙ sym (trailing-indexed (single_label_views xs))

-- all elements from an index on
all_after : (n : ℕ) (xs : List SingleLabelTuple)
    → take (length xs - n) (drop n xs) ≡ drop n xs
all_after n xs = ap (λ k. take k (drop n xs)) (sym (length-drop n xs)) ∙ take-length (drop n xs)

-- all other labels may hang
hanging_at : (xs : List SingleLabelTuple) (k end : ℕ) (d : SingleLabelTuple) → k < length xs
    → end ≡ max_label_end (single_label_views xs)
    → last_with_end end (single_label_views xs) ≡ indexed_label_view xs (Some k)
    → option_map_or (does_trail (single_label_views xs)) (indexed_label_view xs (Some k)) false
    ≡ true
    → AreHanging xs (take k xs) (take (length xs - (k + 1)) (drop (k + 1) xs))
hanging_at xs k end d h greatest last holds =
    subst (AreHanging xs (take k xs)) (sym (all_after (k + 1) xs)) (record {
      are =
          ap (filter has_message)
          (map-append single_label_view (take k xs) (drop (k + 1) xs) ∙ sym (without_at xs k))
          ∙ ap
          (λ (o : Option (ℕ × LabelModel)). filter has_message
          (option_map_or (λ e. remove (single_label_views xs) e.0) o (single_label_views xs)))
          (sym (entry_trails xs k end d h greatest last holds))
          ∙ sym (hanging-indexed (single_label_views xs));
    })

pub hanging_here : (xs : List SingleLabelTuple) (k end : ℕ) → k < length xs
    → end ≡ max_label_end (single_label_views xs)
    → last_with_end end (single_label_views xs) ≡ indexed_label_view xs (Some k)
    → option_map_or (does_trail (single_label_views xs)) (indexed_label_view xs (Some k)) false
    ≡ true
    → AreHanging xs (take k xs) (take (length xs - (k + 1)) (drop (k + 1) xs))
hanging_here [] k end h greatest last holds = absurd (omega arith)
hanging_here (x ∷ xs) k end h greatest last holds =
    hanging_at (x ∷ xs) k end x h greatest last holds

-- ---- where none trails

-- no label trails where the rightmost one does not
none_by : (xs : List LabelModel) (o : Option (ℕ × LabelModel))
    → last_with_end (max_label_end xs) xs ≡ o
    → option_map_or (does_trail xs) o false ≡ false
    → indexed_trailing_label xs ≡ None
none_by xs None is h = rw is refl
none_by xs (Some e) is h = rw (is, h) refl

-- no message trails
no_entry : (xs : List SingleLabelTuple) (r : Option ℕ) (end : ℕ)
    → end ≡ max_label_end (single_label_views xs)
    → last_with_end end (single_label_views xs) ≡ indexed_label_view xs r
    → option_map_or (does_trail (single_label_views xs)) (indexed_label_view xs r) false ≡ false
    → indexed_trailing_label (single_label_views xs) ≡ None
no_entry xs r end greatest last h =
    none_by (single_label_views xs) (indexed_label_view xs r)
    (ap (λ e. last_with_end e (single_label_views xs)) (sym greatest) ∙ last) h

pub nothing_trails : (xs : List SingleLabelTuple) (r : Option ℕ) (end : ℕ)
    → end ≡ max_label_end (single_label_views xs)
    → last_with_end end (single_label_views xs) ≡ indexed_label_view xs r
    → option_map_or (does_trail (single_label_views xs)) (indexed_label_view xs r) false ≡ false
    → None ≡ trailing_label (single_label_views xs)
nothing_trails xs r end greatest last h =
    ap (option_map (λ (e : ℕ × LabelModel). e.1)) (sym (no_entry xs r end greatest last h))
    ∙ sym (trailing-indexed (single_label_views xs))

-- no message trails, and all labels may hang
pub none_trails : (xs : List SingleLabelTuple) (r : Option ℕ) (end : ℕ)
    → end ≡ max_label_end (single_label_views xs)
    → last_with_end end (single_label_views xs) ≡ indexed_label_view xs r
    → option_map_or (does_trail (single_label_views xs)) (indexed_label_view xs r) false ≡ false
    → AreHanging xs xs []
none_trails xs r end greatest last h =
    let none = no_entry xs r end greatest last h in record {
      are = rw (append-nil, hanging-indexed (single_label_views xs), none) refl;
    }

-- ---- the messages that hang

-- the labels that hang are those with a message of the one list and then of the other
pub hanging_parts : (labels before after : List SingleLabelTuple) → AreHanging labels before after
    → filter has_message (single_label_views before) ++ filter has_message
    (single_label_views after) ≡ hanging_labels (single_label_views labels)
hanging_parts labels before after h =
    sym (filter-append has_message (single_label_views before) (single_label_views after))
    ∙ ap (filter has_message) (sym (map-append single_label_view before after)) ∙ h.are

-- the message of the last label is first
hanging_push : (context : RowContext) (line : Line) (xs : List LabelModel) (x : LabelModel)
    → hanging_stream context line
    (xs ++ x ∷ []) ≡ (stream_of context (HangingRow line x) ++ newline)
    ++ hanging_stream context line xs
hanging_push context line xs x = rw (reverse-append xs (x ∷ [])) refl

-- the labels with a message, of these and one more
messages_push : (xs : List SingleLabelTuple) (x : SingleLabelTuple) (b : Bool)
    → not (length x.2.now == 0) ≡ b
    → filter has_message (single_label_views (push xs x)) ≡ filter has_message
    (single_label_views xs) ++ cond b (single_label_view x ∷ []) []
messages_push xs x b h =
    rw (map-append single_label_view xs (x ∷ []), filter-append, is_empty_bytes, h) refl

-- the last of the remaining labels has a message
pub hanging_first : (context : RowContext) (line : Line) (left rest : List SingleLabelTuple)
    (x : SingleLabelTuple) (empty : Bool)
    → left ≡ push rest x
    → empty ≡ (length x.2.now == 0) → empty ≡ false
    → hanging_stream context line (filter has_message (single_label_views left))
    ≡ (stream_of context (HangingRow line (single_label_view x)) ++ newline)
    ++ hanging_stream context line (filter has_message (single_label_views rest))
hanging_first context line left rest x empty step is some =
    rw (step, messages_push rest x true (ap not (sym is ∙ some)))
    (hanging_push context line (filter has_message (single_label_views rest))
    (single_label_view x))

-- the last of the remaining labels has no message
pub hanging_skip : (context : RowContext) (line : Line) (left rest : List SingleLabelTuple)
    (x : SingleLabelTuple) (empty : Bool)
    → left ≡ push rest x
    → empty ≡ (length x.2.now == 0) → empty ≡ true
    → hanging_stream context line (filter has_message (single_label_views left))
    ≡ hanging_stream
    context line (filter has_message (single_label_views rest))
hanging_skip context line left rest x empty step is none =
    rw (step, messages_push rest x false (ap not (sym is ∙ none)), append-nil) refl

-- none remains
pub hanging_end : (context : RowContext) (line : Line) (left : List SingleLabelTuple)
    → length left ≡ 0
    → hanging_stream context line (filter has_message (single_label_views left)) ≡ []
hanging_end context line [] h = refl
hanging_end context line (x ∷ xs) h = absurd (omega arith)

-- no label of these has a message
no_message : (xs : List SingleLabelTuple) → list_any has_message (single_label_views xs) ≡ false
    → filter has_message (single_label_views xs) ≡ []
no_message [] h = refl
no_message (x ∷ xs) h = by_message (no_message xs) (has_message (single_label_view x)) h
  where
    by_message : (list_any has_message (single_label_views xs) ≡ false
        → filter has_message (single_label_views xs) ≡ [])
        → (b : Bool)
        → (b || list_any has_message (single_label_views xs)) ≡ false
        → cond b (single_label_view x ∷ filter has_message (single_label_views xs))
        (filter has_message (single_label_views xs)) ≡ []
    by_message again true h = cc
    by_message again false h = again h

-- some label of these has a message
some_message : (xs : List SingleLabelTuple)
    → list_any has_message (single_label_views xs) ≡ true
    → filter has_message (single_label_views xs) ≡ [] → ⊥
some_message [] h none = cc
some_message (x ∷ xs) h none =
    by_message (some_message xs) (has_message (single_label_view x)) h none
  where
    by_message : (list_any has_message (single_label_views xs) ≡ true
        → filter has_message (single_label_views xs) ≡ [] → ⊥)
        → (b : Bool)
        → (b || list_any has_message (single_label_views xs)) ≡ true
        → cond b (single_label_view x ∷ filter has_message (single_label_views xs))
        (filter has_message (single_label_views xs)) ≡ []
        → ⊥
    by_message again true h none = cc
    by_message again false h none = again h none

-- no label hangs
pub none_hangs : (labels before after : List SingleLabelTuple) → AreHanging labels before after
    → list_any has_message (single_label_views before) ≡ false
    → list_any has_message (single_label_views after) ≡ false
    → hanging_labels (single_label_views labels) ≡ []
none_hangs labels before after h early late =
    rw (← hanging_parts labels before after h, no_message before early, no_message after late)
    refl

-- so no hanging row is written
pub nothing_hangs : (context : RowContext) (line : Line)
    (labels before after : List SingleLabelTuple)
    → AreHanging labels before after
    → list_any has_message (single_label_views before) ≡ false
    → list_any has_message (single_label_views after) ≡ false
    → stream_of_rows context (pointer_and_hanging_rows line
    (hanging_labels (single_label_views labels))) ≡ []
nothing_hangs context line labels before after h early late =
    rw (none_hangs labels before after h early late) refl

-- the pointers, and the messages that hang, the last one first
rows_are : (context : RowContext) (line : Line) (xs : List LabelModel) → (xs ≡ [] → ⊥)
    → stream_of_rows context
    (pointer_and_hanging_rows line xs) ≡ (stream_of context (PointerRow line) ++ newline)
    ++ hanging_stream context line xs
rows_are context line [] h = absurd (h refl)
rows_are context line (x ∷ xs) h = refl

-- the messages of two lists
hanging_append : (context : RowContext) (line : Line) (xs ys : List LabelModel)
    → hanging_stream context line (xs ++ ys) ≡ hanging_stream context line ys ++ hanging_stream
    context line xs
hanging_append context line xs ys =
    rw (reverse-append xs ys, map-append (HangingRow line) (reverse ys) (reverse xs))
    (flat_map-append (λ row. stream_of context row ++ newline) (map (HangingRow line) (reverse ys))
    (map (HangingRow line) (reverse xs)))

-- where two lists are empty together, each is
none-left : (xs ys : List LabelModel) → xs ++ ys ≡ [] → xs ≡ []
none-left [] ys e = refl
none-left (x ∷ xs) ys e = cc

none-right : (xs ys : List LabelModel) → xs ++ ys ≡ [] → ys ≡ []
none-right [] ys e = e
none-right (x ∷ xs) ys e = cc

-- labels hang
pub all_hanging : (context : RowContext) (line : Line) (labels before after : List SingleLabelTuple)
    → AreHanging labels before after
    → (list_any has_message (single_label_views before) ≡ true)
    ⊎ (list_any has_message (single_label_views after) ≡ true)
    → stream_of_rows context (pointer_and_hanging_rows line
    (hanging_labels (single_label_views labels)))
    ≡ stream_of context (PointerRow line) ++ newline
    ++ hanging_stream context line (filter has_message (single_label_views after))
    ++ hanging_stream context line (filter has_message (single_label_views before))
all_hanging context line labels before after h some =
    let early = filter has_message (single_label_views before) in
    let late = filter has_message (single_label_views after) in
    ap (λ (xs : List LabelModel). stream_of_rows context (pointer_and_hanging_rows line xs))
    (sym (hanging_parts labels before after h))
    ∙ rows_are context line (early ++ late)
    (λ none. ⊎_elim (λ b. some_message before b (none-left early late none))
    (λ a. some_message after a (none-right early late none)) some)
    ∙ ap (λ (s : Stream). (stream_of context (PointerRow line) ++ newline) ++ s)
    (hanging_append context line early late)
    ∙ sym
    (append_assoc (stream_of context (PointerRow line) ++ newline)
    (hanging_stream context line late) (hanging_stream context line early))
