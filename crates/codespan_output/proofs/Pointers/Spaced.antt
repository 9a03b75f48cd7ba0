-- For `write_caret_pointers` and `write_pointer_row`, and for `find_pointers` and `next_pointer` of
-- `codespan_renderer`: the pointers of a line with spaces between them.
use Rattle.codespan_core.proofs.Std.{◌≡◌, ℕ, ◌+◌, ◌-◌, ◌<◌, ◌≤◌, min}
use Rattle.codespan_core.proofs.Std.{Bool, true, false, nat_lt, nat_le, List, [], ◌∷◌}
use Rattle.codespan_core.proofs.Std.{◌++◌, Option, Some, None, refl, sym, ap, ◌∙◌, arith}
use Rattle.codespan_core.proofs.Std.{append_assoc, append-nil, lt-ltb, if◌then◌else◌}
use Rattle.codespan_core.proofs.Std.{list_any, le-leb, lt-leb, nat_tests, flat_map}
use Rattle.codespan_core.specs.Labels.{LabelModel}
use Rattle.codespan_core.specs.Streams.{Stream, byte_stream, spaces}
use Rattle.codespan_output.specs.Types.{LabelStyle, Metrics}
use Rattle.codespan_output.specs.declared.rows.pointer_cursor.Pointer.{Pointer}
use Rattle.codespan_output.specs.{width_of, label_glyph, RowContext, hanging_labels, starts_in}
use Rattle.codespan_output.specs.{max_label_start, pointers, metrics_up_to}
use Rattle.codespan_output.specs.Private.{pointer_style_if_any, pointers_in, pointers_before}
use Rattle.codespan_output.specs.Private.{spaced, pointer_style, spaces_up_to, pointer_at}
use Rattle.codespan_output.proofs.Characters.Consecutive.{AreConsecutive}
use Rattle.codespan_output.proofs.Outputs.RowEquations.{spaces-add}
use Rattle.codespan_output.proofs.Characters.Widths.{width-in, width-out}
use Rattle.codespan_output.proofs.Pointers.Forms.{none-past, pointers-each}

-- ---- a loop over the pointers

-- a pointer before the byte index is next
pub spaced-next : (context : RowContext) (edge column before : ℕ) (ps rest : List Pointer)
    (p : Pointer)
    → ps ≡ p ∷ rest → p.byte_index < before
    → spaced context edge column (pointers_before before ps)
    ≡ (spaces (p.column - column)
    ++ label_glyph context.severity p.style context.chars.pointer_left)
    ++ spaced context edge p.end_column (pointers_before before rest)
spaced-next context edge column before ps rest p step near =
    let early : nat_lt p.byte_index before ≡ true = lt-ltb p.byte_index before near in
    rw (step, early) refl

-- a later one is, and neither it nor those after it are written
pub spaced-stop : (context : RowContext) (edge column before : ℕ) (ps rest : List Pointer)
    (p : Pointer)
    → ps ≡ p ∷ rest → before ≤ p.byte_index
    → spaced context edge column (pointers_before before ps) ≡ spaces (edge - column)
spaced-stop context edge column before ps rest p step far =
    let late : nat_lt p.byte_index before
    ≡ false = grind (arith, nat_tests) in rw (step, late) refl

-- none is left
pub spaced-end : (context : RowContext) (edge column before : ℕ) (ps : List Pointer) → ps ≡ []
    → spaced context edge column (pointers_before before ps) ≡ spaces (edge - column)
spaced-end context edge column before ps none = rw none refl

-- ---- one character

-- what the characters show, one by one
abbrev each_pointer : RowContext → List LabelModel → List Metrics → Stream
each_pointer context labels cs = flat_map (pointer_at context labels (hanging_labels labels)) cs

-- no space is pending
spaces_none : (s : Stream) → spaces 0 ++ s ≡ s
unfolding spaces byte_stream
spaces_none s = refl

-- no label hangs from the character
pointer_none : (context : RowContext) (labels : List LabelModel) (c : Metrics)
    → pointer_style_if_any (hanging_labels labels) c ≡ None
    → pointer_at context labels (hanging_labels labels) c
    ≡ spaces_up_to (max_label_start labels) c
    c.unicode_width
unfolding pointer_at
pointer_none context labels c h = by_test (list_any (starts_in c) (hanging_labels labels)) refl h
  where
    by_test : (b : Bool) → list_any (starts_in c) (hanging_labels labels) ≡ b
        → (if b then Some (pointer_style (hanging_labels labels) c) else None) ≡ None
        → pointer_at context labels (hanging_labels labels) c ≡ spaces_up_to
        (max_label_start labels) c c.unicode_width
    by_test true is h = cc
    by_test false is h = rw is refl

-- a label of this style hangs from it
pointer_some : (context : RowContext) (labels : List LabelModel) (c : Metrics)
    (style : LabelStyle)
    → pointer_style_if_any (hanging_labels labels) c ≡ Some style
    → pointer_at context labels (hanging_labels labels) c
    ≡ label_glyph context.severity style context.chars.pointer_left
    ++ spaces_up_to (max_label_start labels) c (c.unicode_width - 1)
unfolding pointer_at
pointer_some context labels c style h =
    by_test (list_any (starts_in c) (hanging_labels labels)) refl h
  where
    by_test : (b : Bool) → list_any (starts_in c) (hanging_labels labels) ≡ b
        → (if b then Some (pointer_style (hanging_labels labels) c) else None) ≡ Some style
        → pointer_at context labels (hanging_labels labels) c
        ≡ label_glyph context.severity style context.chars.pointer_left
        ++ spaces_up_to (max_label_start labels) c (c.unicode_width - 1)
    by_test true is h = let same : pointer_style (hanging_labels labels) c ≡ style = cc in
        rw (is, same) refl
    by_test false is h = cc

-- the spaces of a character are added to the pending ones
spaces_due : (reach : ℕ) (c : Metrics) (pending width : ℕ) (s : Stream)
    → c.byte_index ≤ reach
    → spaces pending ++ (spaces_up_to reach c width ++ s) ≡ spaces (pending + width) ++ s
unfolding spaces_up_to
spaces_due reach c pending width s h =
    let within : nat_le c.byte_index reach ≡ true = le-leb c.byte_index reach h in
    rw (within, spaces-add) (sym (append_assoc (spaces pending) (spaces width) s))

-- there are none past the greatest start
spaces_past : (reach : ℕ) (c : Metrics) (width : ℕ) (s : Stream) → reach < c.byte_index
    → spaces_up_to reach c width ++ s ≡ s
unfolding spaces_up_to
spaces_past reach c width s h =
    let past : nat_le c.byte_index reach ≡ false = lt-leb c.byte_index reach h in
    rw past refl

-- ---- past the greatest start

-- where all characters begin there, there is no pointer
pub pointers-past : (labels : List LabelModel) (byte_index column : ℕ) (cs : List Metrics)
    → AreConsecutive byte_index column cs → max_label_start labels < byte_index
    → pointers_in (hanging_labels labels) cs ≡ []
pointers-past labels byte_index column [] consecutive past = refl
pointers-past labels byte_index column (c ∷ cs) consecutive past =
    let there : max_label_start labels < c.byte_index = omega (arith, consecutive.0) in
    rw (none-past labels c there)
    (pointers-past labels (byte_index + c.bytes) (column + c.unicode_width) cs consecutive.3
    (omega arith))

-- and nothing is written
record ShowsNothing (context : RowContext) (labels : List LabelModel) (cs : List Metrics) : Type 0
  where
    pub drawn : each_pointer context labels cs ≡ []
    pub width : width_of (metrics_up_to (max_label_start labels) cs) ≡ 0

far-char_metrics : (context : RowContext) (labels : List LabelModel) (byte_index column : ℕ)
    (cs : List Metrics)
    → AreConsecutive byte_index column cs → max_label_start labels < byte_index
    → ShowsNothing context labels cs
far-char_metrics context labels byte_index column [] adjacent far =
    record { drawn = refl; width = refl }
far-char_metrics context labels byte_index column (c ∷ cs) adjacent far =
    let there : max_label_start labels < c.byte_index = omega (arith, adjacent.0) in
    let rest = far-char_metrics context labels (byte_index + c.bytes) (column + c.unicode_width) cs
    adjacent.3 (omega arith) in
    record {
      drawn =
          rw (
            pointer_none context labels c (none-past labels c there),
            spaces_past (max_label_start labels) c c.unicode_width
                (each_pointer context labels cs) there,
          )
          rest.drawn;
      width = width-out (max_label_start labels) c cs there ∙ rest.width;
    }

-- ---- the pointers of characters

regroup_pointer : (pending glyph after rest : Stream)
    → pending ++ ((glyph ++ after) ++ rest) ≡ (pending ++ glyph) ++ (after ++ rest)
regroup_pointer pending glyph after rest = simp append_assoc

-- the pending spaces, and then the pointers of the characters
spaced-char_metrics : (context : RowContext) (labels : List LabelModel)
    (byte_index column at : ℕ) (cs : List Metrics)
    → AreConsecutive byte_index column cs → at ≤ column
    → spaces (column - at) ++ each_pointer context labels cs
    ≡ spaced context (column + width_of (metrics_up_to (max_label_start labels) cs)) at
    (pointers_in (hanging_labels labels) cs)
spaced-char_metrics context labels byte_index column at [] adjacent low =
    let e : column + 0 ≡ column = omega arith in rw e (append-nil (spaces (column - at)))
spaced-char_metrics context labels byte_index column at (c ∷ cs) adjacent low =
    by_reach
    (λ from h. spaced-char_metrics context labels (byte_index + c.bytes)
    (column + c.unicode_width) from cs adjacent.3 h)
    (nat_le c.byte_index (max_label_start labels)) refl
  where
    by_reach : ((from : ℕ) → from ≤ column + c.unicode_width
        → spaces (column + c.unicode_width - from) ++ each_pointer context labels cs
        ≡ spaced context
        (column + c.unicode_width + width_of (metrics_up_to (max_label_start labels) cs)) from
        (pointers_in (hanging_labels labels) cs))
        → (b : Bool) → nat_le c.byte_index (max_label_start labels) ≡ b
        → spaces (column - at) ++ each_pointer context labels (c ∷ cs)
        ≡ spaced context (column + width_of (metrics_up_to (max_label_start labels) (c ∷ cs)))
        at
        (pointers_in (hanging_labels labels) (c ∷ cs))
    by_reach again true near = by_found (pointer_style_if_any (hanging_labels labels) c) refl
      where
        low_byte_index : c.byte_index ≤ max_label_start labels
        low_byte_index = grind (arith, nat_tests)

        edges : column + width_of
            (metrics_up_to (max_label_start labels) (c ∷ cs)) ≡ column + c.unicode_width
            + width_of (metrics_up_to (max_label_start labels) cs)
        edges = omega (arith, width-in (max_label_start labels) c cs low_byte_index)

        by_found : (o : Option LabelStyle) → pointer_style_if_any (hanging_labels labels) c ≡ o
            → spaces (column - at) ++ each_pointer context labels (c ∷ cs)
            ≡ spaced context
            (column + width_of (metrics_up_to (max_label_start labels) (c ∷ cs)))
            at (pointers_in (hanging_labels labels) (c ∷ cs))
        by_found None is =
            let more : column - at + c.unicode_width ≡ column + c.unicode_width - at =
            omega arith in
            rw (
              pointer_none context labels c is,
              spaces_due (max_label_start labels) c
                  (column - at) c.unicode_width (each_pointer context labels cs) low_byte_index,
              is,
              edges,
              more,
            )
            (again at (omega arith))
        by_found (Some style) is =
            let glyph = label_glyph context.severity style context.chars.pointer_left in
            let rest = each_pointer context labels cs in
            let far_edge =
            column + c.unicode_width + width_of (metrics_up_to (max_label_start labels) cs) in
            let more : 0 + (c.unicode_width - 1) ≡ column + c.unicode_width
            - (column + min c.unicode_width 1) =
            omega arith in
            let drawn : spaces (column - at) ++ each_pointer context labels (c ∷ cs)
            ≡ spaced context
            (column + c.unicode_width + width_of (metrics_up_to (max_label_start labels) cs)) at
            (pointers_in (hanging_labels labels) (c ∷ cs)) =
            rw (pointer_some context labels c style is, is)
            (regroup_pointer (spaces (column - at)) glyph
            (spaces_up_to (max_label_start labels) c (c.unicode_width - 1)) rest
            ∙ ap (λ s. spaces (column - at) ++ glyph ++ s)
            (sym
            (spaces_none
            (spaces_up_to (max_label_start labels) c (c.unicode_width - 1) ++ rest))
            ∙ spaces_due (max_label_start labels) c 0 (c.unicode_width - 1) rest low_byte_index
            ∙ ap (λ n. spaces n ++ rest) more
            ∙ again (column + min c.unicode_width 1) (omega arith))
            ∙ ap (λ k. spaces (k - at) ++ glyph ++ spaced context far_edge
            (k + min c.unicode_width 1) (pointers_in (hanging_labels labels) cs))
            (sym adjacent.1)) in
            drawn
            ∙ ap (λ n. spaced context n at (pointers_in (hanging_labels labels) (c ∷ cs)))
            (sym edges)
    by_reach again false far =
        let past : max_label_start labels < byte_index =
        (let here = adjacent.0 in grind (arith, nat_tests)) in
        let none = far-char_metrics context labels byte_index column (c ∷ cs) adjacent past in
        let found = pointers-past labels byte_index column (c ∷ cs) adjacent past in
        let e : column + 0 ≡ column = omega arith in
        rw (none.drawn, found, none.width, e) (append-nil (spaces (column - at)))

-- all characters of a line
pub spaced-line : (context : RowContext) (labels : List LabelModel) (cs : List Metrics)
    → AreConsecutive 0 0 cs
    → spaced context (width_of (metrics_up_to (max_label_start labels) cs)) 0
    (pointers_in (hanging_labels labels) cs) ≡ pointers context labels cs
spaced-line context labels cs adjacent =
    let e : width_of (metrics_up_to (max_label_start labels) cs) ≡ 0
    + width_of (metrics_up_to (max_label_start labels) cs) =
    omega arith in
    ap (λ n. spaced context n 0 (pointers_in (hanging_labels labels) cs)) e
    ∙ sym (spaced-char_metrics context labels 0 0 0 cs adjacent (omega arith))
    ∙ spaces_none (each_pointer context labels cs) ∙ sym (pointers-each context labels cs)
