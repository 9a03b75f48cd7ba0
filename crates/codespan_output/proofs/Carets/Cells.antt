-- For `carets_are_cells`: the text of a caret row is its caret cells.
use Rattle.codespan_core.proofs.Std.{◌≡◌, ℕ, zero, suc, zero-add, ap₂, chars, ◌+◌}
use Rattle.codespan_core.proofs.Std.{◌<◌, ◌≤◌, Bool, true, false, cond, nat_lt, List, []}
use Rattle.codespan_core.proofs.Std.{◌∷◌, ◌++◌, map, filter, flat_map, replicate, Option}
use Rattle.codespan_core.proofs.Std.{Some, None, encode_utf8_all, refl, sym, ap, ◌∙◌, arith}
use Rattle.codespan_core.proofs.Std.{add-zero, range_with_len, len_utf8, nat_tests, map-append}
use Rattle.codespan_core.proofs.Std.{sum_by-cons}
use Rattle.std.proofs.Common.{suc-add}
use Rattle.codespan_core.specs.Labels.{LabelModel}
use Rattle.codespan_core.specs.Streams.{Stream, text_of, repeated}
use Rattle.codespan_output.specs.Types.{Severity, LabelStyle, Primary, Secondary, Chars, Metrics}
use Rattle.codespan_output.specs.{metrics_then, placeholder, width_of, width_at, style_under}
use Rattle.codespan_output.specs.{caret_for, max_label_end, occupies, caret_cells, RowContext, Line}
use Rattle.codespan_output.specs.{line_metrics_to_end, style_change, carets, metrics_before}
use Rattle.codespan_output.proofs.Utf8.Texts.{text_of-append, encode_utf8_all-append}
use Rattle.codespan_output.proofs.Utf8.Texts.{text_of-style_mark, text_of-repeated}
use Rattle.std.specs.Prelude.{find}
use Rattle.std.specs.Option.{option_and_then}
use Rattle.codespan_output.specs.Private.{styled_after}
use Rattle.codespan_output.proofs.Characters.Styled.{carets-is}

pub text_of-style_change : (severity : Severity) (previous now : Option LabelStyle)
    → text_of (style_change severity previous now) ≡ []
unfolding style_change
text_of-style_change severity None None = refl
text_of-style_change severity None (Some style) = text_of-style_mark _
text_of-style_change severity (Some style) None = text_of-style_mark _
text_of-style_change severity (Some Primary) (Some Primary) = refl
text_of-style_change severity (Some Primary) (Some Secondary) = text_of-style_mark _
text_of-style_change severity (Some Secondary) (Some Primary) = text_of-style_mark _
text_of-style_change severity (Some Secondary) (Some Secondary) = refl

-- styles do not change the text
pub text_of-styled : (severity : Severity) (style : Metrics → Option LabelStyle)
    (shown : Metrics → Stream) (previous : Option LabelStyle) (cs : List Metrics)
    → text_of (styled_after severity style shown previous cs)
    ≡ flat_map (λ c. text_of (shown c)) cs
text_of-styled severity style shown previous [] = text_of-style_change severity previous None
text_of-styled severity style shown previous (c ∷ cs) =
    simp (text_of-append, text_of-style_change)
    (ap (λ s. text_of (shown c) ++ s) (text_of-styled severity style shown (style c) cs))

-- ---- consecutive numbers

pub range_with_len-append : (a m n : ℕ)
    → range_with_len a (m + n) ≡ range_with_len a m ++ range_with_len (a + m) n
range_with_len-append a zero n = simp (zero-add, add-zero)
range_with_len-append a (suc m) n =
    rw suc-add
    (ap (λ ks. a ∷ ks)
    (range_with_len-append (a + 1) m n
    ∙ ap (λ k. range_with_len (a + 1) m ++ range_with_len k n) (omega arith)))

pub map-range_with_len : {X : Type 0} (f g : ℕ → X) (a n : ℕ)
    → ((k : ℕ) → a ≤ k → k < a + n → f k ≡ g k)
    → map f (range_with_len a n) ≡ map g (range_with_len a n)
map-range_with_len f g a zero same = refl
map-range_with_len f g a (suc n) same =
    ap₂ (λ x xs. x ∷ xs) (same a (omega arith) (omega arith))
    (map-range_with_len f g (a + 1) n (λ k low high. same k (omega arith) (omega arith)))

pub map-constant : {X : Type 0} (x : X) (a n : ℕ)
    → map (λ _. x) (range_with_len a n) ≡ replicate n x
map-constant x a zero = refl
map-constant x a (suc n) = ap (λ xs. x ∷ xs) (map-constant x (a + 1) n)

-- ---- consecutive characters

-- the characters begin at this byte index and this column, and each follows the one before
abbrev pub AreAdjacent : ℕ → ℕ → List Metrics → Type 0
AreAdjacent byte_index column [] = Unit {0}
AreAdjacent byte_index column (c ∷ cs) =
    (c.byte_index ≡ byte_index) × (c.column ≡ column)
    × AreAdjacent (byte_index + c.bytes) (column + c.unicode_width) cs

pub char_metrics_to_end-adjacent : (tab byte_index column : ℕ) (codes : List ℕ)
    → AreAdjacent byte_index column (metrics_then placeholder tab byte_index column codes)
char_metrics_to_end-adjacent tab byte_index column [] = (refl, refl, tt)
char_metrics_to_end-adjacent tab byte_index column (c ∷ cs) = (
  refl,
  refl,
  char_metrics_to_end-adjacent tab (byte_index + len_utf8 c) (column + width_at tab column c) cs,
)

-- ---- what one character shows

-- the codes that a character shows: as many carets as it has cells, if it begins before the end
abbrev pub codes_of : Chars → ℕ → Option LabelStyle → Metrics → List ℕ
codes_of chars end style c =
    cond (nat_lt c.byte_index end) (replicate c.unicode_width (caret_for chars style)) []

-- ---- the caret cells, from the characters

encode_utf8_all-flat_map : (f : Metrics → List ℕ) (cs : List Metrics)
    → encode_utf8_all (flat_map f cs) ≡ flat_map (λ c. encode_utf8_all (f c)) cs
encode_utf8_all-flat_map f [] = refl
encode_utf8_all-flat_map f (c ∷ cs) =
    encode_utf8_all-append (f c) (flat_map f cs)
    ∙ ap (λ s. encode_utf8_all (f c) ++ s) (encode_utf8_all-flat_map f cs)

-- the style of a cell
abbrev cell_style : List LabelModel → List Metrics → ℕ → Option LabelStyle
cell_style labels cs k = option_and_then (style_under labels) (find (occupies k) cs)

occupies-inside : (k : ℕ) (c : Metrics) → c.column ≤ k → k < c.column + c.unicode_width
    → occupies k c ≡ true
occupies-inside k c low high = grind (arith, nat_tests)

occupies-after : (k : ℕ) (c : Metrics) → c.column + c.unicode_width ≤ k
    → occupies k c ≡ false
occupies-after k c high = grind (arith, nat_tests)

-- from the greatest end on nothing is shown
none-after : (chars : Chars) (labels : List LabelModel) (end byte_index column : ℕ)
    (cs : List Metrics)
    → AreAdjacent byte_index column cs → end ≤ byte_index
    → (width_of (filter (λ (c : Metrics). nat_lt c.byte_index end) cs) ≡ 0)
    × (flat_map (λ c. codes_of chars end (style_under labels c) c) cs ≡ [])
none-after chars labels end byte_index column [] adjacent after = (refl, refl)
none-after chars labels end byte_index column (c ∷ cs) adjacent after =
    let past : nat_lt c.byte_index end ≡ false =
    (let same = adjacent.0 in grind (arith, nat_tests)) in
    let rest =
    none-after chars labels end (byte_index + c.bytes) (column + c.unicode_width) cs adjacent.2
    (omega arith) in
    (simp past rest.0, simp past rest.1)

caret_codes : (chars : Chars) (labels : List LabelModel) (byte_index column : ℕ)
    (cs : List Metrics)
    → AreAdjacent byte_index column cs
    → map (λ k. caret_for chars (cell_style labels cs k))
    (range_with_len column
    (width_of (filter (λ (c : Metrics). nat_lt c.byte_index (max_label_end labels)) cs)))
    ≡ flat_map (λ c. codes_of chars (max_label_end labels) (style_under labels c) c) cs
caret_codes chars labels byte_index column [] adjacent = refl
caret_codes chars labels byte_index column (c ∷ cs) adjacent =
    by_test
    (caret_codes chars labels (byte_index + c.bytes) (column + c.unicode_width) cs adjacent.2)
    (nat_lt c.byte_index (max_label_end labels)) refl
  where
    at_cell : ℕ → ℕ
    at_cell k = caret_for chars (cell_style labels (c ∷ cs) k)

    later : List Metrics
    later = filter (λ (d : Metrics). nat_lt d.byte_index (max_label_end labels)) cs

    by_test : map (λ k. caret_for chars (cell_style labels cs k))
        (range_with_len (column + c.unicode_width) (width_of later))
        ≡ flat_map (λ d. codes_of chars (max_label_end labels) (style_under labels d) d) cs
        → (b : Bool) → nat_lt c.byte_index (max_label_end labels) ≡ b
        → map at_cell (range_with_len column (width_of (cond b (c ∷ later) later)))
        ≡ cond b (replicate c.unicode_width (caret_for chars (style_under labels c))) []
        ++ flat_map (λ d. codes_of chars (max_label_end labels) (style_under labels d) d) cs
    by_test rest true before =
        ap (λ n. map at_cell (range_with_len column n))
        (sum_by-cons (λ (d : Metrics). d.unicode_width) c later)
        ∙ ap (map at_cell) (range_with_len-append column c.unicode_width (width_of later))
        ∙ map-append at_cell (range_with_len column c.unicode_width)
        (range_with_len (column + c.unicode_width) (width_of later))
        ∙ ap₂ (λ xs ys. xs ++ ys)
        (map-range_with_len at_cell (λ _. caret_for chars (style_under labels c)) column
        c.unicode_width
        (λ k low high. let same = adjacent.1 in simp
        (occupies-inside k c (omega arith) (omega arith)))
        ∙ map-constant (caret_for chars (style_under labels c)) column c.unicode_width)
        (map-range_with_len at_cell (λ k. caret_for chars (cell_style labels cs k))
        (column + c.unicode_width) (width_of later)
        (λ k low high. let same = adjacent.1 in simp (occupies-after k c (omega arith)))
        ∙ rest)
    by_test rest false after =
        let none =
        none-after chars labels (max_label_end labels) byte_index column (c ∷ cs) adjacent
        (let same = adjacent.0 in grind (arith, nat_tests)) in
        let gone : width_of later ≡ 0 = simp after at none.0 in
        rw gone (sym (simp after at none.1))

-- the text of the carets is the line's caret cells
pub text_of-carets : (context : RowContext) (labels : List LabelModel) (cs : List Metrics)
    → AreAdjacent 0 0 cs
    → text_of (carets context labels cs) ≡ encode_utf8_all (caret_cells context.chars labels cs)
text_of-carets context labels cs adjacent =
    ap text_of (carets-is context labels cs)
    ∙ text_of-styled context.severity (style_under labels)
    (λ c. repeated c.unicode_width (caret_for context.chars (style_under labels c))) None near
    ∙ same_text near
    ∙ sym (encode_utf8_all-flat_map shown near)
    ∙ ap encode_utf8_all
    (near_codes cs ∙ sym (caret_codes context.chars labels 0 0 cs adjacent))
  where
    near : List Metrics
    near = metrics_before (max_label_end labels) cs

    shown : Metrics → List ℕ
    shown c = replicate c.unicode_width (caret_for context.chars (style_under labels c))

    same_text : (ds : List Metrics)
        → flat_map
        (λ c. text_of (repeated c.unicode_width (caret_for context.chars (style_under labels c))))
        ds
        ≡ flat_map (λ c. encode_utf8_all (shown c)) ds
    same_text [] = refl
    same_text (d ∷ ds) =
        ap₂ (λ s t. s ++ t)
        (text_of-repeated d.unicode_width (caret_for context.chars (style_under labels d)))
        (same_text ds)

    near_codes : (ds : List Metrics)
        → flat_map shown (metrics_before (max_label_end labels) ds)
        ≡ flat_map
        (λ c. codes_of context.chars (max_label_end labels) (style_under labels c) c) ds
    near_codes [] = refl
    near_codes (d ∷ ds) = by_test (near_codes ds) (nat_lt d.byte_index (max_label_end labels))
      where
        codes : List ℕ
        codes =
            flat_map
            (λ c. codes_of context.chars (max_label_end labels) (style_under labels c) c) ds

        by_test : flat_map shown (metrics_before (max_label_end labels) ds) ≡ codes
            → (b : Bool)
            → flat_map shown
            (cond b (d ∷ metrics_before (max_label_end labels) ds)
            (metrics_before (max_label_end labels) ds))
            ≡ cond b (shown d) [] ++ codes
        by_test rest true = ap (λ s. shown d ++ s) rest
        by_test rest false = rest

-- the same for the characters of a line and the placeholder
pub text_of-line_carets : (context : RowContext) (line : Line)
    → text_of (carets context line.labels (line_metrics_to_end context line))
    ≡ encode_utf8_all (caret_cells context.chars line.labels (line_metrics_to_end context line))
text_of-line_carets context line =
    text_of-carets context line.labels (line_metrics_to_end context line)
    (char_metrics_to_end-adjacent context.tab_width 0 0 (chars line.text))
