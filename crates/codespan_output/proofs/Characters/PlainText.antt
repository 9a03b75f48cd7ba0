-- For `plain_from` and `write_text`: text of a line that is rendered unchanged.
use Rattle.codespan_core.proofs.Std.{◌≡◌, ℕ, ◌+◌, ◌-◌, ◌<◌, ◌≤◌, Option}
use Rattle.codespan_core.proofs.Std.{length, take, drop, length-append, length-drop, append_assoc}
use Rattle.codespan_core.proofs.Std.{append-nil, arith, ◌++◌, Bool, true, false, ◌&&◌}
use Rattle.codespan_core.proofs.Std.{◌||◌, ◌==◌, List, [], ◌∷◌, None, refl, sym, ap}
use Rattle.codespan_core.proofs.Std.{◌∙◌, encode_utf8, len_utf8, filter, list_any, IsUtf8}
use Rattle.codespan_core.proofs.Std.{false≢true, ne_eqb, list_any-append, take-length, drop-drop}
use Rattle.codespan_core.proofs.Std.{take-append-drop, length-encode, len_utf8_bounds}
use Rattle.codespan_core.specs.Labels.{LabelModel, is_primary}
use Rattle.codespan_core.specs.Streams.{byte_stream, glyph}
use Rattle.codespan_output.specs.Types.{Metrics}
use Rattle.codespan_output.specs.{covers, max_label_end, LabelStyle, Primary, metrics_then}
use Rattle.codespan_output.specs.{width_at, Line, RowContext, style_change, colored_text}
use Rattle.codespan_output.specs.{source_glyph, source_style}
use Rattle.codespan_output.specs.declared.rows.primary_cover.PrimaryCover.{PrimaryCover}
use Rattle.codespan_output.specs.Private.{CoversAsLaneMarks, covers_char, styled_after}
use lib.Utf8.{encodes}
use Rattle.codespan_core.proofs.Writes.{byte_stream-append}
use Rattle.codespan_output.proofs.Carets.Ends.{style_under-below}
use Rattle.codespan_output.proofs.Outputs.RowEquations.{style_change-same}
use Rattle.codespan_output.proofs.Characters.TextRuns.{IsOver, over-start, text-end, text-start}
use Rattle.codespan_output.proofs.Characters.TextRuns.{text_rest}

-- two tests that both failed
or_parts : (a b : Bool) → (a || b) ≡ false → (a ≡ false) × (b ≡ false)
or_parts true b e = absurd (cc)
or_parts false b e = (refl, e)

-- ---- no character is a tab

-- a tab is one byte
tab-there : (c : ℕ) → c ≡ 9 → list_any (λ b. b == 9) (encode_utf8 c) ≡ true
unfolding encode_utf8
tab-there c e = rw e refl

-- a character of a text without a tab is not a tab, and the text after it has none
no-tab : (c : ℕ) (cs : List ℕ) → list_any (λ b. b == 9) (encodes (c ∷ cs)) ≡ false
    → (c ≡ 9 → ⊥) × (list_any (λ b. b == 9) (encodes cs) ≡ false)
no-tab c cs e =
    let parts =
    or_parts (list_any (λ b. b == 9) (encode_utf8 c)) (list_any (λ b. b == 9) (encodes cs))
    (sym (list_any-append (λ b. b == 9) (encode_utf8 c) (encodes cs)) ∙ e) in
    (λ is. false≢true (sym parts.0 ∙ tab-there c is), parts.1)

-- a character that is not a tab is written unchanged
as_is : (c : Metrics) → (c.ch ≡ 9 → ⊥) → source_glyph c ≡ glyph c.ch
unfolding source_glyph
as_is c h = rw (ne_eqb c.ch 9 h) refl

-- so are characters of a text without a tab that have no style, after the style before them ends
plain-past : (context : RowContext) (line : Line) (tab byte_index column from top : ℕ)
    (previous : Option LabelStyle) (cs : List ℕ)
    → from ≤ byte_index → byte_index + length (encodes cs) ≤ top
    → ((c : Metrics) → from ≤ c.byte_index → c.byte_index < top → 1 ≤ c.bytes
    → source_style line c ≡ None)
    → list_any (λ b. b == 9) (encodes cs) ≡ false
    → styled_after context.severity (source_style line) source_glyph previous
    (metrics_then (λ _ _. []) tab byte_index column cs)
    ≡ style_change context.severity previous None ++ byte_stream (encodes cs)
unfolding byte_stream
plain-past context line tab byte_index column from top previous [] low high none e =
    sym (append-nil (style_change context.severity previous None))
plain-past context line tab byte_index column from top previous (c ∷ cs) low high none e =
    let here : Metrics = record {
      ch =
          c;
      byte_index = byte_index;
      bytes = len_utf8 c;
      column = column;
      unicode_width = width_at tab column c;
    } in
    let parts = no-tab c cs e in
    let some = (len_utf8_bounds c).0 in
    let size = length-append (encode_utf8 c) (encodes cs) in
    let bare = none here low (omega (arith, high, size, some, length-encode c)) some in
    let rest =
    plain-past context line tab (byte_index + len_utf8 c) (column + width_at tab column c) from
    top None cs (omega arith) (omega (arith, high, size, length-encode c)) none parts.1 in
    rw (bare, as_is here parts.0, rest, style_change-same context.severity None)
    (append_assoc (style_change context.severity previous None) (glyph c) (byte_stream (encodes cs))
    ∙ ap (λ l. style_change context.severity previous None ++ l)
    (sym (byte_stream-append (encode_utf8 c) (encodes cs))))

-- ---- the end of a text

-- labels that are not primary cover no character as primary ones
primary-alone : (c : Metrics) (xs : List LabelModel)
    → list_any (λ x. is_primary x && covers x c) (filter is_primary xs)
    ≡ list_any (λ x. is_primary x && covers x c) xs
primary-alone c [] = refl
primary-alone c (x ∷ xs) = by_test (primary-alone c xs) (is_primary x) refl
  where
    by_test : list_any (λ y. is_primary y && covers y c) (filter is_primary xs)
        ≡ list_any (λ y. is_primary y && covers y c) xs
        → (b : Bool) → is_primary x ≡ b
        → list_any (λ y. is_primary y && covers y c) (filter is_primary (x ∷ xs))
        ≡ list_any (λ y. is_primary y && covers y c) (x ∷ xs)
    by_test later true is = rw (is, is, later) refl
    by_test later false is = rw (is, later) refl

-- past the greatest end of the primary labels none of them has a byte of a character
no-label-past : (labels : List LabelModel) (c : Metrics)
    → max_label_end (filter is_primary labels) ≤ c.byte_index
    → list_any (λ x. is_primary x && covers x c) labels ≡ false
no-label-past labels c past =
    sym (primary-alone c labels) ∙ by_test (list_any (λ x. is_primary x && covers x c) some) refl
  where
    some : List LabelModel
    some = filter is_primary labels

    by_test : (b : Bool) → list_any (λ x. is_primary x && covers x c) some ≡ b
        → list_any (λ x. is_primary x && covers x c) some ≡ false
    by_test true is = let low = style_under-below some c Primary (rw is refl) in
        absurd (omega arith)
    by_test false is = is

-- past that and past what lane marks cover no character is primary
pub no-style-past : (line : Line) (given : PrimaryCover) (c : Metrics)
    → CoversAsLaneMarks line.lanes.lane_marks given → covers_char given c ≡ false
    → max_label_end (filter is_primary line.labels) ≤ c.byte_index → 1 ≤ c.bytes
    → source_style line c ≡ None
no-style-past line given c are none past some =
    rw (no-label-past line.labels c past, ← are c some, none) refl

-- the text from one byte index on has no tab where that from an earlier one has none
pub no-tab-later : (from byte_index : ℕ) (text : List ℕ) → from ≤ byte_index
    → list_any (λ b. b == 9) (drop from text) ≡ false
    → list_any (λ b. b == 9) (drop byte_index text) ≡ false
no-tab-later from byte_index text h none =
    let step : drop (byte_index - from) (drop from text) ≡ drop byte_index text =
    drop-drop (byte_index - from) from text
    ∙ (let i : from + (byte_index - from) ≡ byte_index =
    omega arith in ap (λ k. drop k text) i) in
    let rest = drop from text in
    let parts = or_parts (list_any (λ b. b == 9) (take (byte_index - from) rest))
    (list_any (λ b. b == 9) (drop (byte_index - from) rest))
    (sym
    (list_any-append (λ b. b == 9) (take (byte_index - from) rest) (drop (byte_index - from) rest))
    ∙ ap (list_any (λ b. b == 9)) (take-append-drop (byte_index - from) rest)
    ∙ none) in
    ap (list_any (λ b. b == 9)) (sym step) ∙ parts.1

-- what is left of a text after a run
pub text-past : (context : RowContext) (line : Line) (previous : Option LabelStyle) (run : List ℕ)
    (from byte_index : ℕ) (left : List Metrics)
    → IsOver context.tab_width line.text byte_index left
    → from ≤ byte_index
    → ((c : Metrics) → from ≤ c.byte_index → c.byte_index < length line.text
    → 1 ≤ c.bytes
    → source_style line c ≡ None)
    → list_any (λ b. b == 9) (drop from line.text) ≡ false
    → (byte_stream run ++ style_change context.severity previous None) ++ byte_stream
    (drop byte_index line.text) ≡ text_rest context line previous run left
text-past context line previous run from byte_index left over low none tab =
    let rest =
    plain-past context line context.tab_width byte_index over.column from (length line.text)
    previous over.codes low
    (omega (arith, ap length over.text_left, length-drop byte_index line.text, over.within)) none
    (ap (list_any (λ b. b == 9)) (sym over.text_left)
    ∙ no-tab-later from byte_index line.text low tab) in
    append_assoc (byte_stream run) (style_change context.severity previous None)
    (byte_stream (drop byte_index line.text))
    ∙ ap (λ l. byte_stream run ++ (style_change context.severity previous None ++ byte_stream l))
    over.text_left
    ∙ ap (λ l. byte_stream run ++ l) (sym rest)
    ∙ ap (λ cs. byte_stream run
    ++ styled_after context.severity (source_style line) source_glyph previous
    cs)
    (sym over.char_metrics)

-- a text of which no character has a style, and which has no tab
pub text-plain : (context : RowContext) (line : Line) (from : ℕ) → IsUtf8 line.text
    → from ≡ 0
    → ((c : Metrics) → from ≤ c.byte_index → c.byte_index < length line.text
    → 1 ≤ c.bytes
    → source_style line c ≡ None)
    → list_any (λ b. b == 9) (drop from line.text) ≡ false
    → byte_stream line.text ≡ colored_text context line
unfolding byte_stream style_change
text-plain context line from u start none tab =
    text-past context line None [] from 0 _ (over-start context.tab_width line.text u) (omega arith)
    none tab
    ∙ text-start context line

-- nothing is left
pub text-over : (context : RowContext) (line : Line) (previous : Option LabelStyle) (run : List ℕ)
    (byte_index : ℕ) (left : List Metrics)
    → IsOver context.tab_width line.text byte_index left → left ≡ []
    → (byte_stream run ++ style_change context.severity previous None) ++ byte_stream
    (drop byte_index line.text) ≡ text_rest context line previous run left
unfolding byte_stream
text-over context line previous run byte_index left over ends =
    by_codes over.codes (sym over.char_metrics ∙ ends) over.text_left
  where
    by_codes : (codes : List ℕ)
        → metrics_then (λ _ _. []) context.tab_width byte_index over.column codes ≡ []
        → drop byte_index line.text ≡ encodes codes
        → (byte_stream run ++ style_change context.severity previous None) ++ byte_stream
        (drop byte_index line.text) ≡ text_rest context line previous run left
    by_codes [] none rest =
        rw rest (append-nil (byte_stream run ++ style_change context.severity previous None))
        ∙ text-end context line previous run left ends
    by_codes (c ∷ cs) none rest = absurd (omega (arith, ap length none))

-- the text from a byte index on, as it is borrowed
pub tail-taken : (n : ℕ) (text bs : List ℕ) → bs ≡ text
    → take (length bs - n) (drop n bs) ≡ drop n text
tail-taken n text bs same =
    ap (λ k. take k (drop n bs)) (sym (length-drop n bs)) ∙ take-length (drop n bs)
    ∙ ap (drop n) same
