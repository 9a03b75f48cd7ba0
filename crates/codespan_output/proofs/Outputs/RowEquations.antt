-- For `write_line`, `write_snippet_empty` and `write_break`: equations of rows, as the calls that
-- write them put them together.
use Rattle.codespan_core.proofs.Std.{◌≡◌, ℕ, ◌+◌, ◌-◌, ◌^◌, ◌<◌, ◌≤◌}
use Rattle.codespan_core.proofs.Std.{◌==◌, List, [], ◌∷◌, ◌++◌, true, false, nat_lt}
use Rattle.codespan_core.proofs.Std.{lt-ltb, Option, None, Some, append_assoc, append-nil, length}
use Rattle.codespan_core.proofs.Std.{replicate, refl, ap, sym, ◌∙◌, arith, flat_map-append}
use Rattle.codespan_core.proofs.Std.{codes, IsUtf8}
use Rattle.std.proofs.lemmas.List.{replicate-append-replicate}
use Rattle.codespan_core.specs.Streams.{Stream, byte_stream, spaces, repeated, glyph, newline}
use Rattle.codespan_output.specs.Types.{LabelStyle, Primary, Secondary, Severity, Metrics}
use Rattle.codespan_output.specs.declared.rows.lanes.LaneRowKind.TheVariants.{Source, EmptyOrBreak}
use Rattle.codespan_output.specs.declared.rows.lanes.LaneRowKind.TheVariants.{SingleLabels}
use Rattle.codespan_output.specs.{SingleLabelTuple, single_label_views, RowContext, Line, Row}
use Rattle.codespan_output.specs.{SourceRow, hanging_labels, rows_of, bracketed, stream_of}
use Rattle.codespan_output.specs.{stream_of_rows, char_metrics, metrics_before, style_change}
use Rattle.codespan_output.specs.{outer_gutter, inner_gutter, CaretRow}
use Rattle.codespan_output.specs.Private.{row_lanes_stream, caret_rows, pointer_and_hanging_rows}
use Rattle.codespan_output.specs.Private.{underline_rows}
use Rattle.codespan_output.specs.Rows.{Lanes}
use Rattle.codespan_core.proofs.Writes.{byte_stream-append}
use Rattle.codespan_core.proofs.Repeats.{repeat-add}
use Rattle.codespan_output.proofs.Characters.ScanState.{ConsecutiveWithin, scan_state-char_metrics}
use Rattle.codespan_output.specs.Lanes as kind

-- a gutter is the padding's spaces and one more
pub gutter_spaces : (n : ℕ) → outer_gutter n ≡ spaces (n + 1)
unfolding outer_gutter spaces
gutter_spaces n = refl

-- the lanes of each kind of row, by the definitions
pub source_lanes_are : (context : RowContext) (leading : ℕ) (lanes : Lanes)
    → row_lanes_stream context leading Source lanes
    ≡ inner_gutter context leading kind.Source lanes
unfolding row_lanes_stream inner_gutter
source_lanes_are context leading lanes = refl

pub plain_lanes_are : (context : RowContext) (leading : ℕ) (lanes : Lanes)
    → row_lanes_stream context leading EmptyOrBreak lanes
    ≡ inner_gutter context 0 kind.EmptyOrBreak
    lanes
unfolding row_lanes_stream inner_gutter
plain_lanes_are context leading lanes = refl

pub below_lanes_are : (context : RowContext) (leading : ℕ) (lanes : Lanes)
    → row_lanes_stream context leading SingleLabels lanes ≡ inner_gutter context leading
    kind.SingleLabels lanes
unfolding row_lanes_stream inner_gutter
below_lanes_are context leading lanes = refl

pub ruleset lanes_are = (source_lanes_are, plain_lanes_are, below_lanes_are)

-- a code that is not empty is in brackets
pub bracketed-some : (code : List ℕ) → (length code == 0) ≡ false
    → bracketed (Some code) ≡ byte_stream (codes "[") ++ byte_stream code
    ++ byte_stream (codes "]")
unfolding bracketed
bracketed-some [] h = let clash : true ≡ false = h in cc
bracketed-some (b ∷ bs) h = refl

-- ---- runs

-- `k + n` spaces are `k` spaces and then `n`
pub spaces-add : (k n : ℕ) → spaces (k + n) ≡ spaces k ++ spaces n
unfolding spaces
spaces-add k n =
    ap byte_stream (sym (replicate-append-replicate k n 32))
    ∙ byte_stream-append (replicate k 32) (replicate n 32)

pub spaces-past : (k n : ℕ) → k ≤ n → spaces n ≡ spaces k ++ spaces (n - k)
spaces-past k n h = let e : n ≡ k + (n - k) = omega arith in ap spaces e ∙ spaces-add k (n - k)

-- `k + n` copies of a character are `k` copies and then `n`
pub repeated-add : (k n c : ℕ) → repeated (k + n) c ≡ repeated k c ++ repeated n c
unfolding repeated
repeated-add k n c = repeat-add k n (glyph c)

pub repeated-past : (k n c : ℕ) → k ≤ n
    → repeated n c ≡ repeated k c ++ repeated (n - k) c
repeated-past k n c h = let e : n ≡ k + (n - k) = omega arith in
    ap (λ m. repeated m c) e ∙ repeated-add k (n - k) c

-- ---- styles

-- where the style stays, nothing is written
pub style_change-same : (severity : Severity) (style : Option LabelStyle)
    → style_change severity style style ≡ []
unfolding style_change
style_change-same severity None = refl
style_change-same severity (Some Primary) = refl
style_change-same severity (Some Secondary) = refl

-- a run, the change after it, what a character shows, and the rest
pub regroup : (run ended shown rest : Stream)
    → run ++ (ended ++ shown ++ rest) ≡ run ++ ended ++ (shown ++ rest)
regroup run ended shown rest =
    ap (λ (l : Stream). run ++ l) (append_assoc ended shown rest)
    ∙ sym (append_assoc run ended (shown ++ rest))

-- ---- the rows of a line

abbrev row_and_end : RowContext → Row → Stream
row_and_end context row = stream_of context row ++ newline

-- the rows of a line are its source row, its caret row, its pointer and hanging rows, and its
-- underlines
pub line_rows : (context : RowContext) (line : Line) → stream_of_rows context (rows_of line)
    ≡ stream_of context (SourceRow line) ++ newline
    ++ stream_of_rows context (caret_rows line line.labels)
    ++ stream_of_rows context (pointer_and_hanging_rows line (hanging_labels line.labels))
    ++ stream_of_rows context (underline_rows line)
line_rows context line =
    flat_map-append (row_and_end context)
    ((SourceRow line ∷ caret_rows line line.labels)
    ++ pointer_and_hanging_rows line (hanging_labels line.labels))
    (underline_rows line)
    ∙ ap (λ (l : Stream). l ++ stream_of_rows context (underline_rows line))
    (flat_map-append (row_and_end context) (SourceRow line ∷ caret_rows line line.labels)
    (pointer_and_hanging_rows line (hanging_labels line.labels)))

-- a line without labels has no caret row
pub caret_rows_none : (context : RowContext) (line : Line) (labels : List SingleLabelTuple)
    → length labels ≤ 0 → stream_of_rows context (caret_rows line (single_label_views labels))
    ≡ []
caret_rows_none context line [] h = refl
caret_rows_none context line (x ∷ xs) h = absurd (omega arith)

-- a line with labels has one
pub caret_rows_some : (context : RowContext) (line : Line) (labels : List SingleLabelTuple)
    → 1 ≤ length labels
    → stream_of_rows context (caret_rows line (single_label_views labels)) ≡ stream_of context
    (CaretRow line) ++ newline
caret_rows_some context line [] h = absurd (omega arith)
caret_rows_some context line (x ∷ xs) h = append-nil (stream_of context (CaretRow line) ++ newline)

-- ---- characters before a byte index

-- all characters begin before the greatest byte index
all_below : (top limit byte_index column : ℕ) (cs : List Metrics) → top ≤ limit
    → ConsecutiveWithin top byte_index column cs → metrics_before limit cs ≡ cs
all_below top limit byte_index column [] h l = refl
all_below top limit byte_index column (x ∷ cs) h l =
    let here = l.0 in
    let before : nat_lt x.byte_index limit ≡ true =
    lt-ltb x.byte_index limit (omega (arith, here.here, here.room, here.some)) in
    rw before
    (ap (λ (ys : List Metrics). x ∷ ys)
    (all_below top limit (byte_index + x.bytes) (column + x.unicode_width) cs h l.1))

pub all_before : (tab : ℕ) (text : List ℕ) → IsUtf8 text → length text < 2 ^ 64
    → metrics_before (2 ^ 64 - 1) (char_metrics tab text) ≡ char_metrics tab text
all_before tab text u h =
    let l = scan_state-char_metrics tab text u in
    all_below (length text) (2 ^ 64 - 1) l.byte_index l.column (char_metrics tab text) (omega arith)
    l.consecutive_within
