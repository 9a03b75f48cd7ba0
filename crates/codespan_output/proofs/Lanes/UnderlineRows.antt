-- For `write_underlines` and `write_note`: the underlines of multi-line labels, and the rows of a
-- note.
use Rattle.codespan_core.proofs.Std.{◌≡◌, ℕ, ◌+◌, ◌<◌, Bool, true, false, List, []}
use Rattle.codespan_core.proofs.Std.{◌∷◌, ◌++◌, append_assoc, length, drop, None, Some}
use Rattle.codespan_core.proofs.Std.{refl, sym, ap, arith, get_or, add-one, drop-cons, filter, map}
use Rattle.codespan_core.proofs.Std.{if◌then◌else◌}
use Rattle.std.specs.Borrow.{Bor}
use Rattle.std.specs.declared.str.Lines.{Lines as TextLines}
use Rattle.std.specs.Str.Iter.{lines_steps}
use Rattle.std.proofs.lemmas.Iterator.{YieldsList}
use Rattle.codespan_core.specs.Labels.{LaneMark, MultiLabel, Top, Left, Bottom}
use Rattle.codespan_core.specs.Streams.{Stream, byte_stream, newline, space}
use Rattle.codespan_core.specs.WriterLaw.{Sink}
use Rattle.codespan_output.specs.Types.{LabelStyle, Chars, Metrics}
use Rattle.codespan_output.specs.declared.rows.lanes.LaneRowKind.TheVariants.{Underline}
use Rattle.codespan_output.specs.{leading_whitespace, LaneMarkTuple, lane_mark_view}
use Rattle.codespan_output.specs.{multi_label_view, RowContext, Line, UnderlineRow, has_underline}
use Rattle.codespan_output.specs.{inner_gutter, underline, underline_message, first_note_row}
use Rattle.codespan_output.specs.{later_note_row, stream_of, stream_of_rows, later_note_rows_stream}
use Rattle.codespan_output.specs.Private.{row_lanes_stream, underline_by_width, underline_width}
use Rattle.codespan_output.specs.Private.{note_bullet, note_row_stream}
use Rattle.codespan_output.specs.Rows.{Lanes}
use Rattle.codespan_core.proofs.Loops.{StillToWrite}
use Rattle.codespan_output.specs.declared.arguments.MultiLabel as rust_multi_label
use Rattle.codespan_output.specs.Lanes as kind

-- ---- the lanes of an underline row

-- the lanes of the row of a lane mark are those of that kind of row
pub underline_lanes_are : (context : RowContext) (leading : ℕ) (lane : ℕ) (style : LabelStyle)
    (multi_label : rust_multi_label.MultiLabel) (lanes : Lanes)
    → row_lanes_stream context leading (Underline lane style multi_label) lanes ≡ inner_gutter
    context
    leading (kind.Underline (lane_mark_view (lane, style, multi_label))) lanes
unfolding row_lanes_stream inner_gutter
underline_lanes_are context leading lane style multi_label lanes = refl

-- ---- the message of an underline

-- no message
pub underline_message-none : (bs : List ℕ) → length bs ≡ 0
    → underline_message (byte_stream bs) ≡ []
unfolding underline_message byte_stream
underline_message-none [] e = refl
underline_message-none (b ∷ bs) e = absurd (omega arith)

-- a space and the message
pub underline_message-some : (bs : List ℕ) → 0 < length bs
    → underline_message (byte_stream bs) ≡ space ++ byte_stream bs
unfolding underline_message byte_stream
underline_message-some [] e = absurd (omega arith)
underline_message-some (b ∷ bs) e = refl

pub ruleset underline_messages = (underline_message-none, underline_message-some)

-- ---- the line of an underline

-- a label with an underline row has its width
pub width-some : {A : Type 0} (b : Bool) (x w : A) → (if b then Some x else None) ≡ Some w
    → (b ≡ true) × (w ≡ x)
width-some true x w e = (refl, cc)
width-some false x w e = absurd cc

-- a label without one has none
pub width-none : {A : Type 0} (b : Bool) (x : A) → (if b then Some x else None) ≡ None
    → b ≡ false
width-none true x e = absurd cc
width-none false x e = refl

-- an underline is that of the width of its line
pub underline-runs : (chars : Chars) (style : LabelStyle) (width : ℕ) (cs : List Metrics)
    (multi_label : MultiLabel)
    → width ≡ underline_width cs multi_label
    → underline chars style cs multi_label ≡ underline_by_width chars style width multi_label
unfolding underline underline_by_width
underline-runs chars style width cs (Top start) e = rw e refl
underline-runs chars style width cs Left e = refl
underline-runs chars style width cs (Bottom end message) e = rw e refl

-- ---- the underlines of a line

-- the rows of the remaining lane marks
abbrev pub underlines_of : RowContext → Line → List LaneMarkTuple → Stream
underlines_of context line lane_marks =
    stream_of_rows context
    (map (UnderlineRow line)
    (filter (λ (m : LaneMark). has_underline (leading_whitespace line.text) m.multi_label)
    (map lane_mark_view lane_marks)))

-- the lane mark at an index has a row
pub underlines-in : (context : RowContext) (line : Line) (leading : ℕ)
    (lane_marks : List LaneMarkTuple) (i : ℕ) (d : LaneMarkTuple)
    → i < length lane_marks
    → leading ≡ leading_whitespace line.text
    → has_underline leading (multi_label_view (get_or lane_marks i d).2) ≡ true
    → underlines_of context line (drop i lane_marks) ≡ stream_of context
    (UnderlineRow line (lane_mark_view (get_or lane_marks i d))) ++ newline
    ++ underlines_of context line (drop (i + 1) lane_marks)
underlines-in context line leading lane_marks i d h e t =
    let k : has_underline (leading_whitespace line.text)
    (multi_label_view (get_or lane_marks i d).2)
    ≡ true =
    rw e at t in
    rw (drop-cons lane_marks i d h, k, add-one) refl

-- the lane mark at an index has no row
pub underlines-out : (context : RowContext) (line : Line) (leading : ℕ)
    (lane_marks : List LaneMarkTuple) (i : ℕ) (d : LaneMarkTuple)
    → i < length lane_marks
    → leading ≡ leading_whitespace line.text
    → has_underline leading (multi_label_view (get_or lane_marks i d).2) ≡ false
    → underlines_of context line (drop i lane_marks) ≡ underlines_of context line
    (drop (i + 1) lane_marks)
underlines-out context line leading lane_marks i d h e t =
    let k : has_underline (leading_whitespace line.text)
    (multi_label_view (get_or lane_marks i d).2)
    ≡ false =
    rw e at t in
    rw (drop-cons lane_marks i d h, k, add-one) refl

-- ---- the rows of a note

-- a row with the bullet is the first one
pub first-note : (chars : Chars) (padding : ℕ) (note_line : List ℕ)
    → note_row_stream padding (Some chars.note_bullet) note_line
    ≡ first_note_row chars padding note_line ++ newline
unfolding first_note_row note_bullet
first-note chars padding note_line = simp append_assoc

-- one without it is a later one
pub later-note : (padding : ℕ) (note_line : List ℕ)
    → note_row_stream padding None note_line ≡ later_note_row padding note_line ++ newline
unfolding later_note_row note_bullet
later-note padding note_line = refl

-- these lines of a text remain
abbrev pub HasLines : TextLines → List (List ℕ) → Type 0
HasLines s note_lines = YieldsList lines_steps (λ (x : Bor (List ℕ)). x.now) s note_lines

-- the rows of the remaining lines are still to be written
pub record NotesToWrite (s : Sink) (whole : Stream) (padding : ℕ) (left : TextLines)
    (t : Sink) : Type 0 where
  pub note_lines : List (List ℕ)
  pub yields : HasLines left note_lines
  pub written_so_far : StillToWrite s whole (later_note_rows_stream padding note_lines) t

-- one line is the next
pub record Next (x : List ℕ) (t : TextLines) (note_lines : List (List ℕ)) : Type 0 where
  pub after : List (List ℕ)
  pub is : note_lines ≡ x ∷ after
  pub yields : HasLines t after

pub lines-next : (s : TextLines) (x : Bor (List ℕ)) (t : TextLines) (note_lines : List (List ℕ))
    → HasLines s note_lines → lines_steps s (Some x) t → Next x.now t note_lines
lines-next s x t [] p k = absurd (p.runs x t k)
lines-next s x t (y ∷ ys) p k = let n = p.runs.1 x t k in
    record { after = ys; is = ap (λ v. v ∷ ys) (sym n.0); yields = record { runs = n.1 } }

-- no line remains
pub lines-none : (s t : TextLines) (note_lines : List (List ℕ)) → HasLines s note_lines
    → lines_steps s None t → note_lines ≡ []
lines-none s t [] p k = refl
lines-none s t (y ∷ ys) p k = absurd (p.runs.0 t k)
