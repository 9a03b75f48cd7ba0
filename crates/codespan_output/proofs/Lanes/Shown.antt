-- For `lanes_are_shown`: what a row shows in each lane is what its stream has there.
use Rattle.codespan_core.proofs.Std.{◌≡◌, [], ◌++◌, sym, ap, subst, ◌∙◌, append-nil}
use Rattle.codespan_core.proofs.Std.{append_assoc}
use Rattle.std.proofs.lemmas.Option.{none-some, same_Some}
use Rattle.codespan_core.specs.Labels.{LabelModel, LaneMark}
use Rattle.codespan_core.specs.Streams.{Stream, style_mark, space}
use Rattle.codespan_core.specs.declared.term.config.style_mark.StyleMark.TheVariants.{Label, Reset}
use Rattle.codespan_output.specs.{RowContext, Line, Row, HeaderRow, SnippetStartRow, EmptyRow}
use Rattle.codespan_output.specs.{BreakRow, SourceRow, CaretRow, PointerRow, HangingRow}
use Rattle.codespan_output.specs.{UnderlineRow, FirstNoteRow, LaterNoteRow, FinalRow}
use Rattle.codespan_output.specs.{trailing_label, label_message, line_metrics, line_metrics_to_end}
use Rattle.codespan_output.specs.{colored_text, carets, trailing_message, pointers, metrics_before}
use Rattle.codespan_output.specs.{underline, stream_of, LanesAreShown, gutters}
use Rattle.codespan_output.specs.Rows.{Lanes}

-- ---- rows

-- the stream begins with these gutters
record Starts (gutters whole : Stream) : Type 0 where
  after : Stream
  is : whole ≡ gutters ++ after

-- the gutters alone
alone : (gutters : Stream) → Starts gutters gutters
alone gutters = record { after = []; is = sym (append-nil gutters) }

-- more after them
more : (gutters whole : Stream) → Starts gutters whole → (rest : Stream)
    → Starts gutters (whole ++ rest)
more gutters whole starts rest = record {
  after = starts.after ++ rest;
  is = ap (λ (s : Stream). s ++ rest) starts.is ∙ append_assoc gutters starts.after rest;
}

-- a row whose stream begins with them
abbrev ShowsLanes : RowContext → Row → Lanes → Type 0
ShowsLanes context row lanes =
    (after : Stream) × (stream_of context row ≡ gutters context row lanes ++ after)

shows : (context : RowContext) (row : Row) (lanes : Lanes)
    → Starts (gutters context row lanes) (stream_of context row) → ShowsLanes context row lanes
shows context row lanes starts = (starts.after, starts.is)

empty_shows : (context : RowContext) (lanes : Lanes) → ShowsLanes context (EmptyRow lanes) lanes
empty_shows context lanes = shows context (EmptyRow lanes) lanes (alone _)

break_shows : (context : RowContext) (lanes : Lanes) → ShowsLanes context (BreakRow lanes) lanes
break_shows context lanes = shows context (BreakRow lanes) lanes (alone _)

source_shows : (context : RowContext) (line : Line)
    → ShowsLanes context (SourceRow line) line.lanes
source_shows context line =
    shows context (SourceRow line) line.lanes
    (more _ _ (more _ _ (alone (gutters context (SourceRow line) line.lanes)) space)
    (colored_text context line))

caret_shows : (context : RowContext) (line : Line) → ShowsLanes context (CaretRow line) line.lanes
caret_shows context line =
    shows context (CaretRow line) line.lanes
    (more _ _
    (more _ _ (more _ _ (alone (gutters context (CaretRow line) line.lanes)) space)
    (carets context line.labels (line_metrics_to_end context line)))
    (trailing_message context.severity (trailing_label line.labels)))

pointer_shows : (context : RowContext) (line : Line)
    → ShowsLanes context (PointerRow line) line.lanes
pointer_shows context line =
    shows context (PointerRow line) line.lanes
    (more _ _ (more _ _ (alone (gutters context (PointerRow line) line.lanes)) space)
    (pointers context line.labels (line_metrics context line)))

hanging_shows : (context : RowContext) (line : Line) (x : LabelModel)
    → ShowsLanes context (HangingRow line x) line.lanes
hanging_shows context line x =
    shows context (HangingRow line x) line.lanes
    (more _ _
    (more _ _ (more _ _ (alone (gutters context (HangingRow line x) line.lanes)) space)
    (pointers context line.labels (metrics_before x.start (line_metrics context line))))
    (label_message context.severity x.style x.message))

underline_shows : (context : RowContext) (line : Line) (m : LaneMark)
    → ShowsLanes context (UnderlineRow line m) line.lanes
underline_shows context line m =
    shows context (UnderlineRow line m) line.lanes
    (more _ _
    (more _ _
    (more _ _ (alone (gutters context (UnderlineRow line m) line.lanes))
    (style_mark (Label context.severity m.style)))
    (underline context.chars m.style (line_metrics context line) m.multi_label))
    (style_mark Reset))

-- each row that has lanes shows them
pub lanes_are_shown : (context : RowContext) → LanesAreShown context
lanes_are_shown context (HeaderRow at header_text) lanes has = absurd (none-some lanes has)
lanes_are_shown context (SnippetStartRow at) lanes has = absurd (none-some lanes has)
lanes_are_shown context (EmptyRow its) lanes has =
    subst (ShowsLanes context (EmptyRow its)) (same_Some its lanes has) (empty_shows context its)
lanes_are_shown context (BreakRow its) lanes has =
    subst (ShowsLanes context (BreakRow its)) (same_Some its lanes has) (break_shows context its)
lanes_are_shown context (SourceRow line) lanes has =
    subst (ShowsLanes context (SourceRow line)) (same_Some line.lanes lanes has)
    (source_shows context line)
lanes_are_shown context (CaretRow line) lanes has =
    subst (ShowsLanes context (CaretRow line)) (same_Some line.lanes lanes has)
    (caret_shows context line)
lanes_are_shown context (PointerRow line) lanes has =
    subst (ShowsLanes context (PointerRow line)) (same_Some line.lanes lanes has)
    (pointer_shows context line)
lanes_are_shown context (HangingRow line x) lanes has =
    subst (ShowsLanes context (HangingRow line x)) (same_Some line.lanes lanes has)
    (hanging_shows context line x)
lanes_are_shown context (UnderlineRow line m) lanes has =
    subst (ShowsLanes context (UnderlineRow line m)) (same_Some line.lanes lanes has)
    (underline_shows context line m)
lanes_are_shown context (FirstNoteRow note_line) lanes has = absurd (none-some lanes has)
lanes_are_shown context (LaterNoteRow note_line) lanes has = absurd (none-some lanes has)
lanes_are_shown context FinalRow lanes has = absurd (none-some lanes has)
