-- For `messages_appear_once`: the slots in each row.
use Rattle.codespan_core.proofs.Std.{◌≡◌, ℕ, List, [], ◌∷◌}
use Rattle.codespan_core.proofs.Std.{◌++◌, Option, Some, None, ◌∙◌, arith, sum_by}
use Rattle.codespan_core.proofs.Std.{sum_by-cons}
use Rattle.codespan_core.specs.Streams.{newline}
use Rattle.codespan_core.specs.Labels.{MultiLabel, Top, Left, Bottom}
use Rattle.codespan_output.specs.Types.{LabelStyle, Chars, Metrics}
use Rattle.codespan_output.specs.{Locus, RowContext, Line, Row, HeaderRow, SnippetStartRow}
use Rattle.codespan_output.specs.{EmptyRow, BreakRow, SourceRow, CaretRow, PointerRow, HangingRow}
use Rattle.codespan_output.specs.{UnderlineRow, FirstNoteRow, LaterNoteRow, FinalRow}
use Rattle.codespan_output.specs.{trailing_label, underline, bracketed, header_locus, header_row}
use Rattle.codespan_output.specs.{snippet_start_row, first_note_row, later_note_row, stream_of}
use Rattle.codespan_output.specs.{stream_of_rows}
use Rattle.codespan_output.proofs.Messages.TrailOrHang.{weight_of}
use Rattle.codespan_output.specs.Private.{row_start}
use Rattle.codespan_output.proofs.Slots.Parts.{slots, slots-append, slots-nil, slots-byte_stream}
use Rattle.codespan_output.proofs.Slots.Parts.{slots_of_parts, parts, slots-label_message}
use Rattle.codespan_output.proofs.Slots.Parts.{slots-trailing_message, slots-underline_message}

-- the slots of a multi-line label mark, by its message
abbrev pub multi_label_slots : ℕ → MultiLabel → ℕ
multi_label_slots k (Top start) = 0
multi_label_slots k Left = 0
multi_label_slots k (Bottom end message) = slots k message

pub slots-underline : (k : ℕ) (chars : Chars) (style : LabelStyle) (cs : List Metrics)
    (multi_label : MultiLabel)
    → slots k (underline chars style cs multi_label) ≡ multi_label_slots k multi_label
unfolding underline
slots-underline k chars style cs (Top start) = simp slots_of_parts
slots-underline k chars style cs Left = slots-nil k
slots-underline k chars style cs (Bottom end message) = simp
    (slots_of_parts, slots-underline_message) (omega arith)

pub slots-bracketed : (k : ℕ) (code : Option (List ℕ)) → slots k (bracketed code) ≡ 0
unfolding bracketed
slots-bracketed k None = slots-nil k
slots-bracketed k (Some []) = slots-nil k
slots-bracketed k (Some (c ∷ cs)) = simp slots_of_parts

pub slots-header_locus : (k : ℕ) (at : Option Locus) → slots k (header_locus at) ≡ 0
unfolding header_locus
slots-header_locus k None = slots-nil k
slots-header_locus k (Some p) = simp parts

pub slots-row_start : (k : ℕ) (context : RowContext) (line : Line)
    → slots k (row_start context line) ≡ 0
slots-row_start k context line = simp parts

-- how many slots of a label a row has
abbrev pub row_slots : ℕ → Row → ℕ
row_slots k (CaretRow line) = weight_of (λ x. slots k x.message) (trailing_label line.labels)
row_slots k (HangingRow line x) = slots k x.message
row_slots k (UnderlineRow line m) = multi_label_slots k m.multi_label
row_slots k _ = 0

pub slots-stream_of : (k : ℕ) (context : RowContext) (row : Row)
    → slots k (stream_of context row) ≡ row_slots k row
unfolding header_row snippet_start_row first_note_row later_note_row
slots-stream_of k context (HeaderRow at header_text) = simp
    (parts, slots-bracketed, slots-header_locus)
slots-stream_of k context (SnippetStartRow at) = simp parts
slots-stream_of k context (EmptyRow lanes) = simp parts
slots-stream_of k context (BreakRow lanes) = simp parts
slots-stream_of k context (SourceRow line) = simp parts
slots-stream_of k context (CaretRow line) = simp (parts, slots-row_start, slots-trailing_message)
    (omega arith)
slots-stream_of k context (PointerRow line) = simp (parts, slots-row_start)
slots-stream_of k context (HangingRow line x) = simp (parts, slots-row_start, slots-label_message)
    (omega arith)
slots-stream_of k context (UnderlineRow line m) = simp (parts, slots-underline) (omega arith)
slots-stream_of k context (FirstNoteRow note_line) = simp parts
slots-stream_of k context (LaterNoteRow note_line) = simp parts
slots-stream_of k context FinalRow = slots-nil k

pub slots-rows : (k : ℕ) (context : RowContext) (rows : List Row)
    → slots k (stream_of_rows context rows) ≡ sum_by (row_slots k) rows
slots-rows k context [] = slots-nil k
slots-rows k context (row ∷ rows) =
    slots-append k (stream_of context row ++ newline) (stream_of_rows context rows)
    ∙ omega (
      arith,
      slots-append k (stream_of context row) newline,
      slots-byte_stream k (10 ∷ []),
      slots-stream_of k context row,
      slots-rows k context rows,
      sum_by-cons (row_slots k) row rows,
    )
