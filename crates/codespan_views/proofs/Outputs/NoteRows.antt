-- The rows of notes, one note after another, for the clauses of `render_notes` and
-- `render_closing`.
use Rattle.codespan_core.proofs.Std.{◌≡◌, ℕ, ◌+◌, List, [], ◌∷◌, ◌++◌, take}
use Rattle.codespan_core.proofs.Std.{drop, map, refl, flat_map-append, append-nil, map-append}
use Rattle.codespan_core.proofs.Std.{take-append-drop, arith, common_steps}
use Rattle.std.specs.Str.Lines.{lines}
use Rattle.codespan_core.specs.Streams.{Stream, newline}
use Rattle.codespan_output.specs.Rows.{RowContext, FinalRow, LaterNoteRow}
use Rattle.codespan_output.specs.RowStreams.{stream_of_rows}
use Rattle.codespan_output.specs.RenderedRows.{later_note_rows_stream, note_stream}
use Rattle.codespan_output.specs.Snippets.{note_rows, note_line_rows}
use Rattle.codespan_views.proofs.Annotations.IndexedElements.{IsElementAt, take-at}

module _ (context : RowContext) where
  -- the later rows of a note
  later-rows : (ps : List (List ℕ))
      → stream_of_rows context (map LaterNoteRow ps) ≡ later_note_rows_stream context.padding ps
  later-rows [] = refl
  later-rows (p ∷ ps) = grind (arith, common_steps, later-rows ps)

  -- the rows of a note are its stream
  note-rows : (ps : List (List ℕ))
      → stream_of_rows context (note_line_rows ps)
      ≡ note_stream context.chars context.padding ps
  note-rows [] = refl
  note-rows (p ∷ ps) = grind (arith, common_steps, later-rows)

module _ {N : Type 0} (text : N → List ℕ) (context : RowContext) where
  -- the stream of the rows of notes
  abbrev pub stream_of_notes : List N → Stream
  stream_of_notes notes = stream_of_rows context (note_rows (map text notes))

  -- the rows of some notes and of others after them
  notes-both : (ms ns : List N)
      → stream_of_notes (ms ++ ns) ≡ stream_of_notes ms ++ stream_of_notes ns
  notes-both ms ns = rw (map-append, flat_map-append, flat_map-append)

  -- one more note
  pub notes-next : {notes : List N} {i : ℕ} {note : N} → IsElementAt notes i note
      → stream_of_notes (take (i + 1) notes) ≡ stream_of_notes (take i notes)
      ++ note_stream context.chars context.padding (lines (text note))
  notes-next at = rw (take-at at, notes-both, append-nil, note-rows context)

  -- the notes before an index, and those from there on
  pub notes-cut : (notes : List N) (i : ℕ)
      → stream_of_notes notes ≡ stream_of_notes (take i notes) ++ stream_of_notes (drop i notes)
  notes-cut notes i = rw (← notes-both, take-append-drop)

  -- the rows of the notes, and the empty line
  pub notes-empty : (notes : List N)
      → stream_of_rows context (note_rows (map text notes) ++ FinalRow ∷ [])
      ≡ stream_of_notes notes ++ newline
  notes-empty notes = rw (flat_map-append, append-nil newline)
