use Rattle.std.specs.Str.Lines.{lines}
use Rattle.codespan_output.specs.{note_stream}
use Rattle.codespan_output.proofs.Lanes.UnderlineRows.{NotesToWrite}
use Rattle.codespan_output.proofs.rows.notes.write_note.Given as goal

abbrev pub invariant-loop-note_line : goal.invariant-loop-note_line
invariant-loop-note_line g l =
    NotesToWrite (g.W.PutStyle.sink l.fn.w) (note_stream l.chars l.padding (lines l.message))
    l.padding l.note_line-iterator (g.W.PutStyle.sink l.w)
