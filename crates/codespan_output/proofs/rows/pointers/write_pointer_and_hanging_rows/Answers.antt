use Rattle.codespan_core.proofs.Std.{◌≡◌, ◌++◌, refl, sym, ◌∙◌, inl, inr}
use Rattle.codespan_core.specs.Streams.{newline}
use Rattle.codespan_output.specs.Private.{context_view, line_view, hanging_rows_stream}
use Rattle.codespan_output.specs.{PointerRow, stream_of}
use Rattle.codespan_output.specs.Private.{pointer_and_hanging_rows_stream}
use Rattle.codespan_core.proofs.Chains.{written-then, failed-then, failed-before, failed}
use Rattle.codespan_core.proofs.Chains.{writes-last}
use Rattle.codespan_core.proofs.Loops.{StillToWrite-start, StillToWrite-end}
use Rattle.codespan_output.proofs.Messages.Hanging.{nothing_hangs, all_hanging}
use Rattle.codespan_output.proofs.Messages.Pieces.{before-near, after-near}
use Rattle.codespan_output.proofs.rows.pointers.write_pointer_and_hanging_rows.Given.{Over}
use Rattle.codespan_output.proofs.rows.pointers.write_pointer_and_hanging_rows.Goals.{After-write_pointer_row}
use Rattle.codespan_output.proofs.rows.pointers.write_pointer_and_hanging_rows.Goals.{else-not-has_any_message-via-else-not-has_any_message}
use Rattle.codespan_output.proofs.rows.pointers.write_pointer_and_hanging_rows.Goals.{else-not-has_any_message-via-then-not-has_any_message+else-not-has_any_message-2}
use Rattle.codespan_output.proofs.rows.pointers.write_pointer_and_hanging_rows.Goals as goal

-- where a message hangs, the rows are the pointer row and those of the messages
hanging : (g : Over) (c : After-write_pointer_row g)
    → let rows = c.args.rows.now in
    pointer_and_hanging_rows_stream rows.context rows.line
    ≡ stream_of (context_view rows.context) (PointerRow (line_view rows.line)) ++ newline
    ++ hanging_rows_stream rows.context rows.line rows.messages.after.now
    ++ hanging_rows_stream rows.context rows.line rows.messages.before.now
hanging g c =
    let h = rw c.args.rows.now.labels at c.args.rows.now.messages.hanging_labels in
    elim c.else-not-has_any_message.branch [
      | else-not-has_any_message-via-then-not-has_any_message+else-not-has_any_message-2 w ↦
          all_hanging _ _ _ _ _ h
          (inr (sym w.has_any_message-then-not-has_any_message.ensures
          ∙ w.if-not-has_any_message-2.false))
      | else-not-has_any_message-via-else-not-has_any_message w ↦
          all_hanging _ _ _ _ _ h (inl (sym c.has_any_message.ensures ∙
          w.if-not-has_any_message.false))
    ]

pub returns-then-not-has_any_message-2 : goal.returns-then-not-has_any_message-2
returns-then-not-has_any_message-2 g c =
    let early = sym c.has_any_message.ensures ∙ c.if-not-has_any_message.true in
    let late =
    sym c.has_any_message-then-not-has_any_message.ensures ∙ c.if-not-has_any_message-2.true in
    let none =
    nothing_hangs (context_view c.args.rows.now.context) (line_view c.args.rows.now.line) _ _ _
    c.args.rows.now.messages.hanging_labels early late in
    StillToWrite-end _ _ _ _ (StillToWrite-start _ _ _ refl) (rw c.args.rows.now.labels at none)

pub write_hanging_rows-requires : goal.write_hanging_rows-requires
write_hanging_rows-requires g c = record {
  within_max_start = rw c.args.rows.now.labels at
      (after-near _ _ _ c.args.rows.now.messages.slices);
}

pub write_hanging_rows-requires-2 : goal.write_hanging_rows-requires-2
write_hanging_rows-requires-2 g c = record {
  within_max_start = rw c.args.rows.now.labels at
      (before-near _ _ _ c.args.rows.now.messages.slices);
}

pub returns-in_err-write_pointer_row : goal.returns-in_err-write_pointer_row
returns-in_err-write_pointer_row g c =
    rw (hanging g (goal.at.returns-in_err-write_pointer_row g c).After-write_pointer_row)
    (failed _ _ _ _ _ c.from_residual.ensures.1
    (failed-before _ (failed-before _ c.in_err-write_pointer_row.ensures)))

pub returns-in_err-write_hanging_rows : goal.returns-in_err-write_hanging_rows
returns-in_err-write_hanging_rows g c =
    rw (hanging g (goal.at.returns-in_err-write_hanging_rows g c).After-write_pointer_row)
    (failed _ _ _ _ _ c.from_residual-in_err-write_hanging_rows.ensures.1
    (failed-before _
    (failed-then _ c.in_ok-write_pointer_row.ensures c.in_err-write_hanging_rows.ensures)))

pub returns : goal.returns
returns g c =
    rw (hanging g (goal.at.returns g c).After-write_pointer_row)
    (writes-last _ _ _ _ _
    (written-then _ _ _ c.in_ok-write_pointer_row.ensures c.in_ok-write_hanging_rows.ensures)
    c.write_hanging_rows-2.ensures)
