use Rattle.codespan_core.proofs.Std.{◌≡◌, ◌-◌, ap, ◌∙◌, err_from_is_err_and}
use Rattle.codespan_core.specs.Streams.{spaces}
use Rattle.codespan_output.specs.{label_glyph}
use Rattle.codespan_output.specs.Private.{pointers_of, context_view, pointers_before, spaced}
use Rattle.codespan_core.proofs.Chains.{failed-before, failed-then, written-then}
use Rattle.codespan_core.proofs.Loops.{StillToWrite-start, StillToWrite-more, StillToWrite-failed}
use Rattle.codespan_core.proofs.Loops.{StillToWrite-last}
use Rattle.codespan_output.proofs.Pointers.Spaced.{spaced-next, spaced-stop, spaced-end}
use Rattle.codespan_output.proofs.rows.pointers.write_caret_pointers.Goals.{in-Some+then-pointer-byte_index}
use Rattle.codespan_output.proofs.rows.pointers.write_caret_pointers.Goals.{in_default}
use Rattle.codespan_output.proofs.rows.pointers.write_caret_pointers.Goals as goal

pub loop-pointer-init : goal.loop-pointer-init
loop-pointer-init g c =
    StillToWrite-start _ _ _
    (ap
    (λ ps. spaced (context_view c.args.rows.now.context) c.args.edge 0
    (pointers_before c.args.byte_index ps))
    (c.pointers-pointers.ensures ∙ ap pointers_of c.args.rows.now.input))

pub returns-in_err-write_spaces : goal.returns-in_err-write_spaces
returns-in_err-write_spaces g c =
    let p = err_from_is_err_and c.from_residual.result c.from_residual.ensures.1 in
    rw p.1
    (StillToWrite-failed _ _ _ _ _ _ _ c.loop-pointer.invariant
    (failed-before _ (rw c.saturating_sub.ensures at c.in_err-write_spaces.ensures))
    (spaced-next (context_view c.args.rows.now.context) _ _ _ _ _ c.in-Some.pointer
    c.in-Some.ensures c.if-pointer-byte_index.false))

pub returns-in_err-write_glyph : goal.returns-in_err-write_glyph
unfolding label_glyph
returns-in_err-write_glyph g c =
    let p = err_from_is_err_and c.from_residual-in_err-write_glyph.result
    c.from_residual-in_err-write_glyph.ensures.1 in
    rw p.1
    (StillToWrite-failed _ _ _ _ _ _ _ c.loop-pointer.invariant
    (failed-then _ (rw c.saturating_sub.ensures at c.in_ok-write_spaces.ensures)
    c.in_err-write_glyph.ensures)
    (spaced-next (context_view c.args.rows.now.context) _ _ _ _ _ c.in-Some.pointer
    c.in-Some.ensures c.if-pointer-byte_index.false))

pub loop-pointer-preserved : goal.loop-pointer-preserved
unfolding label_glyph
loop-pointer-preserved g c =
    StillToWrite-more _ _ _ _ _ _ _ c.loop-pointer.invariant
    (written-then _ _ _ (rw c.saturating_sub.ensures at c.in_ok-write_spaces.ensures)
    c.in_ok-write_glyph.ensures)
    (spaced-next (context_view c.args.rows.now.context) _ _ _ _ _ c.in-Some.pointer
    c.in-Some.ensures c.if-pointer-byte_index.false)

pub returns : goal.returns
returns g c =
    let at = c.loop-pointer in
    let context = context_view c.args.rows.now.context in
    let end : spaced context c.args.edge at.column
    (pointers_before c.args.byte_index (g.S.Pointers.PointerCursor.remaining at.pointers))
    ≡ spaces (c.args.edge - at.column) =
    elim c.match-next_pointer.branch [
      | in_default w ↦ spaced-end context _ _ _ _ w.in_default.ensures.0
      | in-Some+then-pointer-byte_index w ↦ spaced-stop context _ _ _ _ _ w.in-Some.pointer
          w.in-Some.ensures w.if-pointer-byte_index.true
    ] in
    StillToWrite-last _ _ _ _ _ _ at.invariant
    (rw (end, ← c.saturating_sub-2.ensures) c.write_spaces-2.ensures)
