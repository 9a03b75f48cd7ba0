use Rattle.codespan_core.proofs.Std.{arith, string_bytes}
use Rattle.codespan_core.proofs.TextLemmas.{viewed_more}
use Rattle.codespan_core.proofs.diagnostic.clones.clone_notes.Goals as goal

-- one note more is copied
pub loop-note-preserved : goal.loop-note-preserved
loop-note-preserved c =
    viewed_more string_bytes c.args.notes.now.items c.deref-note-items.result.now _ _
    c.loop-note.note-index c.note-item.result _ c.deref-note-items.ensures.value
    (omega (arith, c.loop-note-test.true)) c.note-item.is c.loop-note.invariant
    c.in_ok-push.ensures.items c.in_ok-clone.ensures.cases
