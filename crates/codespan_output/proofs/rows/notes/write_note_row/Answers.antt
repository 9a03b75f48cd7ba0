use Rattle.codespan_output.specs.Private.{note_bullet}
use Rattle.codespan_core.proofs.Chains.{WroteStream, written-then, failed-then, failed-before}
use Rattle.codespan_core.proofs.Chains.{failed, writes-last}
use Rattle.codespan_output.proofs.rows.notes.write_note_row.Given.{Over}
use Rattle.codespan_output.proofs.rows.notes.write_note_row.Goals.{After-put_all-2}
use Rattle.codespan_output.proofs.rows.notes.write_note_row.Goals.{in-Some+in_ok-write_glyph-in-Some}
use Rattle.codespan_output.proofs.rows.notes.write_note_row.Goals.{in-None+in_ok-put_all-in-None}
use Rattle.codespan_output.proofs.rows.notes.write_note_row.Goals as goal

-- the bullet was written, or a space
bullet : (g : Over) (c : After-put_all-2 g)
    → WroteStream (g.W.PutStyle.sink c.outer_gutter.new.w) (note_bullet c.args.bullet)
    (g.W.PutStyle.sink c.match-bullet.w)
unfolding note_bullet
bullet g c = elim c.match-bullet.branch [
  | in-Some+in_ok-write_glyph-in-Some w ↦
      rw (w.w-is, w.in-Some.is) w.in_ok-write_glyph-in-Some.ensures
  | in-None+in_ok-put_all-in-None w ↦
      rw (w.w-is, w.in-None.is) w.in_ok-put_all-in-None.ensures
]

pub returns-in_err-outer_gutter : goal.returns-in_err-outer_gutter
returns-in_err-outer_gutter g c =
    failed _ _ _ _ _ c.from_residual.ensures.1
    (failed-before _
    (failed-before _ (failed-before _ (failed-before _ c.in_err-outer_gutter.ensures))))

pub returns-in_err-write_glyph-in-Some : goal.returns-in_err-write_glyph-in-Some
unfolding note_bullet
returns-in_err-write_glyph-in-Some g c =
    rw c.in-Some.is
    (failed _ _ _ _ _ c.from_residual-in_err-write_glyph-in-Some.ensures.1
    (failed-before _
    (failed-before _
    (failed-before _
    (failed-then _ c.in_ok-outer_gutter.ensures c.in_err-write_glyph-in-Some.ensures)))))

pub returns-in_err-put_all-in-None : goal.returns-in_err-put_all-in-None
unfolding note_bullet
returns-in_err-put_all-in-None g c =
    rw c.in-None.is
    (failed _ _ _ _ _ c.from_residual-in_err-put_all-in-None.ensures.1
    (failed-before _
    (failed-before _
    (failed-before _
    (failed-then _ c.in_ok-outer_gutter.ensures c.in_err-put_all-in-None.ensures)))))

pub returns-in_err-put_all : goal.returns-in_err-put_all
returns-in_err-put_all g c =
    let shown = bullet g (goal.at.returns-in_err-put_all g c).After-put_all-2 in
    failed _ _ _ _ _ c.from_residual-in_err-put_all.ensures.1
    (failed-before _
    (failed-before _
    (failed-then _ (written-then _ _ _ c.in_ok-outer_gutter.ensures shown)
    c.in_err-put_all.ensures)))

pub returns-in_err-put_all-2 : goal.returns-in_err-put_all-2
returns-in_err-put_all-2 g c =
    let shown = bullet g (goal.at.returns-in_err-put_all-2 g c).After-put_all-2 in
    failed _ _ _ _ _ c.from_residual-in_err-put_all-2.ensures.1
    (failed-before _
    (failed-then _
    (written-then _ _ _ (written-then _ _ _ c.in_ok-outer_gutter.ensures shown)
    c.in_ok-put_all.ensures)
    (rw c.as_bytes.ensures.value at c.in_err-put_all-2.ensures)))

pub returns : goal.returns
returns g c =
    let shown = bullet g (goal.at.returns g c).After-put_all-2 in
    writes-last _ _ _ _ _
    (written-then _ _ _
    (written-then _ _ _ (written-then _ _ _ c.in_ok-outer_gutter.ensures shown)
    c.in_ok-put_all.ensures)
    (rw c.as_bytes.ensures.value at c.in_ok-put_all-2.ensures))
    c.put_all-4.ensures
