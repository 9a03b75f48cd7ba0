use Rattle.codespan_core.proofs.Std.{◌≡◌, refl, ◌∙◌}
use Rattle.codespan_core.specs.SnippetStarts.{start_text}
use Rattle.codespan_output.specs.{snippet_start_row}
use Rattle.codespan_core.proofs.Chains.{written-then, failed-then, failed-before, failed}
use Rattle.codespan_core.proofs.Chains.{writes-last}
use Rattle.codespan_output.proofs.rows.header.write_snippet_start.Goals.{After-as_bytes, in-Fixed}
use Rattle.codespan_output.proofs.rows.header.write_snippet_start.Goals.{in-Owned}
use Rattle.codespan_output.proofs.rows.header.write_snippet_start.Given.{Over}
use Rattle.codespan_output.proofs.rows.header.write_snippet_start.Goals as goal

-- the text before the locus
start : (g : Over) (c : After-as_bytes g)
    → c.as_bytes.result.now ≡ start_text c.args.chars.now.snippet_start
start g c =
    c.as_bytes.ensures.value
    ∙ elim c.match-chars.branch [
      | in-Fixed w ↦ rw (w.start-is, w.in-Fixed.is) refl
      | in-Owned w ↦ rw (w.start-is, w.in-Owned.is) w.as_str-start.ensures.value
    ]

pub returns-in_err-outer_gutter : goal.returns-in_err-outer_gutter
unfolding snippet_start_row
returns-in_err-outer_gutter g c =
    failed _ _ _ _ _ c.from_residual.ensures.1 (failed-before _ (failed-before _ (failed-before _
    (failed-before _ (failed-before _ (failed-before _ c.in_err-outer_gutter.ensures))))))

pub returns-in_err-put_mark : goal.returns-in_err-put_mark
unfolding snippet_start_row
returns-in_err-put_mark g c =
    failed _ _ _ _ _ c.from_residual-in_err-put_mark.ensures.1 (failed-before _ (failed-before _
    (failed-before _ (failed-before _ (failed-before _ (failed-then _ c.in_ok-outer_gutter.ensures
    c.in_err-put_mark.ensures))))))

pub returns-in_err-put_all : goal.returns-in_err-put_all
unfolding snippet_start_row
returns-in_err-put_all g c =
    failed _ _ _ _ _ c.from_residual-in_err-put_all.ensures.1 (failed-before _ (failed-before _
    (failed-before _ (failed-before _ (failed-then _ (written-then _ _ _
    c.in_ok-outer_gutter.ensures c.in_ok-put_mark.ensures) (rw (start g
    (goal.at.returns-in_err-put_all g c).After-as_bytes) at c.in_err-put_all.ensures))))))

pub returns-in_err-put_mark-2 : goal.returns-in_err-put_mark-2
unfolding snippet_start_row
returns-in_err-put_mark-2 g c =
    failed _ _ _ _ _ c.from_residual-in_err-put_mark-2.ensures.1 (failed-before _ (failed-before _
    (failed-before _ (failed-then _ (written-then _ _ _ (written-then _ _ _
    c.in_ok-outer_gutter.ensures c.in_ok-put_mark.ensures) (rw (start g
    (goal.at.returns-in_err-put_mark-2 g c).After-as_bytes) at c.in_ok-put_all.ensures))
    c.in_err-put_mark-2.ensures))))

pub returns-in_err-put_all-2 : goal.returns-in_err-put_all-2
unfolding snippet_start_row
returns-in_err-put_all-2 g c =
    failed _ _ _ _ _ c.from_residual-in_err-put_all-2.ensures.1 (failed-before _ (failed-before _
    (failed-then _ (written-then _ _ _ (written-then _ _ _ (written-then _ _ _
    c.in_ok-outer_gutter.ensures c.in_ok-put_mark.ensures) (rw (start g
    (goal.at.returns-in_err-put_all-2 g c).After-as_bytes) at c.in_ok-put_all.ensures))
    c.in_ok-put_mark-2.ensures) c.in_err-put_all-2.ensures)))

pub returns-in_err-snippet_locus : goal.returns-in_err-snippet_locus
unfolding snippet_start_row
returns-in_err-snippet_locus g c =
    failed _ _ _ _ _ c.from_residual-in_err-snippet_locus.ensures.1 (failed-before _ (failed-then _
    (written-then _ _ _ (written-then _ _ _ (written-then _ _ _
    (written-then _ _ _ c.in_ok-outer_gutter.ensures c.in_ok-put_mark.ensures) (rw (start g
    (goal.at.returns-in_err-snippet_locus g c).After-as_bytes) at c.in_ok-put_all.ensures))
    c.in_ok-put_mark-2.ensures) c.in_ok-put_all-2.ensures) c.in_err-snippet_locus.ensures))

pub returns : goal.returns
unfolding snippet_start_row
returns g c =
    writes-last _ _ _ _ _ (written-then _ _ _ (written-then _ _ _ (written-then _ _ _
    (written-then _ _ _ (written-then _ _ _ c.in_ok-outer_gutter.ensures c.in_ok-put_mark.ensures)
    (rw (start g (goal.at.returns g c).After-as_bytes) at c.in_ok-put_all.ensures))
    c.in_ok-put_mark-2.ensures) c.in_ok-put_all-2.ensures) c.in_ok-snippet_locus.ensures)
    c.put_all-3.ensures
