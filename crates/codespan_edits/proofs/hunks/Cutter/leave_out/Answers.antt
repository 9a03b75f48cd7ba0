use Rattle.codespan_core.proofs.Std.{ap, ◌∙◌, ◌++◌, map, arith}
use Rattle.codespan_edits.specs.DrawnRows.{last_run}
use Rattle.codespan_edits.specs.RowViews.{numbered_row, numbered_view, hunks_view}
use Rattle.codespan_edits.proofs.RunLemmas.{left-step}
use Rattle.codespan_edits.proofs.hunks.Cutter.leave_out.Goals as goal

-- the run ends
pub returns-clause-rows : goal.returns-clause-rows
returns-clause-rows c = λ picks k ls rs len out.
    left-step picks (hunks_view c.args.self.now.hunks) (hunks_view c.push_hunk.new.hunks)
    (numbered_view c.args.self.now.run) (numbered_view c.replace-run.new.dest) k c.args.lines
    c.args.self.now.line c.args.self.now.new_line c.in_ok-self.field-0 c.in_ok-self-2.field-0 ls rs
    len out (omega (arith, c.if-lines-eq0.false)) c.in_ok-self.ensures.sum
    c.in_ok-self-2.ensures.sum
    (c.in_ok-push_hunk.ensures.hunks
    ∙ ap (λ v. hunks_view c.args.self.now.hunks ++ last_run (numbered_view v))
    c.replace-run.ensures.value)
    (ap numbered_view c.replace-run.ensures.after ∙ ap (map numbered_row) c.new.ensures.items)
