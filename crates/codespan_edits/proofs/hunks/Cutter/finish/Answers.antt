use Rattle.codespan_core.proofs.Std.{◌∙◌, ◌-◌, ap, sym, subst}
use Rattle.codespan_core.proofs.Std.{refl, arith, drop, length, length-map}
use Rattle.codespan_core.proofs.Std.{drop-map, take-map, take, ◌≡◌, length-take-le, take_rest}
use Rattle.codespan_edits.specs.Diffs.{rows_with}
use Rattle.codespan_edits.specs.RowViews.{context_view}
use Rattle.codespan_edits.specs.Private.Hunks.{Cut}
use Rattle.codespan_edits.specs.declared.rows.RowSign.TheVariants.{Kept}
use Rattle.codespan_edits.proofs.HunkSteps.{ended, takes-as}
use Rattle.codespan_edits.proofs.LineBlocks.{shown}
use Rattle.codespan_edits.proofs.hunks.Cutter.finish.Goals as goal

-- the last rows are drawn
pub returns-clause-hunks : goal.returns-clause-hunks
returns-clause-hunks c = λ full cut.
    let context = context_view c.args.context in
    let gap = take (length c.args.lines.now - c.args.self.line) (drop c.args.self.line
    c.args.lines.now) in
    let h = c.count_after-head.result in
    let size : length (shown gap) ≡ length gap = rw length-map refl in
    c.in_ok-push_hunk.ensures.hunks
    ∙ ended context full c.args.self c.push_rows.new.self (shown gap) h
    (subst (λ xs. Cut context full c.args.self (rows_with Kept xs))
    (drop-map (λ x. x.now) c.args.self.line c.args.lines.now
    ∙ ap shown (sym (take_rest c.args.lines.now c.args.self.line))) cut)
    (omega (arith, size, c.count_after-head.ensures.few))
    (λ is. let e = c.count_after-head.ensures.started is in omega (arith, size, e))
    c.count_after-head.ensures.start
    (takes-as c.args.self c.push_rows.new.self Kept (shown (take h gap)) (take h (shown gap))
    (length (take h gap)) h (take-map (λ x. x.now) h gap)
    (sym (length-take-le h gap c.count_after-head.ensures.few)) c.in_ok-push_rows.ensures.rows)
