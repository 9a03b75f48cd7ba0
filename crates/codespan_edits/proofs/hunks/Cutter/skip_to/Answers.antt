use Rattle.codespan_core.proofs.Std.{◌∙◌, ◌++◌, ◌∷◌, ◌+◌, ◌-◌, ap, sym, subst, refl, arith, drop}
use Rattle.codespan_core.proofs.Std.{length, length-map, drop-map, take-map, take, ◌≡◌}
use Rattle.codespan_core.proofs.Std.{length-take-le, length-drop}
use Rattle.codespan_core.proofs.Std.{slice_range, true≢false, take_rest}
use Rattle.codespan_edits.specs.Diffs.{rows_with}
use Rattle.codespan_edits.specs.RowViews.{context_view}
use Rattle.codespan_edits.specs.Private.Hunks.{Cut}
use Rattle.codespan_edits.specs.declared.rows.RowSign.TheVariants.{Kept}
use Rattle.codespan_edits.proofs.HunkSteps.{joined, apart, takes-as}
use Rattle.codespan_edits.proofs.LineBlocks.{shown, slice-shown}
use Rattle.codespan_edits.proofs.hunks.Cutter.skip_to.Goals.{else-self-via-else-self}
use Rattle.codespan_edits.proofs.hunks.Cutter.skip_to.Goals.{}
use Rattle.codespan_edits.proofs.hunks.Cutter.skip_to.Goals.{else-self-via-then-self+else-saturating_sub-context}
use Rattle.codespan_edits.proofs.hunks.Cutter.skip_to.Goals as goal

-- all rows are drawn
pub returns-then-saturating_sub-context-clause-cut :
    goal.returns-then-saturating_sub-context-clause-cut
returns-then-saturating_sub-context-clause-cut c = λ full r rs changed cut.
    let context = context_view c.args.context in
    let gap = slice_range c.args.lines.now c.args.self.now.line c.args.end in
    let size : length (shown gap) ≡ length gap = rw length-map refl in
    let h_is = c.count_after-head.ensures.started c.if-self.true in
    joined context full c.args.self.now c.push_rows.new.self (shown gap) r rs
    c.count_after-head.result
    (subst (λ xs. Cut context full c.args.self.now (rows_with Kept xs ++ (r ∷ rs)))
    (slice-shown c.args.lines.now c.args.self.now.line c.args.end) cut)
    changed c.if-self.true (omega (arith, size, h_is))
    (omega (arith, size, c.saturating_sub.ensures, c.if-saturating_sub-context.true))
    (takes-as c.args.self.now c.push_rows.new.self Kept (shown gap) (shown gap) (length gap)
    (length (shown gap)) refl size c.in_ok-push_rows.ensures.rows)

-- some are left out
pub returns-clause-cut : goal.returns-clause-cut
returns-clause-cut c = λ full r rs changed cut.
    let context = context_view c.args.context in
    let gap = slice_range c.args.lines.now c.args.self.now.line c.args.end in
    let size : length (shown gap) ≡ length gap = rw length-map refl in
    let h = c.count_after-head.result in
    let t = c.min-tail.result in
    let m = length gap - h - t in
    let few = c.count_after-head.ensures.few in
    let t_is = c.min-tail.ensures in
    apart context full c.args.self.now c.push_rows-2.new.self c.leave_out.new.self
    c.push_rows-3.new.self (shown gap) r rs h m t
    (subst (λ xs. Cut context full c.args.self.now (rows_with Kept xs ++ (r ∷ rs)))
    (slice-shown c.args.lines.now c.args.self.now.line c.args.end) cut)
    changed (omega (arith, size, few, t_is))
    (λ is. let e = c.count_after-head.ensures.started is in omega (arith, size, e))
    c.count_after-head.ensures.start (omega (arith, size, t_is))
    (λ is. elim c.else-self.branch [
      | else-self-via-then-self+else-saturating_sub-context w ↦ omega (
        arith,
        size,
        w.saturating_sub.ensures,
        w.if-saturating_sub-context.false,
      )
      | else-self-via-else-self w ↦ absurd (true≢false (sym is ∙ w.if-self.false))
    ])
    (takes-as c.args.self.now c.push_rows-2.new.self Kept (shown (take h gap))
    (take h (shown gap)) (length (take h gap)) h (take-map (λ x. x.now) h gap)
    (sym (length-take-le h gap few)) c.in_ok-push_rows-2.ensures.rows)
    c.in_ok-leave_out.ensures.rows
    (takes-as c.leave_out.new.self c.push_rows-3.new.self Kept
    (shown (take (length gap - (h + m)) (drop (h + m) gap)))
    (drop (h + m) (shown gap)) (length (take (length gap - (h + m)) (drop (h + m) gap))) t
    (drop-map (λ x. x.now) (h + m) gap ∙ ap shown (sym (take_rest gap (h + m))))
    (omega (arith, length-drop (h + m) gap, ap length (take_rest gap (h + m)), few, t_is))
    c.in_ok-push_rows-3.ensures.rows)
