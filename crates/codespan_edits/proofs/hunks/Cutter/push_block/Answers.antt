use Rattle.codespan_core.proofs.Std.{◌∙◌, ◌+◌, ◌-◌, ◌<◌, ◌==◌, ap, sym, subst, arith, drop, take}
use Rattle.codespan_core.proofs.Std.{length, length-map, ◌≡◌, ℕ, Bool, true, false, refl}
use Rattle.codespan_core.proofs.Std.{slice_range, inl, inr, ◌⊎◌, nat_tests, take_rest}
use Rattle.codespan_edits.specs.Diffs.{lines}
use Rattle.codespan_edits.specs.RowViews.{context_view}
use Rattle.codespan_edits.specs.Private.Blocks.{rows_of, block_view}
use Rattle.codespan_edits.specs.Private.Hunks.{Cut}
use Rattle.codespan_edits.specs.declared.rows.RowSign.TheVariants.{Removed, Added}
use Rattle.codespan_edits.proofs.DiffBlocks.{rest-slice}
use Rattle.codespan_edits.proofs.HunkSteps.{takes-as}
use Rattle.codespan_edits.proofs.LineBlocks.{shown, split-here, same-here, passed}
use Rattle.codespan_edits.proofs.ChangedBlocks.{pushed}
use Rattle.codespan_edits.proofs.hunks.Cutter.push_block.Goals.{else-is_empty-via-else-is_empty}
use Rattle.codespan_edits.proofs.hunks.Cutter.push_block.Goals.{else-is_empty-via-then-is_empty+else-is_empty-2}
use Rattle.codespan_edits.proofs.hunks.Cutter.push_block.Goals as goal

is-none : (n : ℕ) (t : Bool) → t ≡ (n == 0) → t ≡ true → n ≡ 0
is-none n t is h = grind (arith, nat_tests, is, h)

is-some : (n m : ℕ) (t : Bool) → m ≡ n → t ≡ (n == 0) → t ≡ false → 0 < m
is-some n m t same is h = grind (arith, nat_tests, same, is, h)

-- no line changes
pub returns-then-is_empty-2-clause-cut : goal.returns-then-is_empty-2-clause-cut
returns-then-is_empty-2-clause-cut c = λ full bs fit cut.
    let b = block_view c.args.block.now in
    let xs = slice_range c.args.lines.now b.first b.end in
    let ys = c.deref-2.result.now in
    let zs = c.deref-3.result.now in
    let n = c.count_start-start.result in
    let m = c.count_end-end.result in
    let old_rest = take (length xs - n) (drop n xs) in
    let new_rest = take (length zs - n) (drop n zs) in
    let same = c.deref-3.ensures.value ∙ sym c.deref-2.ensures.value in
    subst (Cut (context_view c.args.context) full c.args.self.now)
    (same-here c.args.lines.now b bs xs ys old_rest new_rest c.args.self.now.line n m
    c.requires.from c.requires.ordered c.requires.within fit refl
    (ap shown c.deref-2.ensures.value ∙ (c.in_ok-new_lines.ensures.lines
    ∙ ap lines c.deref.ensures))
    c.count_start-start.ensures.count c.count_start-start.ensures.of_old
    c.count_end-end.ensures.count c.count_end-end.ensures.of_old (take_rest xs n)
    (rest-slice n zs ys same)
    (is-none (length (take (length old_rest - m) old_rest)) c.is_empty.result c.is_empty.ensures
    c.if-is_empty.true)
    (is-none (length (take (length new_rest - m) new_rest)) c.is_empty-then-is_empty.result
    c.is_empty-then-is_empty.ensures c.if-is_empty-2.true))
    cut

-- some do
pub returns-clause-cut : goal.returns-clause-cut
returns-clause-cut c = λ full bs fit cut.
    let context = context_view c.args.context in
    let ls = shown c.args.lines.now in
    let b = block_view c.args.block.now in
    let xs = slice_range c.args.lines.now b.first b.end in
    let ys = c.deref-2.result.now in
    let zs = c.deref-3.result.now in
    let n = c.count_start-start.result in
    let m = c.count_end-end.result in
    let old_rest = take (length xs - n) (drop n xs) in
    let new_rest = take (length zs - n) (drop n zs) in
    let removed = take (length old_rest - m) old_rest in
    let added = take (length new_rest - m) new_rest in
    let same = c.deref-3.ensures.value ∙ sym c.deref-2.ensures.value in
    let new = ap shown c.deref-2.ensures.value ∙ (c.in_ok-new_lines.ensures.lines
    ∙ ap lines c.deref.ensures) in
    let start = c.count_start-start.ensures in
    let end = c.count_end-end.ensures in
    let split = split-here c.args.lines.now b bs xs ys old_rest new_rest c.args.self.now.line n m
    c.requires.from c.requires.ordered c.requires.within fit refl new start.count start.of_old
    end.count end.of_old (take_rest xs n) (rest-slice n zs ys same) in
    let size = passed c.args.lines.now b bs xs ys old_rest new_rest c.args.self.now.line n m
    c.requires.from c.requires.ordered c.requires.within fit refl new start.count start.of_old
    end.count end.of_old (take_rest xs n) (rest-slice n zs ys same) in
    let size_old : length (shown removed) ≡ length removed = rw length-map refl in
    let size_new : length (shown added) ≡ length added = rw length-map refl in
    let some : (0 < length (shown removed)) ⊎ (0 < length (shown added)) =
    elim c.else-is_empty.branch [
      | else-is_empty-via-then-is_empty+else-is_empty-2 w ↦ inr (is-some (length added)
          (length (shown added)) w.is_empty-then-is_empty.result size_new
          w.is_empty-then-is_empty.ensures w.if-is_empty-2.false)
      | else-is_empty-via-else-is_empty w ↦ inl (is-some (length removed)
          (length (shown removed)) c.is_empty.result size_old c.is_empty.ensures
          w.if-is_empty.false)
    ] in
    let line : b.first + n + (length old_rest - m) ≡ c.push_rows-2.new.self.line =
    omega (
      arith,
      c.in_ok-skip_to.ensures.line,
      c.in_ok-push_rows.ensures.line,
      c.in_ok-push_rows-2.ensures.line,
      size,
    ) in
    subst
    (λ l. Cut context full (record {
      hunks = c.push_rows-2.new.self.hunks;
      run = c.push_rows-2.new.self.run;
      started = true;
      line = c.push_rows-2.new.self.line;
      new_line = c.push_rows-2.new.self.new_line;
    }) (rows_of ls l bs)) line
    (pushed context full c.args.self.now c.skip_to.new.self c.push_rows.new.self
    c.push_rows-2.new.self (slice_range ls c.args.self.now.line (b.first + n)) (shown removed)
    (shown added) (rows_of ls (b.first + n + (length old_rest - m)) bs)
    (subst (Cut context full c.args.self.now) split cut) some
    (λ r rs. c.in_ok-skip_to.ensures.cut full r rs)
    (takes-as c.skip_to.new.self c.push_rows.new.self Removed (shown removed) (shown removed)
    (length removed) (length (shown removed)) refl size_old c.in_ok-push_rows.ensures.rows)
    (takes-as c.push_rows.new.self c.push_rows-2.new.self Added (shown added) (shown added)
    (length added) (length (shown added)) refl size_new c.in_ok-push_rows-2.ensures.rows))
