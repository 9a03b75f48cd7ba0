use Rattle.codespan_core.proofs.Std.{◌++◌, ◌+◌, drop, map, sym, ap, ◌∙◌, drop_more}
use Rattle.codespan_core.proofs.Std.{drop_all}
use Rattle.codespan_edits.specs.Diffs.{kept}
use Rattle.codespan_edits.specs.Private.Differs.{all_rows}
use Rattle.codespan_edits.proofs.KeptLines.{line-at}
use Rattle.codespan_edits.proofs.rows.Differ.keep.Goals as goal

-- it is a line
pub keep_line-requires : goal.keep_line-requires
keep_line-requires c =
    line-at c.args.text.now c.deref-line-items.result.now c.loop-line.line-index _
    c.loop-line-test.true
    (ap (map (λ x. x.now)) c.deref-line-items.ensures.value ∙ c.in_ok-lines.ensures.lines)

-- the next line was taken
pub loop-line-preserved : goal.loop-line-preserved
loop-line-preserved c =
    let items = c.deref-line-items.result.now in
    λ ps. c.in_ok-keep_line.ensures.rows
    (map kept (map (λ x. x.now) (drop (c.loop-line.line-index + 1) items)) ++ ps)
    ∙ (ap (λ zs. all_rows c.loop-line.self (map kept (map (λ x. x.now) zs) ++ ps))
    (sym (drop_more items c.loop-line.line-index _ c.loop-line-test.true)) ∙ c.loop-line.invariant
    ps)

-- no line is left
pub returns-clause-rows : goal.returns-clause-rows
returns-clause-rows c =
    let items = c.deref-line-items.result.now in
    λ ps. ap (λ zs. all_rows c.loop-line.self (map kept (map (λ x. x.now) zs) ++ ps))
    (sym (drop_all c.loop-line.line-index items c.loop-line-test.false))
    ∙ (c.loop-line.invariant ps
    ∙ ap (λ ls. all_rows c.args.self.now (map kept ls ++ ps))
    (ap (map (λ x. x.now)) c.deref-line-items.ensures.value ∙ c.in_ok-lines.ensures.lines))
