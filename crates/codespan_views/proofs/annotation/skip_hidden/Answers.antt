use Rattle.codespan_core.proofs.Std.{◌≡◌, ◌-◌, ◌≤◌, ℕ, List, drop, length, arith}
use Rattle.codespan_core.proofs.Std.{common_steps, drop-drop, length-drop}
use Rattle.codespan_views.proofs.Lines.SnippetLineViews.{IsNextGroup, later-are, later-fewer}
use Rattle.codespan_views.proofs.Lines.SnippetLineViews.{views_of-hidden}
use Rattle.codespan_views.proofs.annotation.skip_hidden.Given.{Over}
use Rattle.codespan_views.proofs.annotation.skip_hidden.Goals.{After-count_on_line-count}
use Rattle.codespan_views.proofs.annotation.skip_hidden.Goals as goal

-- of elements from the last n on, fewer
drop-fewer : {X : Type 0} (xs rest : List X) (n : ℕ) → length rest ≤ length xs
    → n ≤ length rest
    → rest ≡ drop (length xs - length rest) xs
    → drop n rest ≡ drop (length xs - length (drop n rest)) xs
drop-fewer xs rest n within few is = grind (arith, common_steps, length-drop, drop-drop)

-- the annotations of a line are counted
next : (g : Over) (c : After-count_on_line-count g)
    → IsNextGroup c.loop-first.rest.now c.in-Some.first.now c.count_on_line-count.result
next g c = grind (arith, common_steps)

pub loop-first-preserved : goal.loop-first-preserved
loop-first-preserved g c = grind
    (arith, common_steps, next, later-fewer, later-are, drop-fewer, views_of-hidden)
