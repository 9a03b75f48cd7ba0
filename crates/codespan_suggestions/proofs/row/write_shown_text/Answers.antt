use Rattle.codespan_core.proofs.Std.{ap, ◌∙◌, flat_map, err_from_is_err_and, chars}
use Rattle.codespan_core.proofs.Loops.{StillToWrite-start, StillToWrite-more, StillToWrite-failed}
use Rattle.codespan_core.proofs.Loops.{StillToWrite-end}
use Rattle.codespan_output.specs.CharMetrics.{metrics_then}
use Rattle.codespan_renderer.specs.Private.RemainingMetrics.{no_more}
use Rattle.codespan_suggestions.specs.DrawnText.{shown_char}
use Rattle.codespan_suggestions.proofs.RowLoops.{texts_of_each}
use Rattle.codespan_suggestions.proofs.row.write_shown_text.Goals as goal

pub loop-metrics-init : goal.loop-metrics-init
loop-metrics-init g c =
    StillToWrite-start _ _ _
    (ap (flat_map _) (c.new-characters.ensures.whole no_more
    ∙ ap (λ t. metrics_then no_more c.args.tab_width 0 0 (chars t))
    c.text_without_line_end.ensures)
    ∙ texts_of_each shown_char _)

pub loop-metrics-preserved : goal.loop-metrics-preserved
loop-metrics-preserved g c =
    StillToWrite-more _ _ _ _ _ _ _ c.loop-metrics.invariant c.in_ok-write_shown_char.ensures
    (ap (flat_map _) (c.in-Some.ensures.yields.yields no_more))

pub returns-in_err-write_shown_char : goal.returns-in_err-write_shown_char
returns-in_err-write_shown_char g c =
    let p = err_from_is_err_and c.from_residual.result c.from_residual.ensures.1 in
    rw p.1 (StillToWrite-failed _ _ _ _ _ _ _ c.loop-metrics.invariant
    c.in_err-write_shown_char.ensures
    (ap (flat_map _) (c.in-Some.ensures.yields.yields no_more)))

pub returns : goal.returns
returns g c =
    StillToWrite-end _ _ _ _ c.loop-metrics.invariant
    (ap (flat_map _) (c.in_default.ensures.yields.none no_more))
