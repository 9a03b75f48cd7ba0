use Rattle.codespan_core.proofs.Std.{◌≡◌, ◌+◌, ◌++◌, ◌<◌, take}
use Rattle.std.specs.Prelude.{MatchOption}
use Rattle.codespan_fitting.specs.Fitting.{span_views}
use Rattle.codespan_fitting.specs.Gaps.{AreIn, placed_gaps}
use Rattle.codespan_fitting.specs.Parts.{gaps_from, needed_cells, text_parts}
use Rattle.codespan_fitting.proofs.GapLoop.{IsShown}
use Rattle.codespan_fitting.proofs.GapSteps.{parts_after}
use Rattle.codespan_fitting.proofs.gaps.refill_gaps.Given as goal

abbrev pub invariant-loop-span : goal.invariant-loop-span
invariant-loop-span l = record {
  within : AreIn l.text l.gaps.items;
  shown : IsShown l.tab_width l.text (span_views (take l.span-index l.spans)) l.shown;
  gaps : placed_gaps l.tab_width l.text l.gaps.items
      ++ gaps_from l.shown (parts_after l.tab_width l.text (span_views l.spans) l.shown)
      ≡ gaps_from 0 (text_parts l.tab_width l.text (span_views l.spans));
  rest : MatchOption l.rest
      (l.left + needed_cells (parts_after l.tab_width l.text (span_views l.spans) l.shown)
      < needed_cells (text_parts l.tab_width l.text (span_views l.spans)))
      (λ rest. rest + needed_cells (text_parts l.tab_width l.text (span_views l.spans))
      ≡ l.left + needed_cells (parts_after l.tab_width l.text (span_views l.spans) l.shown));
}
