use Rattle.codespan_core.proofs.Std.{◌≡◌}
use Rattle.codespan_views.specs.Private.{label_of_collector}
use Rattle.codespan_views.proofs.Labels.Contexts.{CollectsLines}
use Rattle.codespan_views.proofs.label_annotations.LabelCollector.collect_lines.Given as goal

-- the lines below this one are done with
abbrev pub invariant-loop-index : goal.invariant-loop-index
invariant-loop-index g l = record {
  lines : CollectsLines (label_of_collector g.F.Files.database l.self)
      l.initial.collected.annotations.items l.collected.annotations.items
      l.initial.collected.padding l.collected.padding l.index-counter;
  files : l.collected.files ≡ l.initial.collected.files;
}
