use Rattle.codespan_core.proofs.Std.{map}
use Rattle.codespan_output.specs.OutputStreams.{label_of}
use Rattle.codespan_output.specs.Snippets.{file_ids}
use Rattle.codespan_views.proofs.Labels.OfFiles.{before}
use Rattle.codespan_views.proofs.Labels.Collected.{AreCollected}
use Rattle.codespan_views.proofs.collected.collect.Given as goal

-- the labels before this one are done with
abbrev pub invariant-loop-index : goal.invariant-loop-index
invariant-loop-index g l =
    AreCollected (g.F.Files.database l.files) l.config
    (file_ids (g.F.Files.database l.files).same (map label_of l.labels))
    (file_ids (g.F.Files.database l.files).same (before l.labels l.index))
    (before l.labels l.index) l.collected.files.items
    l.collected.annotations.items l.collected.padding
