use Rattle.codespan_core.proofs.Std.{◌≡◌, false, rules}
use Rattle.codespan_output.specs.Lookups.{is_looked_up}
use Rattle.codespan_output.specs.OutputStreams.{label_of}
use Rattle.codespan_views.specs.Private.{model_of}
use Rattle.codespan_views.proofs.Labels.Collecting.{AppendsAnnotations-none}
use Rattle.codespan_views.proofs.label_annotations.LabelCollector.collect_line.Goals as goal

pub returns-then-not-is_around-clause-added : goal.returns-then-not-is_around-clause-added
returns-then-not-is_around-clause-added g c =
    let not_looked_up : is_looked_up c.args.self.now.config.now
    (model_of g.F.Files.database c.args.self.now.file)
    (label_of c.args.self.now.label.now).label c.args.index ≡ false = search rules in
    λ _. rw not_looked_up AppendsAnnotations-none
