use Rattle.codespan_core.proofs.Std.{ap, option_map}
use Rattle.codespan_core.specs.Labels.{lane_mark_of}
use Rattle.codespan_output.specs.OutputStreams.{label_of}
use Rattle.codespan_views.specs.Private.{Multi}
use Rattle.codespan_views.proofs.label_annotations.LabelCollector.multi_kind_on_line.Goals as goal

-- a label without a multi-line label mark there has no lane mark
pub returns-in-None : goal.returns-in-None
returns-in-None g c = let x = (label_of c.args.self.now.label.now).label in
    ap (λ mark. option_map Multi (lane_mark_of c.args.self.now.lane x mark))
    (c.in-None.ensures c.args.line.start x)
