use Rattle.codespan_views.specs.Private.{label_of_collector}
use Rattle.codespan_views.proofs.Labels.Collecting.{AppendsAnnotations-as, AppendsAnnotations-both}
use Rattle.codespan_views.proofs.Labels.Collecting.{AppendsAnnotations-weaker}
use Rattle.codespan_views.proofs.Labels.Collecting.{annotation_if_any-line, far-kind}
use Rattle.codespan_views.proofs.Labels.Collecting.{far-multi_label}
use Rattle.codespan_views.proofs.label_annotations.LabelCollector.push_line.Goals as goal

-- a line far from the ends has the label's lane mark alone
pub returns-then-is_far-clause-added : goal.returns-then-is_far-clause-added
returns-then-is_far-clause-added g c =
    let x = label_of_collector g.F.Files.database c.args.self.now in
    let far = c.requires.far c.if-is_far.true in
    AppendsAnnotations-as (annotation_if_any-line x c.requires.lines.first c.requires.lines.last
    c.requires.line (far-kind x.config x.index _ _ _ _ x.label far)
    (far-multi_label x.config x.lane _ _ _ _ c.args.self.now.label far))
    (AppendsAnnotations-weaker (λ e same. rw same c.requires.line)
    c.in_ok-push_annotation.ensures.added)

pub returns-clause-added : goal.returns-clause-added
returns-clause-added g c =
    let x = label_of_collector g.F.Files.database c.args.self.now in
    AppendsAnnotations-as
    (annotation_if_any-line x c.requires.lines.first c.requires.lines.last c.requires.line
    c.kind_on_line.ensures c.multi_kind_on_line-lane_mark.ensures)
    (AppendsAnnotations-weaker (λ e same. rw same c.requires.line)
    (AppendsAnnotations-both c.in_ok-push_annotation-2.ensures.added
    c.in_ok-push_annotation-3.ensures.added))
