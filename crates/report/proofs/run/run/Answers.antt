use Rattle.report.proofs.Outcomes.{bad_script_status, unchanged_at_not_utf8, prefix_written}
use Rattle.report.proofs.Outcomes.{status_at_most, status_of_wrong, unchanged_unless_rendered}
use Rattle.report.proofs.Outcomes.{success_by_status, reported_at_bad_script, wrong_by_status}
use Rattle.report.proofs.run.run.Goals as goal

pub returns-clause-status : goal.returns-clause-status
returns-clause-status g c =
    status_at_most c.respond-outcome.result c.conclude.result c.conclude.ensures.status

pub returns-clause-usage : goal.returns-clause-usage
returns-clause-usage g c = (
  λ two. c.respond-outcome.ensures.usage.0
      (wrong_by_status c.respond-outcome.result c.conclude.result c.conclude.ensures.status two),
  λ none. status_of_wrong c.respond-outcome.result c.conclude.result c.conclude.ensures.status
      (c.respond-outcome.ensures.usage.1 none),
)

pub returns-clause-unread : goal.returns-clause-unread
returns-clause-unread g c =
    λ two. c.respond-outcome.ensures.unread
    (wrong_by_status c.respond-outcome.result c.conclude.result c.conclude.ensures.status two)

pub returns-clause-no_error : goal.returns-clause-no_error
returns-clause-no_error g c =
    λ zero. success_by_status c.respond-outcome.result c.conclude.result c.conclude.ensures.status
    zero c.conclude.ensures.no_error

pub returns-clause-read : goal.returns-clause-read
returns-clause-read g c =
    λ zero. success_by_status c.respond-outcome.result c.conclude.result c.conclude.ensures.status
    zero c.respond-outcome.ensures.read

pub returns-clause-rendered : goal.returns-clause-rendered
returns-clause-rendered g c =
    λ zero. success_by_status c.respond-outcome.result c.conclude.result c.conclude.ensures.status
    zero c.respond-outcome.ensures.rendered

pub returns-clause-utf8 : goal.returns-clause-utf8
returns-clause-utf8 g c =
    λ zero. success_by_status c.respond-outcome.result c.conclude.result c.conclude.ensures.status
    zero c.respond-outcome.ensures.utf8

pub returns-clause-unchanged : goal.returns-clause-unchanged
returns-clause-unchanged g c =
    unchanged_at_not_utf8 _ _ _ c.respond-outcome.result c.respond-outcome.ensures.utf8
    c.respond-outcome.ensures.reported c.respond-outcome.ensures.unchanged

pub returns-clause-reported : goal.returns-clause-reported
returns-clause-reported g c =
    λ three. reported_at_bad_script _ _ c.respond-outcome.result c.conclude.result _
    c.conclude.ensures.status three c.respond-outcome.ensures.reported
    (c.conclude.ensures.reported three)

pub returns-clause-bad_script : goal.returns-clause-bad_script
returns-clause-bad_script g c =
    bad_script_status _ _ c.respond-outcome.result c.conclude.result _ _ c.conclude.ensures.status
    c.respond-outcome.ensures.rendered c.respond-outcome.ensures.reported
    c.respond-outcome.ensures.unchanged

pub returns-clause-unrendered : goal.returns-clause-unrendered
returns-clause-unrendered g c =
    unchanged_unless_rendered c.respond-outcome.result c.conclude.result _ _ _
    c.conclude.ensures.status c.conclude.ensures.prefix c.respond-outcome.ensures.unchanged

pub returns-clause-prefix : goal.returns-clause-prefix
returns-clause-prefix g c =
    λ one. prefix_written _ _ c.respond-outcome.result c.conclude.result _ _
    c.conclude.ensures.status one c.respond-outcome.ensures.prefix
    c.respond-outcome.ensures.unchanged
