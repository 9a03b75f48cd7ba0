use Rattle.program_io.proofs.Outcomes.{status_at_most, status_of_wrong, success_by_status}
use Rattle.program_io.proofs.Outcomes.{wrong_by_status}
use Rattle.gallery_cases.proofs.Outcomes.{unchanged_at_error}
use Rattle.gallery_cases.proofs.run.run.Goals as goal

pub returns-clause-status : goal.returns-clause-status
returns-clause-status g c =
    status_at_most c.respond.result c.conclude.result c.conclude.ensures.status

pub returns-clause-usage : goal.returns-clause-usage
returns-clause-usage g c = (
  λ two. c.respond.ensures.usage.0
      (wrong_by_status c.respond.result c.conclude.result c.conclude.ensures.status two),
  λ none. status_of_wrong c.respond.result c.conclude.result c.conclude.ensures.status
      (c.respond.ensures.usage.1 none),
)

pub returns-clause-unread : goal.returns-clause-unread
returns-clause-unread g c =
    λ two. c.respond.ensures.unread
    (wrong_by_status c.respond.result c.conclude.result c.conclude.ensures.status two)

pub returns-clause-unwritten : goal.returns-clause-unwritten
returns-clause-unwritten g c =
    λ two. unchanged_at_error c.respond.result c.respond.ensures.unchanged
    (wrong_by_status c.respond.result c.conclude.result c.conclude.ensures.status two)

pub returns-clause-no_error : goal.returns-clause-no_error
returns-clause-no_error g c =
    λ zero. success_by_status c.respond.result c.conclude.result c.conclude.ensures.status zero
    c.conclude.ensures.no_error

pub returns-clause-rendered : goal.returns-clause-rendered
returns-clause-rendered g c =
    λ zero. success_by_status c.respond.result c.conclude.result c.conclude.ensures.status zero
    c.respond.ensures.rendered
