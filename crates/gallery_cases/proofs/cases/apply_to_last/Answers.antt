use Rattle.std.proofs.Common.{refl}
use Rattle.gallery_cases.proofs.LastCase.{last_applied, last_failed}
use Rattle.gallery_cases.proofs.cases.apply_to_last.Goals as goal

pub returns-in-Some-clause-applied : goal.returns-in-Some-clause-applied
returns-in-Some-clause-applied c =
    last_applied c.args.cases.now.items _ c.args.statement c.in-Some.case.now c.apply.new.self
    c.apply.result c.args.cases.now.ok.0 (c.in-Some.ensures.variant.0 refl)
    c.in-Some.ensures.value c.apply.ensures.applied

pub returns-in-Some-clause-failed : goal.returns-in-Some-clause-failed
returns-in-Some-clause-failed c =
    last_failed c.args.cases.now.items _ c.args.statement c.in-Some.case.now c.apply.result
    c.args.cases.now.ok.0 (c.in-Some.ensures.variant.0 refl) c.in-Some.ensures.value
    c.apply.ensures.failed
