use Rattle.std.proofs.Common.{rules, ◌≡◌, ◌++◌, map, refl, ap, ◌∙◌, string_bytes}
use Rattle.codespan_styled.specs.declared.text.Run.{Run}
use Rattle.codespan_styled.specs.Recorders.{recorded_run, recorded_runs}
use Rattle.codespan_styled.specs.Runs.{run_view}
use Rattle.codespan_styled.proofs.Recording.{contents-ended, nothing_appended, recorded-failed}
use Rattle.codespan_styled.proofs.Recording.{recorded-started}
use Rattle.codespan_styled.proofs.recorder.Recorder.push_run.Goals as goal

pub returns-in_default-clause-appends : goal.returns-in_default-clause-appends
returns-in_default-clause-appends c =
    λ known. nothing_appended c.args.self.now c.args.self.now _ refl

pub returns-in_err-push_str-clause-appends : goal.returns-in_err-push_str-clause-appends
returns-in_err-push_str-clause-appends c =
    recorded-failed c.args.self.now c.args.self.now _ c.from_residual.result
    c.from_residual.ensures.0 refl

pub returns-in_err-push-clause-appends : goal.returns-in_err-push-clause-appends
returns-in_err-push-clause-appends c =
    let self = c.args.self.now in
    recorded-failed self (record self { runs = c.push.new.self }) _
    c.from_residual-in_err-push.result c.from_residual-in_err-push.ensures.0
    (ap
    (λ runs. recorded_runs (map run_view runs)
    ++ recorded_run (record { style = self.style; text = self.text.items }))
    c.in_err-push.ensures.items)

-- the last run ends with its own style and its bytes
pub returns-clause-runs : goal.returns-clause-runs
returns-clause-runs c =
    let self = c.args.self.now in
    let new =
    record self { runs = c.push.new.self; style = c.args.next; text = c.clear.new.self } in
    let same : c.in-Ok.bytes.now ≡ self.text.items = search rules in
    let text : string_bytes c.push_str.new.self ≡ self.text.items = c.in_ok-push_str.ensures.bytes
    ∙ ap (λ bytes. bytes ++ c.in-Ok.bytes.now) c.new-text.ensures.bytes ∙ same in
    let run : Run = record { style = self.style; text = c.push_str.new.self } in
    contents-ended self new run c.in_ok-push.ensures.items refl text

-- and then a run of the next style begins
pub returns-clause-appends : goal.returns-clause-appends
returns-clause-appends c = λ known.
    let self = c.args.self.now in
    let new =
    record self { runs = c.push.new.self; style = c.args.next; text = c.clear.new.self } in
    recorded-started self new c.args.next (returns-clause-runs c) refl c.clear.ensures.items
