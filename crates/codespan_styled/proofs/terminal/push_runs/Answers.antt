use Rattle.std.proofs.Common.{ℕ, List, ◌++◌, ap, ◌∙◌, append_assoc, string_bytes}
use Rattle.codespan_base.specs.StyleSpellings.{ansi_spelling}
use Rattle.codespan_styled.specs.Terminal.{run_bytes}
use Rattle.codespan_styled.specs.SafeText.{safe_text}
use Rattle.codespan_styled.proofs.Appending.{run-more, run-end}
use Rattle.codespan_styled.proofs.terminal.push_runs.Goals as goal

-- the sequences and the safe text of the run follow what was appended
pub loop-run-preserved : goal.loop-run-preserved
loop-run-preserved c =
    let run = c.run-item.result in
    let text = safe_text (string_bytes run.text) in
    let appended = c.in_ok-push_safe.ensures
    ∙ ap (λ t. string_bytes c.push_sequences.new.terminal ++ safe_text t) c.as_str.ensures.value
    ∙ ap (λ (front : List ℕ). front ++ text) c.in_ok-push_sequences.ensures
    ∙ append_assoc (string_bytes c.loop-run.terminal)
    (ansi_spelling c.args.styles.now run.style) text in
    run-more (run_bytes c.args.styles.now) c.args.runs.now c.loop-run.run-index run
    (string_bytes c.loop-run.terminal) _ _ c.loop-run-test.true c.run-item.is appended
    c.loop-run.invariant

-- no run is left
pub returns : goal.returns
returns c =
    run-end (run_bytes c.args.styles.now) c.args.runs.now c.loop-run.run-index _ _
    c.loop-run-test.false c.loop-run.invariant
