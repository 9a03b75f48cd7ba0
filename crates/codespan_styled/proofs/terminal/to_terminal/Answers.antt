use Rattle.std.proofs.Common.{ℕ, List, ◌++◌, map, string_bytes, ap, ◌∙◌}
use Rattle.codespan_styled.specs.declared.text.Run.{Run}
use Rattle.codespan_styled.specs.Runs.{run_view}
use Rattle.codespan_styled.specs.Terminal.{terminal_text}
use Rattle.codespan_styled.proofs.TerminalRuns.{string_shows_safe}
use Rattle.codespan_styled.proofs.terminal.to_terminal.Goals as goal

-- the text of the runs is appended to nothing
pub returns-clause-runs : goal.returns-clause-runs
returns-clause-runs c =
    let text = λ (runs : List Run). terminal_text c.args.styles.now (map run_view runs) in
    c.in_ok-push_text.ensures
    ∙ ap (λ (l : List ℕ). l ++ text c.as_slice.result.now) c.new-terminal.ensures.bytes
    ∙ ap text c.as_slice.ensures.value

pub returns-clause-safe : goal.returns-clause-safe
returns-clause-safe c =
    string_shows_safe c.args.styles.now c.args.text.now.runs.items
    (string_bytes c.push_text.new.terminal) (returns-clause-runs c)
