use Rattle.std.proofs.Common.{◌≡◌, string_bytes, subst}
use Rattle.codespan_base.specs.declared.term.config.styles.Styles.{Styles}
use Rattle.codespan_styled.specs.Runs.{styled_runs}
use Rattle.codespan_styled.specs.Terminal.{terminal_text}
use Rattle.gallery_cases.proofs.document.document.Goals as goal

-- the text for a terminal is that of the default styles
pub returns : goal.returns
returns c =
    let runs = styled_runs c.in_ok-text.text in
    let bytes = string_bytes c.in_ok-to_terminal-in-Terminal.field-0 in
    rw c.in-Terminal.is
    (record {
      runs = runs;
      are_runs = c.in_ok-text.ensures;
      is =
          subst (λ (styles : Styles). bytes ≡ terminal_text styles runs)
          c.default-in-Terminal.ensures c.in_ok-to_terminal-in-Terminal.ensures.runs;
    })
