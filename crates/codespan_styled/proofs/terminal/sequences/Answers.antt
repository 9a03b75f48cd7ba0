use Rattle.std.proofs.Common.{rules}
use Rattle.codespan_base.specs.StyleSpellings.{ansi_spelling}
use Rattle.codespan_styled.proofs.Sequences.{written_sequences}
use Rattle.codespan_styled.proofs.terminal.sequences.Goals as goal

pub returns-in-Ok : goal.returns-in-Ok
returns-in-Ok c =
    written_sequences (ansi_spelling c.args.styles.now) c.args.style _ _ _ _
    c.new-writer.ensures.begins (search rules) c.in-Ok.ensures.1 (search rules)
