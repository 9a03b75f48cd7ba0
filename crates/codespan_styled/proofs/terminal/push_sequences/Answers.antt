use Rattle.std.proofs.Common.{◌≡◌, false, true, subst, sym}
use Rattle.std.specs.Str.{IsUtf8}
use Rattle.codespan_styled.proofs.TerminalRuns.{ReadsText-mark}
use Rattle.codespan_styled.proofs.terminal.push_sequences.Goals as goal

pub unreachable-requires : goal.unreachable-requires
unreachable-requires c =
    let utf8 : IsUtf8 c.in_ok-bytes.bytes.items = subst IsUtf8 (sym c.in_ok-bytes.ensures)
    (ReadsText-mark c.args.styles.now c.args.style).utf8 in
    let bad : false ≡ true = c.in_default.ensures.succeeds utf8 in
    cc bad
