use Rattle.std.proofs.Common.{append_assoc, arith, string_bytes}
use Rattle.std.proofs.lemmas.Result.{IfOk-equal}
use Rattle.codespan_styled.proofs.SafeTexts.{first-written}
use Rattle.codespan_styled.proofs.terminal.push_text.Goals as goal

-- the first run has no sequences if it is plain, and the others follow it
pub returns : goal.returns
returns c =
    IfOk-equal c.push_runs.result _ _ _ c.push_runs.ensures
    (first-written c.args.styles.now c.args.runs.now c.first-item.result
    (string_bytes c.args.terminal.now) _ c.in-len1-up.len_at_least c.first-item.is
    (grind (arith, append_assoc)))
