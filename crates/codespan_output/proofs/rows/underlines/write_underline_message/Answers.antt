use Rattle.codespan_core.proofs.Std.{◌<◌, length, arith, nat_tests}
use Rattle.codespan_core.proofs.Chains.{failed-before, failed, writes-last}
use Rattle.codespan_output.proofs.Lanes.UnderlineRows.{underline_message-some}
use Rattle.codespan_output.proofs.rows.underlines.write_underline_message.Goals as goal

pub returns-in_err-put_all : goal.returns-in_err-put_all
returns-in_err-put_all g c =
    let some : 0 < length c.args.message.now = grind (arith, nat_tests) in
    rw (underline_message-some _ some)
    (failed _ _ _ _ _ c.from_residual.ensures.1 (failed-before _ c.in_err-put_all.ensures))

pub returns : goal.returns
returns g c =
    let some : 0 < length c.args.message.now = grind (arith, nat_tests) in
    rw (underline_message-some _ some)
    (writes-last _ _ _ _ _ c.in_ok-put_all.ensures
    (rw c.as_bytes.ensures.value at c.put_all-2.ensures))
