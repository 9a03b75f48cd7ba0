use Rattle.codespan_core.proofs.Std.{arith, ◌∙◌, ◌≡◌, length}
use Rattle.codespan_core.proofs.Chains.{failed-before, failed, writes-last}
use Rattle.codespan_core.proofs.Repeats.{repeated-pair, repeated-two}
use Rattle.codespan_core.proofs.term.config.writing.put_pair.Goals as goal

pub returns-in_err-put_char-in_default : goal.returns-in_err-put_char-in_default
returns-in_err-put_char-in_default g c =
    rw (repeated-two c.args.c)
    (failed _ _ _ _ _ c.from_residual.ensures.1
    (failed-before _ c.in_err-put_char-in_default.ensures))

pub returns-in-len3 : goal.returns-in-len3
returns-in-len3 g c =
    let three : length c.as_bytes.result.now ≡ 3 = omega arith in
    rw (repeated-pair c.args.c c.as_bytes.result.now three
    (c.as_bytes.ensures.value ∙ c.encode_utf8.ensures.value)) at c.put_all.ensures

pub returns-in_ok-put_char-in_default : goal.returns-in_ok-put_char-in_default
returns-in_ok-put_char-in_default g c =
    rw (repeated-two c.args.c)
    (writes-last _ _ _ _ _ c.in_ok-put_char-in_default.ensures c.put_char-in_default.ensures)
