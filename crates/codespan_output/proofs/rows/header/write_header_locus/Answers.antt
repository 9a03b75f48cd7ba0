use Rattle.codespan_output.specs.{header_locus}
use Rattle.codespan_core.proofs.Chains.{failed-before, failed-then, failed}
use Rattle.codespan_output.proofs.rows.header.write_header_locus.Goals as goal

pub returns-in_err-snippet_locus : goal.returns-in_err-snippet_locus
unfolding header_locus
returns-in_err-snippet_locus g c =
    rw c.in-Some.is
    (failed _ _ _ _ _ c.from_residual.ensures.1 (failed-before _ c.in_err-snippet_locus.ensures))

pub returns-in_err-put_all : goal.returns-in_err-put_all
unfolding header_locus
returns-in_err-put_all g c =
    rw c.in-Some.is
    (failed _ _ _ _ _ c.from_residual-in_err-put_all.ensures.1
    (failed-then _ c.in_ok-snippet_locus.ensures c.in_err-put_all.ensures))
