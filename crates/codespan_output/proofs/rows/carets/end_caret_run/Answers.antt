use Rattle.codespan_core.proofs.Std.{◌≡◌, Some, rules}
use Rattle.codespan_output.specs.{Primary, Secondary}
use Rattle.codespan_output.specs.Private.{caret_run}
use Rattle.codespan_core.proofs.Chains.{failed-before, failed, writes-last}
use Rattle.codespan_output.proofs.rows.carets.end_caret_run.Goals.{in-None+in_ok-write_spaces-in-None}
use Rattle.codespan_output.proofs.rows.carets.end_caret_run.Goals.{in-Some-Primary+in_ok-write_repeated-in-Some-Primary}
use Rattle.codespan_output.proofs.rows.carets.end_caret_run.Goals.{in-Some-Secondary+in_ok-write_repeated-in-Some-Secondary}
use Rattle.codespan_output.proofs.rows.carets.end_caret_run.Goals as goal

pub returns-in_err-write_spaces-in-None : goal.returns-in_err-write_spaces-in-None
unfolding caret_run
returns-in_err-write_spaces-in-None g c =
    rw c.in-None.is
    (failed _ _ _ _ _ c.from_residual.ensures.1
    (failed-before _ c.in_err-write_spaces-in-None.ensures))

pub returns-in_err-write_repeated-in-Some-Primary :
    goal.returns-in_err-write_repeated-in-Some-Primary
unfolding caret_run
returns-in_err-write_repeated-in-Some-Primary g c =
    let is : c.args.previous ≡ Some Primary = search rules in
    rw is
    (failed _ _ _ _ _ c.from_residual-in_err-write_repeated-in-Some-Primary.ensures.1
    (failed-before _ c.in_err-write_repeated-in-Some-Primary.ensures))

pub returns-in_err-write_repeated-in-Some-Secondary :
    goal.returns-in_err-write_repeated-in-Some-Secondary
unfolding caret_run
returns-in_err-write_repeated-in-Some-Secondary g c =
    let is : c.args.previous ≡ Some Secondary = search rules in
    rw is
    (failed _ _ _ _ _ c.from_residual-in_err-write_repeated-in-Some-Secondary.ensures.1
    (failed-before _ c.in_err-write_repeated-in-Some-Secondary.ensures))

pub returns : goal.returns
unfolding caret_run
returns g c = elim c.match-previous.branch [
  | in-None+in_ok-write_spaces-in-None w ↦ rw w.in-None.is
      (writes-last _ _ _ _ _ w.in_ok-write_spaces-in-None.ensures
      (rw (w.w-is, w.in-None.is) at c.change_style.ensures))
  | in-Some-Primary+in_ok-write_repeated-in-Some-Primary w ↦ let is : c.args.previous
      ≡ Some Primary
      = search rules in
      rw is
      (writes-last _ _ _ _ _ w.in_ok-write_repeated-in-Some-Primary.ensures
      (rw (w.w-is, is) at c.change_style.ensures))
  | in-Some-Secondary+in_ok-write_repeated-in-Some-Secondary w ↦ let is : c.args.previous ≡ Some
      Secondary = search rules in
      rw is
      (writes-last _ _ _ _ _ w.in_ok-write_repeated-in-Some-Secondary.ensures
      (rw (w.w-is, is) at c.change_style.ensures))
]
