use Rattle.std.proofs.Common.{ne_eqb}
use Rattle.codespan_native.proofs.status.write_status.Goals.{then-status-eq-INVALID}
use Rattle.codespan_native.proofs.status.write_status.Goals.{else-status-eq-INVALID}
use Rattle.codespan_native.proofs.status.write_status.Goals as goal

-- the text is that of the argument, or that of the status
pub returns-clause-ok : goal.returns-clause-ok
returns-clause-ok c = elim c.if-status-eq-INVALID.branch [
  | then-status-eq-INVALID w ↦ rw w.if-status-eq-INVALID.true
      (rw (c.as_bytes.ensures.value, w.text-is, w.argument_text-text.ensures.value)
      at c.copy_out.ensures.ok)
  | else-status-eq-INVALID w ↦ rw (ne_eqb c.args.status 4 w.if-status-eq-INVALID.false)
      (rw (c.as_bytes.ensures.value, w.text-is, w.status_text-text.ensures.value)
      at c.copy_out.ensures.ok)
]

pub returns-clause-too_small : goal.returns-clause-too_small
returns-clause-too_small c = elim c.if-status-eq-INVALID.branch [
  | then-status-eq-INVALID w ↦ rw w.if-status-eq-INVALID.true
      (rw (c.as_bytes.ensures.value, w.text-is, w.argument_text-text.ensures.value)
      at c.copy_out.ensures.too_small)
  | else-status-eq-INVALID w ↦ rw (ne_eqb c.args.status 4 w.if-status-eq-INVALID.false)
      (rw (c.as_bytes.ensures.value, w.text-is, w.status_text-text.ensures.value)
      at c.copy_out.ensures.too_small)
]
