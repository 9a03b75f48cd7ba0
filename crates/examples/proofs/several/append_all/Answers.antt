use Rattle.std.proofs.Common.{drop-cons, add-one, sym, string_bytes}
use Rattle.examples.proofs.several.append_all.Goals as goal

-- the output of this diagnostic comes first of those that are left
pub loop-diagnostic-preserved : goal.loop-diagnostic-preserved
loop-diagnostic-preserved g c =
    λ new rest. c.loop-diagnostic.invariant new
    (rw (
      drop-cons c.args.diagnostics.now c.loop-diagnostic.diagnostic-index c.diagnostic-item.result
          c.loop-diagnostic-test.true,
      sym c.diagnostic-item.is,
    ) (
      string_bytes c.emit_to_string.new.string,
      c.in_ok-emit_to_string.ensures.ok,
      rw (add-one c.loop-diagnostic.diagnostic-index) at rest,
    ))
