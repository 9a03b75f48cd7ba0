use Rattle.std.proofs.Common.{ℕ, List, drop, string_bytes}
use Rattle.examples.specs.Outputs.{AreAppended}
use Rattle.examples.proofs.several.append_all.Given as goal

-- what is appended from here on completes the outputs of all
abbrev pub invariant-loop-diagnostic : goal.invariant-loop-diagnostic
invariant-loop-diagnostic g l = (new : List ℕ)
    → AreAppended l.config (g.F.Files.database l.files) (drop l.diagnostic-index l.diagnostics)
    (string_bytes l.string) new
    → AreAppended l.config (g.F.Files.database l.files) l.diagnostics
    (string_bytes l.initial.string) new
