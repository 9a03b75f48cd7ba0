use Rattle.codespan_core.proofs.Std.{drop, string_bytes}
use Rattle.codespan_fitting.proofs.CutLemmas.ShownTexts.{IsWritten}
use Rattle.codespan_fitting.proofs.cuts.write_text.Given as goal

abbrev pub invariant-loop-cut : goal.invariant-loop-cut
invariant-loop-cut l =
    IsWritten l.text l.cuts l.read (drop l.cut-index l.cuts) (string_bytes l.fitted)
