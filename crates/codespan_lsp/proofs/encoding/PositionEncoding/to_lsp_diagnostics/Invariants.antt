use Rattle.std.proofs.Common.{◌≡◌, ◌++◌, drop, map}
use Rattle.codespan_lsp.specs.Positions.{first_failure}
use Rattle.codespan_lsp.specs.LspDiagnostics.{lsp_view, lsp_diagnostic_for, lsp_failure}
use Rattle.codespan_lsp.specs.LspDiagnostics.{primary_labels}
use Rattle.codespan_lsp.proofs.encoding.PositionEncoding.to_lsp_diagnostics.Given as goal

-- what is still to come makes the list whole, and fails as the whole does
abbrev pub invariant-loop-label : goal.invariant-loop-label
invariant-loop-label g l =
    let database = g.F.Files.database l.files in
    let all = primary_labels l.diagnostic.labels.items in
    let left = primary_labels (drop l.label-index l.diagnostic.labels.items) in
    record {
      views : map lsp_view l.found.items ++ map (lsp_diagnostic_for l.self database l.diagnostic)
          left ≡ map (lsp_diagnostic_for l.self database l.diagnostic) all;
      failure : first_failure (map (lsp_failure l.self database l.diagnostic) all) ≡ first_failure
          (map (lsp_failure l.self database l.diagnostic) left);
    }
