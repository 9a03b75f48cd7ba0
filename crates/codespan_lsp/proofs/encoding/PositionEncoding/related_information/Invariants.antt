use Rattle.std.proofs.Common.{◌≡◌, ◌++◌, drop, map}
use Rattle.codespan_lsp.specs.LspDiagnostics.{related_view, related_information_of, related_failure}
use Rattle.codespan_lsp.proofs.encoding.PositionEncoding.related_information.Given as goal

-- what is still to come makes the list whole, and fails as the whole does
abbrev pub invariant-loop-label : goal.invariant-loop-label
invariant-loop-label g l =
    let database = g.F.Files.database l.files in
    let left = drop l.label-index l.labels.items in
    record {
      views : map related_view l.related.items ++ related_information_of l.self database left
          ≡ related_information_of
          l.self database l.labels.items;
      failure : related_failure l.self database l.labels.items ≡ related_failure l.self database
          left;
    }
