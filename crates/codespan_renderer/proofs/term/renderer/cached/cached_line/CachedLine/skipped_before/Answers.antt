use Rattle.codespan_core.proofs.Std.{arith, ap, sym, ◌∙◌, nat_tests}
use Rattle.codespan_output.specs.declared.char_metrics.Metrics.{Metrics}
use Rattle.codespan_renderer.proofs.SkippedSearch.{cached-ended, cached-width}
use Rattle.codespan_renderer.proofs.term.renderer.cached.cached_line.CachedLine.skipped_before.Goals as goal

pub returns-in-Some-clause-ended : goal.returns-in-Some-clause-ended
returns-in-Some-clause-ended c =
    let s = c.args.self.now in
    let found = c.in-Some.ensures.lookup in
    cached-ended s.tab_width s.line.text.now s.cached.now s.rest s.are_cached c.args.byte_index
    c.args.byte_index _ (let test = found.0 in grind (arith, nat_tests))
    (sym (ap (λ (x : Metrics). x.byte_index) found.1) ∙ c.if-metrics-byte_index.true)

pub returns-in-Some-clause-width : goal.returns-in-Some-clause-width
returns-in-Some-clause-width c =
    let s = c.args.self.now in
    let found = c.in-Some.ensures.lookup in
    ap (λ (x : Metrics). x.column) found.1
    ∙ cached-width s.tab_width s.line.text.now s.cached.now s.rest s.are_cached
    c.args.byte_index _ (let test = found.0 in grind (arith, nat_tests))
