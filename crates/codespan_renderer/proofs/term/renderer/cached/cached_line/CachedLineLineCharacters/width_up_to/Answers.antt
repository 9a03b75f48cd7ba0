use Rattle.codespan_core.proofs.Std.{◌≡◌, true, false, leb, arith, rules, ap, ◌∙◌}
use Rattle.codespan_core.proofs.Std.{nat_tests}
use Rattle.std.specs.List.Sorted.{IsPartitionPoint}
use Rattle.std.proofs.lemmas.List.Sorted.{IsPartitionedBy-leb, IsNonDecreasingBy-from_default}
use Rattle.std.proofs.lemmas.List.Sorted.{IsPartitionPoint-from_clause}
use Rattle.codespan_output.specs.declared.char_metrics.Metrics.{Metrics}
use Rattle.codespan_renderer.proofs.WidthSearch.{default_metrics, cached-cut, cached-past}
use Rattle.codespan_renderer.proofs.WidthSearch.{cached-ascends}
use Rattle.codespan_renderer.proofs.term.renderer.cached.cached_line.CachedLineLineCharacters.width_up_to.Goals.{After-partition_point-count}
use Rattle.codespan_renderer.proofs.term.renderer.cached.cached_line.CachedLineLineCharacters.width_up_to.Goals as goal

-- as many characters as were counted begin at the byte index or before it, and the others after it
point : (c : After-partition_point-count) → IsPartitionPoint
    (λ (x : Metrics). leb x.byte_index c.args.byte_index ≡ true)
    (λ (x : Metrics). leb x.byte_index c.args.byte_index ≡ false) c.args.self.now.cached.now
    c.partition_point-count.result
point c =
    let s = c.args.self.now in
    let rises =
    IsNonDecreasingBy-from_default (λ (x : Metrics). x.byte_index) s.cached.now default_metrics
    (cached-ascends s.tab_width s.line.text.now s.cached.now s.rest s.are_cached) in
    let parted =
    IsPartitionedBy-leb (λ (x : Metrics). x.byte_index) s.cached.now c.args.byte_index rises in
    IsPartitionPoint-from_clause (λ (x : Metrics). leb x.byte_index c.args.byte_index) _ _
    c.partition_point-count.ensures.partitioned parted (λ a r q k. search rules)

pub returns-in-Some : goal.returns-in-Some
returns-in-Some c =
    let s = c.args.self.now in
    let found = c.in-Some.ensures.lookup in
    ap (λ (x : Metrics). x.column) found.1
    ∙ cached-cut s.tab_width s.line.text.now s.cached.now s.rest c.args.byte_index
    c.partition_point-count.result _ s.are_cached
    (point (goal.at.returns-in-Some c).After-partition_point-count)
    (let test = found.0 in grind (arith, nat_tests))

pub returns-in-None : goal.returns-in-None
returns-in-None c =
    let s = c.args.self.now in
    let found = c.in-None.ensures.lookup in
    c.column_past.ensures
    ∙ cached-past s.tab_width s.line.text.now s.cached.now s.rest c.args.byte_index
    c.partition_point-count.result default_metrics s.are_cached
    (point (goal.at.returns-in-None c).After-partition_point-count)
    (let test = found.0 in grind (arith, nat_tests))
