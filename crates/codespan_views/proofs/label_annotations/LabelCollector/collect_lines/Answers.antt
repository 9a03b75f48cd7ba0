use Rattle.codespan_core.proofs.Std.{common_steps, rules, ◌≡◌, ℕ, Bool, true, ◌&&◌}
use Rattle.codespan_core.proofs.Std.{◌+◌, ◌<◌, ◌≤◌, Some, Err, refl, ap, ◌∙◌}
use Rattle.codespan_core.proofs.Std.{arith, nat_tests, err_from_is_err_and, nat_cmp}
use Rattle.std.specs.Ordering.{partial_le, partial_lt}
use Rattle.codespan_core.specs.Lemmas.Lines.{line_of_below}
use Rattle.codespan_views.specs.declared.label_annotations.LabelCollector.{LabelCollector}
use Rattle.codespan_views.specs.Private.{label_of_collector, IsFarInside}
use Rattle.codespan_views.specs.Private.{line_failure_unless_past_end}
use contract.Lifetimes.{Lfts}
use Rattle.codespan_views.proofs.Labels.Contexts.{CollectsLabel, CollectsLines, HasEnds}
use Rattle.codespan_views.proofs.Labels.Contexts.{collected-start, collected-context}
use Rattle.codespan_views.proofs.Labels.Contexts.{collected-reach, collected-failed, collected-line}
use Rattle.codespan_views.proofs.label_annotations.LabelCollector.collect_lines.Given.{Over}
use Rattle.codespan_views.proofs.label_annotations.LabelCollector.collect_lines.Goals.{After-contains}
use Rattle.codespan_views.proofs.label_annotations.LabelCollector.collect_lines.Goals.{Else-not-branch}
use Rattle.codespan_views.proofs.label_annotations.LabelCollector.collect_lines.Goals as goal

-- its file has its first line and its last one
has_ends : (g : Over) (κs : Lfts 10) → g.claim κs
    → (collector : LabelCollector g.row.F.Denot g.row.F-FileId.Denot g.row.F-Name.Denot
    g.row.F-Source.Denot)
    → HasEnds (label_of_collector g.F.Files.database collector)
has_ends g κs claim collector =
    let x = label_of_collector g.F.Files.database collector in
    let some = ((g.met.F.Files κs claim).lawful collector.file.files.now x.file_id).has_line in
    record {
      first = line_of_below x.file.starts x.label.start some;
      last = line_of_below x.file.starts x.label.end some;
    }

pub loop-index-init : goal.loop-index-init
loop-index-init g c = record {
  lines = collected-start (has_ends g c.lifetimes (search rules) c.args.self.now)
      (omega (arith, c.min-index-counter.ensures, c.requires.last))
      (omega (
        arith,
        c.min-index-counter.ensures,
        c.saturating_sub-first.ensures,
        c.requires.first,
      ));
  files = refl;
}

-- the test of a range
in_range : (a b k : ℕ) (is_in : Bool)
    → is_in
    ≡ (partial_le (λ x y. Some (nat_cmp x y)) a k && partial_lt (λ x y. Some (nat_cmp x y))
    k b)
    → is_in ≡ true → (a ≤ k) × (k < b)
in_range a b k is_in is is_true = grind (arith, nat_tests)

-- a line that is far from the ends is inside the label
is_far_inside : (g : Over) (c : After-contains g) → c.contains.result ≡ true
    → IsFarInside c.args.self.now.config.now c.args.self.now.span.first c.args.self.now.span.last
    c.loop-index.index-counter
is_far_inside g c far = c.far_lines-far.ensures _ (in_range _ _ _ _ c.contains.ensures.value far).0
    (in_range _ _ _ _ c.contains.ensures.value far).1

pub collect_line-requires : goal.collect_line-requires
collect_line-requires g c κs = (
  (refl, (refl, (refl, (refl, tt)))),
  (is_far_inside g (goal.at.collect_line-requires g c).After-contains, c.requires),
)

pub returns-in_err-collect_line-clause-failed : goal.returns-in_err-collect_line-clause-failed
returns-in_err-collect_line-clause-failed g c =
    let collector = c.args.self.now in
    let x = label_of_collector g.F.Files.database collector in
    let p = err_from_is_err_and c.from_residual.result c.from_residual.ensures.1 in
    rw (p.1 ∙ ap Err p.2) (λ known. let failed = c.in_err-collect_line.ensures.failed known in
    collected-failed {x = x} c.loop-index.invariant.lines
    (has_ends g c.lifetimes (search rules) collector) failed.0
    (ap (λ k. line_failure_unless_past_end x.file (x.failure x.file_id) k
    c.loop-index.index-counter) c.requires.last
    ∙ failed.1))

-- the file has no more lines
no_more : (g : Over) (c : goal.Then-not-branch g)
    → CollectsLabel (label_of_collector g.F.Files.database c.args.self.now)
    c.args.collected.now.annotations.items c.collect_line.new.collected.annotations.items
    c.args.collected.now.padding c.collect_line.new.collected.padding
no_more g c =
    let known = c.in_ok-collect_line.ensures in
    let ended = known.ended c.if-not-branch.true in
    rw (known.unchanged c.if-not-branch.true)
    (collected-context {x = label_of_collector g.F.Files.database c.args.self.now}
    c.loop-index.invariant.lines ended.0 ended.1)

pub returns-then-not-branch-clause-added : goal.returns-then-not-branch-clause-added
returns-then-not-branch-clause-added g c = grind (arith, common_steps, no_more)

pub returns-then-not-branch-clause-padding : goal.returns-then-not-branch-clause-padding
returns-then-not-branch-clause-padding g c = (no_more g c).counted

pub returns-then-not-branch-clause-failed : goal.returns-then-not-branch-clause-failed
returns-then-not-branch-clause-failed g c = (no_more g c).succeeded

-- one more line is done with
one_more : (g : Over) (c : goal.Else-not-branch g)
    → CollectsLines (label_of_collector g.F.Files.database c.args.self.now)
    c.args.collected.now.annotations.items c.collect_line.new.collected.annotations.items
    c.args.collected.now.padding c.collect_line.new.collected.padding
    (c.loop-index.index-counter + 1)
one_more g c =
    let x = label_of_collector g.F.Files.database c.args.self.now in
    let on = c.if-not-branch.false in
    let known = c.in_ok-collect_line.ensures in
    collected-line {x = x} c.loop-index.invariant.lines
    (has_ends g c.lifetimes (search rules) c.args.self.now)
    (omega (
      arith,
      c.loop-index-test.true,
      c.max-index-end.ensures,
      c.saturating_add-last.ensures,
      c.requires.first,
      c.requires.last,
    ))
    (known.inside on) (known.added on) (known.padding on) (known.succeeded on)

pub loop-index-preserved : goal.loop-index-preserved
loop-index-preserved g c = grind (arith, common_steps, one_more)

-- the last line is done with
all_done : (g : Over) (c : goal.Else-not-branch g) → c.max-index-end.result
    ≤ c.loop-index.index-counter
    → CollectsLabel (label_of_collector g.F.Files.database c.args.self.now)
    c.args.collected.now.annotations.items c.collect_line.new.collected.annotations.items
    c.args.collected.now.padding c.collect_line.new.collected.padding
all_done g c at_last =
    let x = label_of_collector g.F.Files.database c.args.self.now in
    let claim : g.claim c.lifetimes = search rules in
    let files = g.met.F.Files c.lifetimes claim in
    collected-reach {x = x} (one_more g c)
    (omega (arith, at_last, c.max-index-end.ensures, c.requires.first))
    (omega
    (arith, at_last, c.max-index-end.ensures, c.saturating_add-last.ensures, c.requires.last))
    (omega (arith, c.max-index-end.ensures, c.loop-index-test.true))
    (files.lawful c.args.self.now.file.files.now x.file_id)
    (files.past_last_line c.args.self.now.file.files.now x.file_id _)

pub returns-else-not-branch-clause-added : goal.returns-else-not-branch-clause-added
returns-else-not-branch-clause-added g c = grind (arith, common_steps, all_done)

pub returns-else-not-branch-clause-padding : goal.returns-else-not-branch-clause-padding
returns-else-not-branch-clause-padding g c =
    (all_done g (goal.at.returns-else-not-branch-clause-padding g c).Else-not-branch
    (search rules)).counted

pub returns-else-not-branch-clause-failed : goal.returns-else-not-branch-clause-failed
returns-else-not-branch-clause-failed g c =
    (all_done g (goal.at.returns-else-not-branch-clause-failed g c).Else-not-branch
    (search rules)).succeeded
