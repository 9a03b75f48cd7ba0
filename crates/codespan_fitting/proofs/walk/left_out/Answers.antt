use Rattle.codespan_core.proofs.Std.{◌≡◌, ◌-◌, ◌<◌, ap, ◌∙◌, sym, subst, take}
use Rattle.codespan_core.proofs.Std.{arith, IsCharBoundary}
use Rattle.codespan_fitting.specs.Walks.{first_count, last_count, text_units}
use Rattle.codespan_fitting.proofs.LeftOutTexts.{more-ranges, same-ranges, text-few, text-more}
use Rattle.codespan_fitting.proofs.SplitUnits.{text-split, units-le}
use Rattle.codespan_fitting.proofs.walk.left_out.Goals as goal
use Rattle.codespan_fitting.proofs.walk.left_out.Goals.{After-result-2-1, in-Some, in-None}

pub range_from-rest-requires : goal.range_from-rest-requires
range_from-rest-requires c some =
    let s = text-split c.args.tab_width c.args.text.now
    (first_count c.args.is_after_needed c.args.radius
    (text_units c.args.tab_width c.args.text.now))
    c.utf8.text in
    subst (IsCharBoundary c.args.text.now) (sym c.first_kept-start.ensures.bytes) s.boundary

pub range-requires-clause-end_boundary : goal.range-requires-clause-end_boundary
range-requires-clause-end_boundary c =
    let s = text-split c.args.tab_width c.range_from-rest.result.now
    (last_count c.args.is_before_needed c.args.radius
    (text_units c.args.tab_width c.range_from-rest.result.now))
    c.range_from-rest.utf8 in
    subst (IsCharBoundary c.range_from-rest.result.now) (sym c.last_kept-end.ensures.bytes)
    s.boundary

pub returns-clause-longer : goal.returns-clause-longer
returns-clause-longer c =
    elim c.match-cells_of_few.branch [
      | in-Some w ↦ rw w.result-is (λ h. absurd (omega (arith, h)))
      | in-None w ↦
          rw w.result-is
          (λ h.
          omega (
            arith,
            w.in-None.ensures.more,
            units-le c.args.tab_width c.range.result.now c.range.utf8,
            c.range.ensures.len,
          ))
    ]

-- the text between is the first part of the rest
middle : (c : After-result-2-1)
    → c.range.result.now ≡ take c.last_kept-end.result.0 c.range_from-rest.result.now
middle c =
    let n : c.last_kept-end.result.0 - 0 ≡ c.last_kept-end.result.0 = omega arith in
    c.range.ensures.value ∙ ap (λ n. take n c.range_from-rest.result.now) n

pub returns-clause-cells : goal.returns-clause-cells
returns-clause-cells c =
    elim c.match-cells_of_few.branch [
      | in-Some w ↦
          let all = text-few c.args.tab_width c.args.radius c.args.is_after_needed
          c.args.is_before_needed c.args.text.now c.range_from-rest.result.now c.range.result.now
          c.first_kept-start.result.0 c.first_kept-start.result.1 c.last_kept-end.result.0
          c.last_kept-end.result.1 c.utf8.text c.range_from-rest.utf8
          c.first_kept-start.ensures.bytes c.first_kept-start.ensures.cells
          c.range_from-rest.ensures.value c.last_kept-end.ensures.bytes
          c.last_kept-end.ensures.cells (middle c) w.in-Some.cells w.in-Some.ensures.few
          w.in-Some.ensures.at_most in
          rw w.result-is all.0
      | in-None w ↦
          let all = text-more c.args.tab_width c.args.radius c.args.is_after_needed
          c.args.is_before_needed c.args.text.now c.range_from-rest.result.now c.range.result.now
          c.first_kept-start.result.0 c.first_kept-start.result.1 c.last_kept-end.result.0
          c.last_kept-end.result.1 c.utf8.text c.range_from-rest.utf8
          c.first_kept-start.ensures.bytes c.first_kept-start.ensures.cells
          c.range_from-rest.ensures.value c.last_kept-end.ensures.bytes
          c.last_kept-end.ensures.cells (middle c) w.in-None.ensures.more in
          rw w.result-is all.0
    ]

pub returns-clause-ranges : goal.returns-clause-ranges
returns-clause-ranges c =
    elim c.match-cells_of_few.branch [
      | in-Some w ↦
          let all = text-few c.args.tab_width c.args.radius c.args.is_after_needed
          c.args.is_before_needed c.args.text.now c.range_from-rest.result.now c.range.result.now
          c.first_kept-start.result.0 c.first_kept-start.result.1 c.last_kept-end.result.0
          c.last_kept-end.result.1 c.utf8.text c.range_from-rest.utf8
          c.first_kept-start.ensures.bytes c.first_kept-start.ensures.cells
          c.range_from-rest.ensures.value c.last_kept-end.ensures.bytes
          c.last_kept-end.ensures.cells (middle c) w.in-Some.cells w.in-Some.ensures.few
          w.in-Some.ensures.at_most in
          rw w.result-is (same-ranges c.first_kept-start.result.0 ∙ all.1)
      | in-None w ↦
          let all = text-more c.args.tab_width c.args.radius c.args.is_after_needed
          c.args.is_before_needed c.args.text.now c.range_from-rest.result.now c.range.result.now
          c.first_kept-start.result.0 c.first_kept-start.result.1 c.last_kept-end.result.0
          c.last_kept-end.result.1 c.utf8.text c.range_from-rest.utf8
          c.first_kept-start.ensures.bytes c.first_kept-start.ensures.cells
          c.range_from-rest.ensures.value c.last_kept-end.ensures.bytes
          c.last_kept-end.ensures.cells (middle c) w.in-None.ensures.more in
          let some : 0 < c.last_kept-end.result.0 =
          omega (
            arith,
            w.in-None.ensures.more,
            units-le c.args.tab_width c.range.result.now c.range.utf8,
            c.range.ensures.len,
          ) in
          rw w.result-is
          (more-ranges c.first_kept-start.result.0 c.last_kept-end.result.0 some ∙ all.1)
    ]
