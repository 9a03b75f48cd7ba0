use Rattle.codespan_core.proofs.Std.{◌≡◌, ◌++◌, ◌∷◌, [], ◌-◌, ◌<◌, List}
use Rattle.codespan_core.proofs.Std.{ℕ, map, length, get_or, sym, ap, ◌∙◌, arith}
use Rattle.codespan_core.proofs.Std.{get_or_default}
use Rattle.std.specs.Borrow.{Bor}
use Rattle.std.proofs.lemmas.List.{map_push}
use Rattle.codespan_edits.proofs.CutLemmas.{cut-all, cut-more, cut-end, cut-none, start-boundary}
use Rattle.codespan_edits.proofs.CutLemmas.{start-before}
use Rattle.codespan_edits.proofs.lines.lines_of.Goals.{then-last-text+in_ok-push-2, else-last-text}
use Rattle.codespan_edits.proofs.lines.lines_of.Goals as goal

-- no line is there yet
pub loop-index-init : goal.loop-index-init
loop-index-init c =
    rw c.in_ok-lines.ensures.items
    (cut-all c.args.text.now c.in_ok-starts.starts.items c.in_ok-starts.ensures.starts)

-- a line starts before the next one, and both start at boundaries of characters
pub range-requires-clause-start_le_end : goal.range-requires-clause-start_le_end
range-requires-clause-start_le_end c =
    let starts = c.in_ok-starts.starts.items in
    let inside : c.loop-index.index < length starts = omega (arith, c.in_ok-starts.starts.ok.0) in
    start-before c.args.text.now starts c.loop-index.index _ _ c.in_ok-starts.ensures.starts
    c.loop-index.auto.index inside
    (c.index.ensures ∙ get_or_default starts (c.loop-index.index - 1) _ 0 (omega arith))
    (c.index-in-loop-index.ensures ∙ get_or_default starts c.loop-index.index _ 0 inside)

pub range-requires-clause-start_boundary : goal.range-requires-clause-start_boundary
range-requires-clause-start_boundary c =
    let starts = c.in_ok-starts.starts.items in
    let inside : c.loop-index.index - 1 < length starts =
    omega (arith, c.in_ok-starts.starts.ok.0) in
    λ _. start-boundary c.args.text.now starts (c.loop-index.index - 1) _ c.utf8.text
    c.in_ok-starts.ensures.starts inside
    (c.index.ensures ∙ get_or_default starts (c.loop-index.index - 1) _ 0 inside)

pub range-requires-clause-end_boundary : goal.range-requires-clause-end_boundary
range-requires-clause-end_boundary c =
    let starts = c.in_ok-starts.starts.items in
    let inside : c.loop-index.index < length starts = omega (arith, c.in_ok-starts.starts.ok.0) in
    start-boundary c.args.text.now starts c.loop-index.index _ c.utf8.text
    c.in_ok-starts.ensures.starts inside
    (c.index-in-loop-index.ensures ∙ get_or_default starts c.loop-index.index _ 0 inside)

-- one more line
pub loop-index-preserved : goal.loop-index-preserved
loop-index-preserved c =
    let starts = c.in_ok-starts.starts.items in
    let inside : c.loop-index.index < length starts = omega (arith, c.in_ok-starts.starts.ok.0) in
    cut-more c.args.text.now starts c.loop-index.index (map (λ x. x.now) c.loop-index.lines.items)
    _ _ c.range.result.now c.loop-index.auto.index inside
    (ap (map (λ x. x.now)) c.in_ok-push.ensures.items
    ∙ map_push (λ x. x.now) c.loop-index.lines.items c.range.result)
    (rw (
      sym (c.index.ensures ∙ get_or_default starts (c.loop-index.index - 1) _ 0 (omega arith)),
      sym (c.index-in-loop-index.ensures ∙ get_or_default starts c.loop-index.index _ 0 inside),
    ) c.range.ensures.value)
    c.loop-index.invariant

-- the last line starts at a boundary too
pub range_from-requires : goal.range_from-requires
range_from-requires c =
    let starts = c.in_ok-starts.starts.items in
    let some : c.len-2.result - 1 < length starts =
    omega (arith, c.in_ok-starts.starts.ok.0, ap length c.in_ok-starts.ensures.starts) in
    λ _. start-boundary c.args.text.now starts (c.len-2.result - 1) _ c.utf8.text
    c.in_ok-starts.ensures.starts some
    (c.index-last.ensures ∙ get_or_default starts (c.len-2.result - 1) _ 0 some)

-- the last line has no newline, or there is none
pub returns-clause-lines : goal.returns-clause-lines
returns-clause-lines c =
    let text = c.args.text.now in
    let starts = c.in_ok-starts.starts.items in
    let done = map (λ (x : Bor (List ℕ)). x.now) c.loop-index.lines.items in
    let some : c.len-2.result - 1 < length starts =
    omega (arith, c.in_ok-starts.starts.ok.0, ap length c.in_ok-starts.ensures.starts) in
    let end : c.loop-index.index ≡ length starts =
    omega (arith, c.in_ok-starts.starts.ok.0, c.loop-index.auto.index-end, some) in
    let last : c.index-last.result.now ≡ get_or starts (length starts - 1) 0 =
    c.index-last.ensures ∙ (get_or_default starts (c.len-2.result - 1) _ 0 some
    ∙ ap (λ n. get_or starts (n - 1) 0) (omega (arith, c.in_ok-starts.starts.ok.0))) in
    elim c.if-last-text.branch [
      | then-last-text+in_ok-push-2 w ↦
          let items : c.if-last-text.lines.items
          ≡ c.loop-index.lines.items ++ w.range_from.result ∷ [] =
          ap (λ v. v.items) w.lines-is ∙ w.in_ok-push-2.ensures.items in
          cut-end text starts c.loop-index.index c.index-last.result.now done _ _
          w.range_from.result.now end last w.if-last-text.true
          (ap (map (λ x. x.now)) items
          ∙ map_push (λ x. x.now) c.loop-index.lines.items w.range_from.result)
          w.range_from.ensures.value c.loop-index.invariant
      | else-last-text w ↦
          ap (λ v. map (λ x. x.now) v.items) w.lines-is
          ∙ cut-none text starts c.loop-index.index c.index-last.result.now done _ end last
          w.if-last-text.false c.loop-index.invariant
    ]
