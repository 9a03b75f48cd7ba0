use Rattle.codespan_core.proofs.Std.{◌∙◌, ◌++◌, ◌∷◌, ◌==◌, ◌-◌, ap, sym, subst, refl, arith}
use Rattle.codespan_core.proofs.Std.{map, List, ℕ, Bool, false, length, ◌≡◌, [], inl, inr}
use Rattle.codespan_core.proofs.Std.{nat_tests, get_or, get_or_default, drop, ◌<◌}
use Rattle.codespan_edits.specs.Diffs.{kept, lines}
use Rattle.codespan_edits.specs.Private.Blocks.{Holds}
use Rattle.codespan_edits.proofs.CutLast.{cut-last, last-is, IsLast}
use Rattle.codespan_edits.proofs.KeptLines.{no-bytes}
use Rattle.codespan_edits.proofs.CutLemmas.{start-boundary}
use Rattle.codespan_edits.proofs.blocks.Collector.keep.Goals as goal

-- what is not empty and follows the last newline is a line
one-line : (l : List ℕ) (t : Bool) → IsLast l → t ≡ (length l == 0) → t ≡ false
    → lines l ≡ l ∷ []
one-line l t (inl none) is h =
    let size : length l ≡ 0 = ap length none in absurd (grind (arith, nat_tests, size, is, h))
one-line l t (inr one) is h = one.0

pub range_from-last-requires : goal.range_from-last-requires
range_from-last-requires c =
    let starts = c.in_ok-starts.starts.items in
    let some : c.len.result - 1 < length starts =
    omega (arith, c.in_ok-starts.starts.ok.0, ap length c.in_ok-starts.ensures.starts) in
    λ _. start-boundary c.args.text.now starts (c.len.result - 1) _ c.utf8.text
    c.in_ok-starts.ensures.starts some
    (c.index.ensures ∙ get_or_default starts (c.len.result - 1) _ 0 some)

-- nothing follows the last newline
pub returns-then-is_empty-clause-holds : goal.returns-then-is_empty-clause-holds
returns-then-is_empty-clause-holds c = λ ls all rest ps h.
    let text = c.args.text.now in
    let starts = c.in_ok-starts.starts.items in
    let last = c.range_from-last.result.now in
    let some : c.len.result - 1 < length starts =
    omega (arith, c.in_ok-starts.starts.ok.0, ap length c.in_ok-starts.ensures.starts) in
    let size : c.len.result - 1 ≡ length starts - 1 = omega (arith, c.in_ok-starts.starts.ok.0) in
    let at : c.index.result.now
    ≡ get_or c.deref.result.now (length c.deref.result.now - 1) 0 =
    c.index.ensures ∙ (get_or_default starts (c.len.result - 1) _ 0 some
    ∙ (ap (λ n. get_or starts n 0) size
    ∙ ap (λ xs. get_or xs (length xs - 1) 0) (sym c.deref.ensures.value))) in
    let is = c.range_from-last.ensures.value ∙ ap (λ k. drop k text) at in
    subst (λ l. Holds ls all c.keep_lines.new.self (l ++ rest) (map kept (lines l) ++ ps))
    (no-bytes last last c.is_empty.result refl c.is_empty.ensures c.if-is_empty.true)
    (c.in_ok-keep_lines.ensures.holds ls all rest ps last is h)

-- the last line has none
pub returns-clause-holds : goal.returns-clause-holds
returns-clause-holds c = λ ls all rest ps h.
    let text = c.args.text.now in
    let starts = c.in_ok-starts.starts.items in
    let last = c.range_from-last.result.now in
    let some : c.len.result - 1 < length starts =
    omega (arith, c.in_ok-starts.starts.ok.0, ap length c.in_ok-starts.ensures.starts) in
    let size : c.len.result - 1 ≡ length starts - 1 = omega (arith, c.in_ok-starts.starts.ok.0) in
    let at : c.index.result.now
    ≡ get_or c.deref.result.now (length c.deref.result.now - 1) 0 =
    c.index.ensures ∙ (get_or_default starts (c.len.result - 1) _ 0 some
    ∙ (ap (λ n. get_or starts n 0) size
    ∙ ap (λ xs. get_or xs (length xs - 1) 0) (sym c.deref.ensures.value))) in
    let is = c.range_from-last.ensures.value ∙ ap (λ k. drop k text) at in
    let last_is : IsLast last =
    subst IsLast (sym (is ∙ last-is text c.deref.result.now
    (c.deref.ensures.value ∙ c.in_ok-starts.ensures.starts))) (cut-last 0 text).is_last in
    c.in_ok-push.ensures.holds ls all rest ps
    (subst (λ xs. Holds ls all c.keep_lines.new.self (last ++ rest) (map kept xs ++ ps))
    (one-line last c.is_empty.result last_is c.is_empty.ensures c.if-is_empty.false)
    (c.in_ok-keep_lines.ensures.holds ls all rest ps last is h))
