-- For `moved`: the search among the cuts of pieces stops at the last one that starts at a byte
-- index or before it.
use Rattle.codespan_core.proofs.Std.{◌≡◌, ℕ, zero, suc, ◌-◌, ◌<◌, ◌≤◌, List, []}
use Rattle.codespan_core.proofs.Std.{◌∷◌, length, get_or, leb, true, false, map, ap, sym}
use Rattle.codespan_core.proofs.Std.{◌∙◌, subst, arith, length-map, nat_tests}
use Rattle.std.specs.List.Sorted.{IsPartitionPoint, IsPartitionedBy, IsNonDecreasingBy}
use Rattle.std.proofs.Math.ListN.{get_or-map}
use Rattle.std.proofs.lemmas.List.Sorted.{IsPartitionedBy-leb}
use Rattle.codespan_output.specs.FittedParts.{Piece}
use Rattle.codespan_output.specs.FittedLines.{moved}
use Rattle.codespan_fitting.specs.declared.cut.Cut.{Cut}
use Rattle.codespan_fitting.specs.Cuts.{AreCutsOf, CutModel, cut_view, cuts_from}
use Rattle.codespan_fitting.specs.Cuts.{moved_after}
use Rattle.codespan_fitting.proofs.CutLemmas.MovedIndices.{AreInOrder, cuts-order, moved-last}
use Rattle.codespan_fitting.proofs.CutLemmas.MovedIndices.{moved-none, starts-rise}

-- the search stops at this index: before it the cuts start at `x` or before, from it on after that
abbrev pub StopsAt : List Cut → ℕ → ℕ → Type 0
StopsAt cuts x i =
    IsPartitionPoint (λ (c : Cut). leb c.start x ≡ true) (λ (c : Cut). leb c.start x ≡ false)
    cuts i

-- the cuts of pieces can be searched
pub cuts-parted : (ps : List Piece) (cuts : List Cut) (x : ℕ) → AreCutsOf ps cuts
    → IsPartitionedBy (λ (c : Cut). leb c.start x) cuts
cuts-parted ps cuts x are =
    let order : AreInOrder 0 (map cut_view cuts) =
    subst (λ cs. AreInOrder 0 cs) (sym are) (cuts-order 0 0 ps) in
    let rise : IsNonDecreasingBy (λ (c : Cut). c.start) cuts = λ i j d low short.
    let same = λ (k : ℕ). ap (λ (c : CutModel). c.start) (get_or-map cut_view cuts k d) in
    omega (
      arith,
      same i,
      same j,
      starts-rise 0 (map cut_view cuts) (cut_view d) order i j low
          (omega (arith, length-map cuts cut_view, short)),
    ) in
    IsPartitionedBy-leb (λ (c : Cut). c.start) cuts x rise

-- where it stops at the first cut
pub search-none : (ps : List Piece) (cuts : List Cut) (x : ℕ) → AreCutsOf ps cuts
    → StopsAt cuts x 0 → x ≡ moved ps x
search-none ps [] x are point =
    let d : CutModel = record { start = 0; end = 0; dots = 0 } in
    let none : 0 ≡ length (cuts_from 0 0 ps) = ap length are in
    moved-none ps x d (λ some. absurd (omega (arith, none, some)))
search-none ps (c ∷ cs) x are point =
    let start : c.start ≡ (get_or (cuts_from 0 0 ps) 0 (cut_view c)).start =
    ap (λ l. (get_or l 0 (cut_view c)).start) are in
    let test = point.1 0 c (omega arith) (omega arith) in
    let high : x < c.start = grind (arith, nat_tests) in
    moved-none ps x (cut_view c) (λ some. omega (arith, start, high))

-- where it stops after another
pub search-last : (ps : List Piece) (cuts : List Cut) (x i : ℕ) (c : Cut) → AreCutsOf ps cuts
    → StopsAt cuts x i → 0 < i → i ≤ length cuts → c ≡ get_or cuts (i - 1) c
    → moved_after (cut_view c) x ≡ moved ps x
search-last ps cuts x zero c are point some most is = absurd (omega (arith, some))
search-last ps cuts x (suc j) c are point some most is =
    let at : suc j - 1 ≡ j = omega arith in
    let size : length cuts ≡ length (cuts_from 0 0 ps) =
    sym (length-map cuts cut_view) ∙ ap length are in
    let same = λ (k : ℕ).
    sym (get_or-map cut_view cuts k c) ∙ ap (λ l. get_or l k (cut_view c)) are in
    let here : c ≡ get_or cuts j c = is ∙ ap (λ k. get_or cuts k c) at in
    let last : cut_view c ≡ get_or (cuts_from 0 0 ps) j (cut_view c) =
    ap cut_view here ∙ same j in
    let low-test = point.0 j c (omega arith) (omega arith) in
    let low : (get_or cuts j c).start ≤ x = grind (arith, nat_tests) in
    let low-view : (get_or (cuts_from 0 0 ps) j (cut_view c)).start ≤ x =
    subst (λ (v : CutModel). v.start ≤ x) (same j) low in
    let high : suc j < length (cuts_from 0 0 ps)
    → x < (get_or (cuts_from 0 0 ps) (suc j) (cut_view c)).start = λ more.
    let test = point.1 (suc j) c (omega arith) (omega (arith, size, more)) in
    let after : x < (get_or cuts (suc j) c).start = grind (arith, nat_tests) in
    subst (λ (v : CutModel). x < v.start) (same (suc j)) after in
    ap (λ v. moved_after v x) last
    ∙ moved-last ps x j (cut_view c) (omega (arith, size, most)) low-view high
