-- For `refill_cuts`: a step over one gap.
use Rattle.codespan_core.proofs.Std.{◌≡◌, ℕ, ◌+◌, ◌-◌, ◌<◌}
use Rattle.codespan_core.proofs.Std.{List, [], ◌∷◌, ◌++◌, refl, ap, ap₂, sym, ◌∙◌}
use Rattle.codespan_core.proofs.Std.{arith, append_assoc, append-nil}
use Rattle.codespan_output.specs.FittedParts.{Part, Needed, Gap, part_pieces, pieces_of}
use Rattle.codespan_output.specs.FittedParts.{unit_bytes}
use Rattle.codespan_fitting.specs.declared.gap.Gap as gap
use Rattle.codespan_fitting.specs.Cuts.{CutModel, cuts_from}
use Rattle.codespan_fitting.specs.Gaps.{gap_part, placed_gaps}
use Rattle.codespan_fitting.specs.LeftOut.{dot_ranges}
use Rattle.codespan_fitting.specs.Parts.{gaps_from}
use Rattle.codespan_fitting.proofs.PartSums.{empty-gap}
use Rattle.codespan_fitting.proofs.CutLemmas.PieceCuts.{cuts-append, gap-bytes, no-cuts, one-cut}
use Rattle.codespan_fitting.proofs.CutLemmas.PieceCuts.{piece_bytes, shown_bytes}

-- ---- the next gap among parts

-- of parts from byte `at` on, which is byte `shown` of the text that is shown, the first gap with
-- units is this one, and `later` are the parts after it
record IsNextGap (tab r : ℕ) (text : List ℕ) (g : gap.Gap) (rest : List gap.Gap)
    (at shown : ℕ) (parts : List Part) : Type 0 where
  later : List Part
  shown_at : ℕ
  as_far : shown_at + at ≡ shown + g.start
  rest_is : placed_gaps tab text rest
      ≡ gaps_from (g.start + piece_bytes (part_pieces r (gap_part tab text g))) later
  cuts_are : cuts_from at shown (pieces_of r parts)
      ≡ cuts_from g.start shown_at (part_pieces r (gap_part tab text g) ++ pieces_of r later)

next-gap : (tab r : ℕ) (text : List ℕ) (g : gap.Gap) (rest : List gap.Gap) (at shown : ℕ)
    (parts : List Part) → placed_gaps tab text (g ∷ rest) ≡ gaps_from at parts
    → IsNextGap tab r text g rest at shown parts
next-gap tab r text g rest at shown [] are = absurd (cc)
next-gap tab r text g rest at shown (Needed u ∷ ps) are =
    let next = next-gap tab r text g rest (at + u.bytes) (shown + u.bytes) ps are in
    record {
      later = next.later;
      shown_at = next.shown_at;
      as_far = omega (arith, next.as_far);
      rest_is = next.rest_is;
      cuts_are = next.cuts_are;
    }
next-gap tab r text g rest at shown (Gap after before [] ∷ ps) are =
    let next = next-gap tab r text g rest at shown ps are in
    record {
      later = next.later;
      shown_at = next.shown_at;
      as_far = next.as_far;
      rest_is = next.rest_is;
      cuts_are =
          ap (λ qs. cuts_from at shown (qs ++ pieces_of r ps)) (empty-gap r after before)
          ∙ next.cuts_are;
    }
next-gap tab r text g rest at shown (Gap after before (u ∷ us) ∷ ps) are =
    let first : ◌≡◌ {A = ℕ × Part} (g.start, gap_part tab text g)
    (at, Gap after before (u ∷ us)) = cc in
    let start : g.start ≡ at = ap (λ (x : ℕ × Part). x.0) first in
    let part : gap_part tab text g ≡ Gap after before (u ∷ us) =
    ap (λ (x : ℕ × Part). x.1) first in
    let tail : placed_gaps tab text rest ≡ gaps_from (at + unit_bytes (u ∷ us)) ps = cc in
    let bytes = gap-bytes r after before (u ∷ us) in
    record {
      later = ps;
      shown_at = shown;
      as_far = omega (arith, start);
      rest_is =
          tail
          ∙ ap₂ (λ m n. gaps_from (m + n) ps) (sym start)
          (sym bytes ∙ ap (λ p. piece_bytes (part_pieces r p)) (sym part));
      cuts_are =
          ap₂ (λ m p. cuts_from m shown (part_pieces r p ++ pieces_of r ps)) (sym start)
          (sym part);
    }

-- where no gap has units, there are no cuts
no-gaps : (r at shown : ℕ) (parts : List Part) → gaps_from at parts ≡ []
    → cuts_from at shown (pieces_of r parts) ≡ []
no-gaps r at shown [] none = refl
no-gaps r at shown (Needed u ∷ ps) none = no-gaps r (at + u.bytes) (shown + u.bytes) ps none
no-gaps r at shown (Gap after before [] ∷ ps) none =
    ap (λ qs. cuts_from at shown (qs ++ pieces_of r ps)) (empty-gap r after before)
    ∙ no-gaps r at shown ps none
no-gaps r at shown (Gap after before (u ∷ us) ∷ ps) none = absurd (cc)

-- ---- a loop over gaps

-- where it is: it has still these gaps to read, which are those of the parts from byte `at` on, and
-- has pushed the cuts before; by `removed` bytes less are shown
pub record IsCut (tab r : ℕ) (text : List ℕ) (all : List Part) (done : List CutModel)
    (removed : ℕ) (rest : List gap.Gap) : Type 0 where
  pub at : ℕ
  pub shown : ℕ
  pub parts : List Part
  pub gaps_are : placed_gaps tab text rest ≡ gaps_from at parts
  pub bytes : shown + removed ≡ at
  pub cuts_are : done ++ cuts_from at shown (pieces_of r parts) ≡ cuts_from 0 0 (pieces_of r all)

-- at its start
pub cut-start : (tab r : ℕ) (text : List ℕ) (all : List Part) (gaps : List gap.Gap)
    → placed_gaps tab text gaps ≡ gaps_from 0 all → IsCut tab r text all [] 0 gaps
cut-start tab r text all gaps are = record {
  at = 0;
  shown = 0;
  parts = all;
  gaps_are = are;
  bytes = refl;
  cuts_are = refl;
}

-- at its end
pub cut-end : (tab r : ℕ) (text : List ℕ) (all : List Part) (done : List CutModel)
    (removed : ℕ) → IsCut tab r text all done removed []
    → done ≡ cuts_from 0 0 (pieces_of r all)
cut-end tab r text all done removed h =
    sym (append-nil done)
    ∙ ap (λ cs. done ++ cs) (sym (no-gaps r h.at h.shown h.parts (sym h.gaps_are)))
    ∙ h.cuts_are

-- over a gap of which nothing is left out
pub cut-none : (tab r : ℕ) (text : List ℕ) (all : List Part) (done : List CutModel)
    (removed : ℕ) (g : gap.Gap) (rest : List gap.Gap)
    → IsCut tab r text all done removed (g ∷ rest)
    → dot_ranges 0 (part_pieces r (gap_part tab text g)) ≡ []
    → IsCut tab r text all done removed rest
cut-none tab r text all done removed g rest h none =
    let next = next-gap tab r text g rest h.at h.shown h.parts h.gaps_are in
    let ps = part_pieces r (gap_part tab text g) in
    let cuts = no-cuts g.start next.shown_at 0 ps none in
    let later = cuts_from (g.start + piece_bytes ps) (next.shown_at + shown_bytes ps)
    (pieces_of r next.later) in
    record {
      at = g.start + piece_bytes ps;
      shown = next.shown_at + shown_bytes ps;
      parts = next.later;
      gaps_are = next.rest_is;
      bytes = omega (arith, h.bytes, next.as_far, cuts.1);
      cuts_are =
          ap (λ cs. done ++ cs)
          (sym
          (next.cuts_are
          ∙ cuts-append g.start next.shown_at ps (pieces_of r next.later)
          ∙ ap (λ cs. cs ++ later) cuts.0))
          ∙ h.cuts_are;
    }

-- over one of which bytes are left out
pub cut-more : (tab r : ℕ) (text : List ℕ) (all : List Part) (done : List CutModel)
    (removed : ℕ) (g : gap.Gap) (rest : List gap.Gap) (start end : ℕ) (c : CutModel)
    → IsCut tab r text all done removed (g ∷ rest)
    → dot_ranges 0 (part_pieces r (gap_part tab text g)) ≡ (start, end) ∷ []
    → start + 3 < end
    → c ≡ record {
      start = g.start + start;
      end = g.start + end;
      dots = g.start + start - removed;
    }
    → IsCut tab r text all (done ++ c ∷ []) (c.end - (c.dots + 3)) rest
cut-more tab r text all done removed g rest start end c h one long is =
    let next = next-gap tab r text g rest h.at h.shown h.parts h.gaps_are in
    let ps = part_pieces r (gap_part tab text g) in
    let cut = one-cut g.start next.shown_at 0 ps start end one in
    let later = cuts_from (g.start + piece_bytes ps) (next.shown_at + shown_bytes ps)
    (pieces_of r next.later) in
    let first : start - 0 ≡ start = omega arith in
    let last : end - 0 ≡ end = omega arith in
    let dots : g.start + start - removed ≡ next.shown_at + start =
    omega (arith, h.bytes, next.as_far) in
    let same : cuts_from g.start next.shown_at ps ≡ c ∷ [] =
    cut.cut ∙ rw (is, first, last, dots) refl in
    record {
      at = g.start + piece_bytes ps;
      shown = next.shown_at + shown_bytes ps;
      parts = next.later;
      gaps_are = next.rest_is;
      bytes =
          omega (
            arith,
            h.bytes,
            next.as_far,
            cut.bytes,
            long,
            ap (λ (c : CutModel). c.end) is,
            ap (λ (c : CutModel). c.dots) is,
          );
      cuts_are =
          append_assoc done (c ∷ []) later
          ∙ ap (λ cs. done ++ cs)
          (sym
          (next.cuts_are
          ∙ cuts-append g.start next.shown_at ps (pieces_of r next.later)
          ∙ ap (λ cs. cs ++ later) same))
          ∙ h.cuts_are;
    }
