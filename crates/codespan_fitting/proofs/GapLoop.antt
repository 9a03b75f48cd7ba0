-- For `refill_gaps`: the spans one after another.
use Rattle.codespan_core.proofs.Std.{◌≡◌, ℕ, ◌+◌, ◌-◌, ◌<◌, ◌≤◌, true, false}
use Rattle.codespan_core.proofs.Std.{not, ◌==◌, List, [], ◌∷◌, ◌++◌, length, drop}
use Rattle.codespan_core.proofs.Std.{refl, ap, sym, ◌∙◌, subst, arith, max, ⊎_elim}
use Rattle.codespan_core.proofs.Std.{◌⊎◌, inl, cases_lt, append-nil, IsUtf8}
use Rattle.codespan_core.proofs.Std.{le-ltb, chars, slice_range, take_all, length-drop}
use Rattle.std.proofs.lemmas.Str.{IsCharBoundary-end, chars-nil}
use Rattle.std.proofs.lemmas.List.{drop_all}
use Rattle.codespan_output.specs.FittedParts.{TextUnit, Gap, is_needed, parts_from}
use Rattle.codespan_output.specs.FittedParts.{unit_bytes, unit_cells}
use Rattle.codespan_fitting.specs.Parts.{gap_between, gaps_from, needed_cells}
use Rattle.codespan_fitting.specs.Units.{end_of, start_of}
use Rattle.codespan_fitting.specs.Walks.{BeginsUnit, text_units}
use Rattle.codespan_fitting.proofs.GapSteps.{AreFrom, from-needed, gap-units}
use Rattle.codespan_fitting.proofs.GapSteps.{nothing-between, parts_after, span-after, span-inside}
use Rattle.codespan_fitting.proofs.GapSteps.{span-units, step-over, units_after, units_between}
use Rattle.codespan_fitting.proofs.NeededUnits.{start-most}
use Rattle.codespan_fitting.proofs.PartSteps.{NoneNeeded, each-back, each-both}
use Rattle.codespan_fitting.proofs.PartSteps.{each-front, none-append, none-parts}
use Rattle.codespan_fitting.proofs.UnitCuts.{IsCut, between-bytes, cut-between, cut-end_of}
use Rattle.codespan_fitting.proofs.UnitCuts.{cut-start, cut-start_of}

-- a loop over spans: those passed need no unit from `shown` on, and one begins there
pub record IsShown (tab : ℕ) (text : List ℕ) (passed : List (ℕ × ℕ)) (shown : ℕ) : Type 0
  where
    pub cut : IsCut tab text shown
    pub none : NoneNeeded passed shown (units_after tab text shown)

module _ (tab : ℕ) (text : List ℕ) (utf8 : IsUtf8 text) (spans xs : List (ℕ × ℕ))
    (s : ℕ × ℕ) (ys : List (ℕ × ℕ)) (split : spans ≡ xs ++ s ∷ ys) (later : AreFrom s.0 ys)
    (start end shown : ℕ)
    (start-is : start ≡ start_of 0 s.0 (text_units tab text))
    (end-is : end ≡ end_of 0 s.1 (text_units tab text)) (h : IsShown tab text xs shown) where
  -- a span of which no unit is new
  pub shown-skip : (end ≤ shown) ⊎ (end ≤ start) → IsShown tab text (xs ++ s ∷ []) shown
  shown-skip past = record {
    cut = h.cut;
    none =
        each-both (λ p q. is_needed xs p q ≡ false) (λ p q. is_needed (s ∷ []) p q ≡ false)
        (λ p q. is_needed (xs ++ s ∷ []) p q ≡ false) (none-append xs (s ∷ [])) shown
        (units_after tab text shown) h.none
        (span-after tab text utf8 spans s start end start-is end-is shown h.cut past);
  }

  start-cut : IsCut tab text start
  start-cut = subst (IsCut tab text) (sym start-is) (cut-start_of tab text s.0 utf8)

  end-cut : IsCut tab text end
  end-cut = subst (IsCut tab text) (sym end-is) (cut-end_of tab text s.1 utf8)

  -- one of which some are
  pub shown-more : shown < end → IsShown tab text (xs ++ s ∷ []) end
  shown-more some = record {
    cut = end-cut;
    none =
        each-both (λ p q. is_needed xs p q ≡ false) (λ p q. is_needed (s ∷ []) p q ≡ false)
        (λ p q. is_needed (xs ++ s ∷ []) p q ≡ false) (none-append xs (s ∷ [])) end
        (units_after tab text end)
        (each-back (λ p q. is_needed xs p q ≡ false) shown end (units_between tab text shown end)
        (units_after tab text end)
        (omega (
          arith,
          between-bytes tab text shown end utf8 h.cut end-cut (omega (arith, some)),
          some,
        ))
        (subst (NoneNeeded xs shown)
        (cut-between tab text shown end utf8 h.cut end-cut (omega (arith, some)))
        h.none))
        (span-after tab text utf8 spans s start end start-is end-is end end-cut
        (inl (omega arith)));
  }

  -- what is before its units need not be shown
  none-before : shown ≤ start → NoneNeeded spans shown (units_between tab text shown start)
  none-before order =
      subst (λ ss. NoneNeeded ss shown (units_between tab text shown start)) (sym split)
      (each-both (λ p q. is_needed xs p q ≡ false) (λ p q. is_needed (s ∷ ys) p q ≡ false)
      (λ p q. is_needed (xs ++ s ∷ ys) p q ≡ false) (none-append xs (s ∷ ys)) shown
      (units_between tab text shown start)
      (each-front (λ p q. is_needed xs p q ≡ false) shown (units_between tab text shown start)
      (units_after tab text start)
      (subst (NoneNeeded xs shown)
      (cut-between tab text shown start utf8 h.cut start-cut order) h.none))
      (span-units tab text utf8 spans (s ∷ ys) start
      (λ p q high. from-needed s.0 (s ∷ ys) p q (omega arith, later)
      (omega (arith, high, start-is, start-most 0 s.0 (text_units tab text) (omega arith))))
      shown h.cut start-cut order))

  -- what the parts have of it
  pub record IsAdded : Type 0 where
    pub gaps : gaps_from shown (parts_after tab text spans shown)
        ≡ gap_between tab text shown start true ++ gaps_from end (parts_after tab text spans end)
    pub cells : needed_cells (parts_after tab text spans shown)
        ≡ unit_cells (units_between tab text (max shown start) end)
        + needed_cells (parts_after tab text spans end)

  pub added : start < end → shown < end → IsAdded
  added some new =
      ⊎_elim
      (λ low.
      let m : max shown start ≡ start = omega (arith, low) in
      let order : shown ≤ start = omega (arith, low) in
      let step = step-over tab text utf8 spans shown start end h.cut start-cut end-cut order some
      (none-before order)
      (span-inside tab text utf8 spans s start end start-is end-is xs ys split start end start-cut
      end-cut (omega (arith, some)) (omega arith) (omega arith)) in
      record {
        gaps =
            step.gaps
            ∙ ap (λ gs. gs ++ gaps_from end (parts_after tab text spans end))
            (sym (gap-units tab text utf8 spans shown start true h.cut start-cut order));
        cells = rw m step.cells;
      })
      (λ high.
      let m : max shown start ≡ shown = omega (arith, high) in
      let nothing = nothing-between tab text utf8 spans shown in
      let step = step-over tab text utf8 spans shown shown end h.cut h.cut end-cut (omega arith) new
      (subst (NoneNeeded spans shown) (sym nothing) tt)
      (span-inside tab text utf8 spans s start end start-is end-is xs ys split shown end h.cut
      end-cut (omega (arith, new)) high (omega arith)) in
      record {
        gaps =
            step.gaps
            ∙ ap (λ us. gaps_from shown (Gap (not (shown == 0)) true us ∷ [])
            ++ gaps_from end (parts_after tab text spans end))
            nothing
            ∙ rw (le-ltb shown start high) refl;
        cells = rw m step.cells;
      })
      (cases_lt shown start)

-- before the first span
none-of-none : (at : ℕ) (us : List TextUnit) → NoneNeeded [] at us
none-of-none at [] = tt
none-of-none at (u ∷ us) = (refl, none-of-none (at + u.bytes) us)

pub shown-start : (tab : ℕ) (text : List ℕ) → IsUtf8 text → IsShown tab text [] 0
shown-start tab text utf8 =
    record { cut = cut-start tab text utf8; none = none-of-none 0 (units_after tab text 0) }

-- after the last span
pub record IsRest (tab : ℕ) (text : List ℕ) (spans : List (ℕ × ℕ)) (shown : ℕ) : Type 0 where
  pub gaps : gaps_from shown (parts_after tab text spans shown)
      ≡ gap_between tab text shown (length text) false
  pub cells : needed_cells (parts_after tab text spans shown) ≡ 0

pub shown-rest : (tab : ℕ) (text : List ℕ) (spans : List (ℕ × ℕ)) (shown : ℕ) → IsUtf8 text
    → IsShown tab text spans shown → IsRest tab text spans shown
shown-rest tab text spans shown utf8 h =
    let parts : parts_after tab text spans shown
    ≡ Gap (not (shown == 0)) false (units_after tab text shown) ∷ [] =
    ap (parts_from spans (not (shown == 0)) [] shown)
    (sym (append-nil (units_after tab text shown)))
    ∙ none-parts spans (not (shown == 0)) [] shown (shown + unit_bytes (units_after tab text shown))
    (units_after tab text shown) [] refl h.none in
    let all : slice_range text shown (length text) ≡ drop shown text =
    take_all (length text - shown) (drop shown text) (omega (arith, length-drop shown text)) in
    record {
      gaps =
          ap (gaps_from shown) parts
          ∙ ap (λ xs. gaps_from shown (Gap (not (shown == 0)) false (text_units tab xs) ∷ []))
          (sym all)
          ∙ sym
          (gap-units tab text utf8 spans shown (length text) false h.cut end-of-text
          h.cut.boundary.0);
      cells = ap needed_cells parts;
    }
  where
    end-of-text : IsCut tab text (length text)
    end-of-text = record {
      boundary = IsCharBoundary-end text;
      begins = λ _.
          subst (BeginsUnit tab)
          (sym (ap chars (drop_all (length text) text (omega arith)) ∙ chars-nil)) tt;
    }
