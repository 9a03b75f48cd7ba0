-- For `FitsOnce`: between what has to be shown of a line that is shortened are at most three units.
use Rattle.codespan_core.proofs.Std.{◌≡◌, ℕ, ◌+◌, ◌-◌, ◌<◌, ◌≤◌, max, Bool, true, false, ◌&&◌}
use Rattle.codespan_core.proofs.Std.{nat_lt, nat_le, List, [], ◌∷◌, ◌++◌, length, drop, refl, sym}
use Rattle.codespan_core.proofs.Std.{ap, subst, ◌∙◌, arith, ⊎_elim, cond_both, append_assoc}
use Rattle.codespan_core.proofs.Std.{false≢true, and_parts, or_cases, ltb-true, AllByRecursion}
use Rattle.codespan_core.proofs.Std.{if◌then◌else◌}
use Rattle.std.proofs.lemmas.Bool.{leb-true}
use Rattle.codespan_output.specs.{TextUnit, Piece, Kept, Dots, Needed, Gap, unit_bytes, is_needed}
use Rattle.codespan_output.specs.{parts_from, part_pieces, pieces_of, moved, piece_units}
use Rattle.codespan_output.proofs.Fitting.Moved.{moved-after_unit, moved-in_unit, moved-after_dots}
use Rattle.codespan_output.proofs.Fitting.NeededBytes.{needed-in, needed-behind, needed-wider}
use Rattle.codespan_output.proofs.Fitting.Pieces.{HaveBytes, gap-units, unit_bytes-append}
use Rattle.codespan_output.proofs.Fitting.ShortGaps.{NoDots, no-dots-append, short-gap, blocks}
use Rattle.codespan_output.proofs.Fitting.ShortGaps.{gap-short}
use Rattle.codespan_output.proofs.Fitting.ShownUnits.{HaveCells, shown_units, dot}

-- ---- where pieces are

shown_units-append : (ps qs : List Piece)
    → shown_units (ps ++ qs) ≡ shown_units ps ++ shown_units qs
shown_units-append [] qs = refl
shown_units-append (Kept u ∷ ps) qs = ap (λ us. u ∷ us) (shown_units-append ps qs)
shown_units-append (Dots us ∷ ps) qs = ap (λ vs. dot ∷ dot ∷ dot ∷ vs) (shown_units-append ps qs)

-- behind pieces the others say where bytes are moved to
moved-append : (ps qs : List Piece) (x : ℕ)
    → moved (ps ++ qs) (unit_bytes (piece_units ps) + x)
    ≡ unit_bytes (shown_units ps) + moved qs x
moved-append [] qs x = let e : 0 + x ≡ x = omega arith in omega (arith, ap (moved qs) e)
moved-append (Kept u ∷ ps) qs x =
    let bytes = unit_bytes (piece_units ps) in
    let e : u.bytes + bytes + x - u.bytes ≡ bytes + x = omega arith in
    omega (
      arith,
      moved-after_unit u (ps ++ qs) (u.bytes + bytes + x) (omega arith),
      ap (moved (ps ++ qs)) e,
      moved-append ps qs x,
    )
moved-append (Dots us ∷ ps) qs x =
    let bytes = unit_bytes (piece_units ps) in
    let split = unit_bytes-append us (piece_units ps) in
    let e : unit_bytes (us ++ piece_units ps) + x ≡ unit_bytes us + bytes + x = omega arith in
    let f : unit_bytes us + bytes + x - unit_bytes us ≡ bytes + x = omega arith in
    omega (
      arith,
      ap (moved (Dots us ∷ ps ++ qs)) e,
      moved-after_dots us (ps ++ qs) (unit_bytes us + bytes + x) (omega arith),
      ap (moved (ps ++ qs)) f,
      moved-append ps qs x,
    )

-- ---- needed bytes

-- no span ends before it starts
abbrev pub Ordered : List (ℕ × ℕ) → Type 0
Ordered ss = AllByRecursion (λ (s : ℕ × ℕ). s.0 ≤ s.1) ss

-- a byte that is needed, of these
pub record NeededByte (spans : List (ℕ × ℕ)) (start end : ℕ) : Type 0 where
  pub y : ℕ
  pub least : start ≤ y
  pub most : y < end
  pub needed : is_needed spans y (y + 1) ≡ true

byte-in : (spans : List (ℕ × ℕ)) → Ordered spans → (start end : ℕ) → start < end
    → is_needed spans start end ≡ true → NeededByte spans start end
byte-in [] o start end less h = absurd (false≢true h)
byte-in (s ∷ ss) o start end less h =
    ⊎_elim
    (λ (a : (nat_lt s.0 end && nat_le start s.1) ≡ true).
    let parts = and_parts (nat_lt s.0 end) (nat_le start s.1) a in
    let first = ltb-true s.0 end parts.0 in
    let last = leb-true start s.1 parts.1 in
    record {
      y = max s.0 start;
      least = omega arith;
      most = omega arith;
      needed = needed-in s.0 s.1 ss (max s.0 start) (omega arith) (omega (arith, o.0));
    })
    (λ (a : is_needed ss start end ≡ true).
    let rest = byte-in ss o.1 start end less a in
    record {
      y = rest.y;
      least = rest.least;
      most = rest.most;
      needed = needed-behind (s ∷ []) ss rest.y rest.needed;
    })
    (or_cases (nat_lt s.0 end && nat_le start s.1) (is_needed ss start end) h)

-- ---- gaps

module _ (radius : ℕ) (spans shown_spans : List (ℕ × ℕ)) (ordered : Ordered spans) where
  -- what is needed behind `start` is needed where these pieces move it to
  abbrev pub NeedsMoved : List Piece → ℕ → ℕ → ℕ → Type 0
  NeedsMoved qs before start shown_start = (y : ℕ) → start ≤ y
      → is_needed spans y (y + 1) ≡ true
      → is_needed shown_spans (shown_start + moved qs (before + (y - start)))
      (shown_start + moved qs (before + (y - start)) + 1) ≡ true

  -- a gap, and then a needed unit
  behind-gap : (ps : List Piece) (u : TextUnit) (qs : List Piece) (again : Bool)
      (shown_start : ℕ)
      → length (shown_units ps) ≤ 3
      → is_needed shown_spans (shown_start + unit_bytes (shown_units ps))
      (shown_start + unit_bytes (shown_units ps) + u.bytes) ≡ true
      → NoDots (pieces_of radius (parts_from shown_spans true []
      (shown_start + unit_bytes (shown_units ps) + u.bytes) (shown_units qs)))
      → NoDots (pieces_of radius (parts_from shown_spans again [] shown_start
      (shown_units (ps ++ Kept u ∷ qs))))
  behind-gap ps u qs again shown_start few hit rest =
      subst (λ us. NoDots (pieces_of radius (parts_from shown_spans again [] shown_start us)))
      (sym (shown_units-append ps (Kept u ∷ qs)))
      (blocks radius shown_spans again [] shown_start (shown_units ps) (u ∷ shown_units qs)
      (omega arith)
      (λ after more le. subst
      (λ b. NoDots (pieces_of radius
      (if b then Gap after true more ∷ Needed u
      ∷ parts_from shown_spans true [] (shown_start + unit_bytes (shown_units ps) + u.bytes)
      (shown_units qs)
      else parts_from shown_spans after (more ++ u ∷ [])
      (shown_start + unit_bytes (shown_units ps) + u.bytes) (shown_units qs))))
      (sym hit)
      (no-dots-append (part_pieces radius (Gap after true more))
      (Kept u ∷ pieces_of radius (parts_from shown_spans true []
      (shown_start + unit_bytes (shown_units ps) + u.bytes) (shown_units qs)))
      (short-gap radius after true more le) rest)))

  -- ---- cells

  cells-first : (xs ys : List TextUnit) → HaveCells (xs ++ ys) → HaveCells xs
  cells-first [] ys h = tt
  cells-first (x ∷ xs) ys h = (h.0, cells-first xs ys h.1)

  cells-later : (xs ys : List TextUnit) → HaveCells (drop 1 (xs ++ ys)) → HaveCells (drop 1 xs)
  cells-later [] ys h = tt
  cells-later (x ∷ xs) ys h = cells-first xs ys h

  cells-behind : (xs : List TextUnit) (u : TextUnit) (us : List TextUnit)
      → HaveCells (drop 1 (xs ++ u ∷ us)) → HaveCells us
  cells-behind [] u us h = h
  cells-behind (x ∷ []) u us h = h.1
  cells-behind (x ∷ y ∷ xs) u us h = cells-behind (y ∷ xs) u us h.1

  cells-rest : (us : List TextUnit) → HaveCells us → HaveCells (drop 1 us)
  cells-rest [] h = tt
  cells-rest (u ∷ us) h = h.1

  -- ---- the gaps of the line that is shown

  needs-at : (ps : List Piece) (u : TextUnit) (qs : List Piece) (before k : ℕ)
      → unit_bytes (piece_units ps) ≡ before → k < u.bytes
      → moved (ps ++ Kept u ∷ qs) (before + k) ≡ unit_bytes (shown_units ps) + k
  needs-at ps u qs before k e h =
      ap (λ n. moved (ps ++ Kept u ∷ qs) (n + k)) (sym e)
      ∙ moved-append ps (Kept u ∷ qs) k
      ∙ ap (λ n. unit_bytes (shown_units ps) + n) (moved-in_unit u qs k h)

  needs-later : (ps : List Piece) (u : TextUnit) (qs : List Piece) (before k : ℕ)
      → unit_bytes (piece_units ps) ≡ before → u.bytes ≤ k
      → moved (ps ++ Kept u ∷ qs) (before + k)
      ≡ unit_bytes (shown_units ps) + (u.bytes + moved qs (k - u.bytes))
  needs-later ps u qs before k e h =
      ap (λ n. moved (ps ++ Kept u ∷ qs) (n + k)) (sym e)
      ∙ moved-append ps (Kept u ∷ qs) k
      ∙ ap (λ n. unit_bytes (shown_units ps) + n) (moved-after_unit u qs k h)

  hit-at : (ps : List Piece) (u : TextUnit) (qs : List Piece) (before start shown_start : ℕ)
      → unit_bytes (piece_units ps) ≡ before → NeededByte spans start (start + u.bytes)
      → NeedsMoved (ps ++ Kept u ∷ qs) before start shown_start
      → is_needed shown_spans (shown_start + unit_bytes (shown_units ps))
      (shown_start + unit_bytes (shown_units ps) + u.bytes) ≡ true
  hit-at ps u qs before start shown_start e byte needs =
      let least = byte.least in
      let most = byte.most in
      let where_to = needs-at ps u qs before (byte.y - start) e (omega arith) in
      needed-wider shown_spans
      (shown_start + moved (ps ++ Kept u ∷ qs) (before + (byte.y - start)))
      (shown_start + unit_bytes (shown_units ps))
      (shown_start + unit_bytes (shown_units ps) + u.bytes) (omega (arith, where_to))
      (omega (arith, where_to)) (needs byte.y byte.least byte.needed)

  needs-behind : (ps : List Piece) (u : TextUnit) (qs : List Piece)
      (before start shown_start : ℕ)
      → unit_bytes (piece_units ps) ≡ before
      → NeedsMoved (ps ++ Kept u ∷ qs) before start shown_start
      → NeedsMoved qs 0 (start + u.bytes)
      (shown_start + unit_bytes (shown_units ps) + u.bytes)
  needs-behind ps u qs before start shown_start e needs y least h =
      let where_to = needs-later ps u qs before (y - start) e (omega arith) in
      let same : y - start - u.bytes ≡ 0 + (y - (start + u.bytes)) = omega arith in
      let there : shown_start + moved (ps ++ Kept u ∷ qs) (before + (y - start))
      ≡ shown_start + unit_bytes (shown_units ps) + u.bytes
      + moved qs (0 + (y - (start + u.bytes))) =
      omega (arith, where_to, ap (moved qs) same) in
      subst (λ z. is_needed shown_spans z (z + 1) ≡ true) there (needs y (omega arith) h)

  -- in the gaps of what is shown of a line are at most three units
  pub gaps : (after : Bool) (gap : List TextUnit) (start : ℕ) (us : List TextUnit)
      (shown_start : ℕ) (again : Bool)
      → HaveBytes us
      → HaveCells (drop 1 (gap ++ us))
      → (after ≡ true → HaveCells (gap ++ us))
      → NeedsMoved (pieces_of 0 (parts_from spans after gap start us)) (unit_bytes gap) start
      shown_start
      → NoDots (pieces_of radius (parts_from shown_spans again [] shown_start
      (shown_units (pieces_of 0 (parts_from spans after gap start us)))))
  gaps after gap start [] shown_start again bytes cells all needs =
      let ps = part_pieces 0 (Gap after false gap) in
      subst (λ us. NoDots (pieces_of radius (parts_from shown_spans again [] shown_start us)))
      (sym (shown_units-append ps []))
      (blocks radius shown_spans again [] shown_start (shown_units ps) []
      (omega (
        arith,
        gap-short after false gap (cells-later gap [] cells)
            (λ e. cells-first gap [] (all e)),
      ))
      (λ later more le. no-dots-append (part_pieces radius (Gap later false more)) []
      (short-gap radius later false more le) tt))
  gaps after gap start (u ∷ us) shown_start again bytes cells all needs =
      let ps = part_pieces 0 (Gap after true gap) in
      let qs = pieces_of 0 (parts_from spans true [] (start + u.bytes) us) in
      let same : unit_bytes (piece_units ps) ≡ unit_bytes gap =
      ap unit_bytes (gap-units 0 after true gap) in
      let cells_us = cells-behind gap u us cells in
      let longer = append_assoc gap (u ∷ []) us in
      cond_both (is_needed spans start (start + u.bytes))
      (Gap after true gap ∷ Needed u ∷ parts_from spans true [] (start + u.bytes) us)
      (parts_from spans after (gap ++ u ∷ []) (start + u.bytes) us)
      (λ parts. NeedsMoved (pieces_of 0 parts) (unit_bytes gap) start shown_start
      → NoDots (pieces_of radius (parts_from shown_spans again [] shown_start
      (shown_units (pieces_of 0 parts)))))
      (λ here n. behind-gap ps u qs again shown_start
      (gap-short after true gap (cells-later gap (u ∷ us) cells)
      (λ e. cells-first gap (u ∷ us) (all e)))
      (hit-at ps u qs (unit_bytes gap) start shown_start same
      (byte-in spans ordered start (start + u.bytes) (omega (arith, bytes.0)) here) n)
      (gaps true [] (start + u.bytes) us
      (shown_start + unit_bytes (shown_units ps) + u.bytes) true bytes.1 (cells-rest us cells_us)
      (λ _. cells_us)
      (needs-behind ps u qs (unit_bytes gap) start shown_start same n)))
      (λ out n. gaps after (gap ++ u ∷ []) (start + u.bytes) us shown_start again bytes.1
      (subst (λ vs. HaveCells (drop 1 vs)) (sym longer) cells)
      (λ e. subst HaveCells (sym longer) (all e))
      (λ y least h.
      let there : unit_bytes gap + (y - start)
      ≡ unit_bytes (gap ++ u ∷ []) + (y - (start + u.bytes)) =
      omega (arith, unit_bytes-append gap (u ∷ [])) in
      subst
      (λ k. is_needed shown_spans
      (shown_start + moved (pieces_of 0
      (parts_from spans after (gap ++ u ∷ []) (start + u.bytes) us)) k)
      (shown_start + moved (pieces_of 0
      (parts_from spans after (gap ++ u ∷ []) (start + u.bytes) us)) k + 1) ≡ true)
      there (n y (omega arith) h)))
      needs
