-- For `FitsOnce`: of a line whose gaps have at most three units nothing is left out.
use Rattle.codespan_core.proofs.Std.{◌≡◌, ℕ, suc, ◌+◌, ◌-◌, ◌<◌, ◌≤◌, Bool, true, false, nat_lt}
use Rattle.codespan_core.proofs.Std.{List, [], ◌∷◌, ◌++◌, length, map, take, drop, refl, sym, ap}
use Rattle.codespan_core.proofs.Std.{subst, ◌∙◌, arith, ⊎_elim, cases_lt, cond_both, if◌then◌else◌}
use Rattle.codespan_core.proofs.Std.{length-append, take-append-drop, ltb-true, drop_all}
use Rattle.std.proofs.lemmas.Bool.{lt-leb, ltb-false}
use Rattle.codespan_core.specs.Labels.{LabelModel, LaneMark, MultiLabel, Top, Left, Bottom}
use Rattle.codespan_output.specs.{TextUnit, Piece, Kept, Dots, Needed, Gap, Line, unit_bytes}
use Rattle.codespan_output.specs.{unit_cells, is_needed, parts_from, part_pieces, pieces_of}
use Rattle.codespan_output.specs.{count_within, count_before, leave_out, moved, shown_text}
use Rattle.codespan_output.specs.{shown_line, moved_label, moved_mark, moved_multi_label}
use Rattle.codespan_output.specs.{piece_cells}
use Rattle.codespan_output.proofs.Fitting.Moved.{moved-in_unit, moved-after_unit}
use Rattle.codespan_output.proofs.Fitting.Pieces.{count_before-le}
use Rattle.codespan_output.proofs.Fitting.ShownUnits.{HaveCells, shown_units}

-- ---- pieces that are all kept

-- no dots are among these pieces
abbrev pub NoDots : List Piece → Type 0
NoDots [] = Unit
NoDots (Kept u ∷ ps) = NoDots ps
NoDots (Dots us ∷ ps) = ⊥

pub no-dots-append : (ps qs : List Piece) → NoDots ps → NoDots qs → NoDots (ps ++ qs)
no-dots-append [] qs h k = k
no-dots-append (Kept u ∷ ps) qs h k = no-dots-append ps qs h k
no-dots-append (Dots us ∷ ps) qs h k = absurd h

kept-no-dots : (us : List TextUnit) → NoDots (map Kept us)
kept-no-dots [] = tt
kept-no-dots (u ∷ us) = kept-no-dots us

-- so nothing is moved
moved-same : (ps : List Piece) → NoDots ps → (x : ℕ) → moved ps x ≡ x
moved-same [] h x = refl
moved-same (Kept u ∷ ps) h x =
    ⊎_elim (λ (a : x < u.bytes). moved-in_unit u ps x a)
    (λ (a : u.bytes ≤ x). omega (
      arith,
      moved-after_unit u ps x a,
      moved-same ps h (x - u.bytes),
    ))
    (cases_lt x u.bytes)
moved-same (Dots us ∷ ps) h x = absurd h

text-same : (ps : List Piece) → NoDots ps → (text : List ℕ) → shown_text ps text ≡ text
text-same [] h text = refl
text-same (Kept u ∷ ps) h text =
    ap (λ t. take u.bytes text ++ t) (text-same ps h (drop u.bytes text))
    ∙ take-append-drop u.bytes text
text-same (Dots us ∷ ps) h text = absurd h

labels-same : (ps : List Piece) → NoDots ps → (xs : List LabelModel)
    → map (moved_label ps) xs ≡ xs
labels-same ps h [] = refl
labels-same ps h (x ∷ xs) =
    let start = moved-same ps h x.start in
    let end = moved-same ps h x.end in
    let one : moved_label ps x ≡ x =
    ap (λ n. record x { start = n; end = moved ps x.end }) start
    ∙ ap (λ n. record x { end = n }) end in
    ap (λ y. y ∷ map (moved_label ps) xs) one ∙ ap (λ ys. x ∷ ys) (labels-same ps h xs)

marks-same : (ps : List Piece) → NoDots ps → (ms : List LaneMark)
    → map (moved_mark ps) ms ≡ ms
marks-same ps h [] = refl
marks-same ps h (m ∷ ms) =
    ap (λ k. record m { multi_label = k } ∷ map (moved_mark ps) ms) (one m.multi_label)
    ∙ ap (λ ns. m ∷ ns) (marks-same ps h ms)
  where
    one : (k : MultiLabel) → moved_multi_label ps k ≡ k
    one (Top start) = ap Top (moved-same ps h start)
    one Left = refl
    one (Bottom end message) = ap (λ n. Bottom n message) (moved-same ps h end)

-- and the line is shown as it is
pub line-same : (ps : List Piece) → NoDots ps → (line : Line) → shown_line ps line ≡ line
line-same ps h line =
    ap (λ t. record line {
      text = t;
      labels = map (moved_label ps) line.labels;
      lanes = record line.lanes { lane_marks = map (moved_mark ps) line.lanes.lane_marks };
    }) (text-same ps h line.text)
    ∙ ap (λ xs. record line {
      labels = xs;
      lanes = record line.lanes { lane_marks = map (moved_mark ps) line.lanes.lane_marks };
    }) (labels-same ps h line.labels)
    ∙ ap (λ ms. record line { lanes = record line.lanes { lane_marks = ms } })
    (marks-same ps h line.lanes.lane_marks)

-- pieces without cells have no dots
pub no-cells : (ps : List Piece) → piece_cells ps ≡ 0 → NoDots ps
no-cells [] h = tt
no-cells (Kept u ∷ ps) h = no-cells ps (omega arith)
no-cells (Dots us ∷ ps) h = absurd (omega arith)

-- ---- short gaps

-- of three units or fewer nothing is left out
short-kept : (first end : ℕ) (us : List TextUnit) → end ≤ 3 → NoDots (leave_out first end us)
short-kept first end us h =
    cond_both (nat_lt (first + 3) end)
    (map Kept (take first us) ++ Dots (drop first (take end us)) ∷ map Kept (drop end us))
    (map Kept us) NoDots
    (λ more. absurd (omega (arith, ltb-true (first + 3) end more)))
    (λ _. kept-no-dots us)

pub short-gap : (radius : ℕ) (after before : Bool) (us : List TextUnit) → length us ≤ 3
    → NoDots (part_pieces radius (Gap after before us))
short-gap radius after true us h =
    short-kept (if after then count_within radius us else 0) (count_before radius us) us
    (omega (arith, count_before-le radius us))
short-gap radius after false us h =
    short-kept (if after then count_within radius us else 0) (length us) us h

-- units up to three that are not needed, and then units of which nothing is left out
pub blocks : (radius : ℕ) (spans : List (ℕ × ℕ)) (after : Bool) (gap : List TextUnit)
    (start : ℕ) (us rest : List TextUnit)
    → length gap + length us ≤ 3
    → ((again : Bool) (more : List TextUnit) → length more ≤ 3
    → NoDots (pieces_of radius (parts_from spans again more (start + unit_bytes us) rest)))
    → NoDots (pieces_of radius (parts_from spans after gap start (us ++ rest)))
blocks radius spans after gap start [] rest h next =
    let same : start + 0 ≡ start = omega arith in
    subst (λ n. NoDots (pieces_of radius (parts_from spans after gap n rest))) same
    (next after gap (omega arith))
blocks radius spans after gap start (u ∷ us) rest h next =
    let same : start + (u.bytes + unit_bytes us) ≡ start + u.bytes + unit_bytes us =
    omega arith in
    let later : (again : Bool) (more : List TextUnit) → length more ≤ 3
    → NoDots (pieces_of radius
    (parts_from spans again more (start + u.bytes + unit_bytes us) rest)) =
    subst (λ n. (again : Bool) (more : List TextUnit) → length more ≤ 3
    → NoDots (pieces_of radius (parts_from spans again more n rest))) same next in
    cond_both (is_needed spans start (start + u.bytes))
    (Gap after true gap ∷ Needed u ∷ parts_from spans true [] (start + u.bytes) (us ++ rest))
    (parts_from spans after (gap ++ u ∷ []) (start + u.bytes) (us ++ rest))
    (λ parts. NoDots (pieces_of radius parts))
    (λ _. no-dots-append (part_pieces radius (Gap after true gap))
    (Kept u ∷ pieces_of radius (parts_from spans true [] (start + u.bytes) (us ++ rest)))
    (short-gap radius after true gap (omega arith))
    (blocks radius spans true [] (start + u.bytes) us rest (omega arith) later))
    (λ _. blocks radius spans after (gap ++ u ∷ []) (start + u.bytes) us rest
    (omega (arith, length-append gap (u ∷ []))) later)

-- ---- what is left out at radius 0

-- the first units have cells, so none is within no cells
within-none : (us : List TextUnit) → HaveCells us → count_within 0 us ≡ 0
within-none [] h = refl
within-none (u ∷ us) h =
    ap (λ b. if b then suc (count_within (0 - u.cells) us) else 0) (lt-leb u.cells 0 h.0)

-- and so have the last ones
before-all : (us : List TextUnit) → HaveCells us → count_before 0 us ≡ length us
before-all [] h = refl
before-all (u ∷ us) h =
    ap (λ b. if b then 0 else suc (count_before 0 us))
    (lt-leb (unit_cells (u ∷ us)) 0 (omega (arith, h.0)))
    ∙ ap suc (before-all us h.1)

before-most : (us : List TextUnit) → HaveCells (drop 1 us) → 1 < length us
    → count_before 0 us ≡ length us
before-most [] h more = absurd (omega arith)
before-most (u ∷ []) h more = absurd (omega arith)
before-most (u ∷ v ∷ us) h more =
    ap (λ b. if b then 0 else suc (count_before 0 (v ∷ us)))
    (lt-leb (unit_cells (u ∷ v ∷ us)) 0 (omega (arith, h.0)))
    ∙ ap suc (before-all (v ∷ us) h)

shown-kept : (us : List TextUnit) → shown_units (map Kept us) ≡ us
shown-kept [] = refl
shown-kept (u ∷ us) = ap (λ vs. u ∷ vs) (shown-kept us)

-- all of a gap of more than three units is left out
whole-gap : (us : List TextUnit) → length (shown_units (leave_out 0 (length us) us)) ≤ 3
whole-gap us =
    cond_both (nat_lt (0 + 3) (length us))
    (map Kept (take 0 us) ++ Dots (drop 0 (take (length us) us)) ∷ map Kept (drop (length us) us))
    (map Kept us) (λ ps. length (shown_units ps) ≤ 3)
    (λ _. omega (
      arith,
      ap length (shown-kept (drop (length us) us)),
      ap length (drop_all (length us) us (omega arith)),
    ))
    (λ few. omega (arith, ltb-false (0 + 3) (length us) few, ap length (shown-kept us)))

-- so at most three units are shown of a gap
pub gap-short : (after before : Bool) (us : List TextUnit) → HaveCells (drop 1 us)
    → (after ≡ true → HaveCells us)
    → length (shown_units (part_pieces 0 (Gap after before us))) ≤ 3
gap-short after before us h k =
    subst (λ n. length (shown_units (leave_out n
    (if before then count_before 0 us else length us) us)) ≤ 3) (sym (first after k))
    (by_before before)
  where
    first : (b : Bool) → (b ≡ true → HaveCells us) → (if b then count_within 0 us else 0) ≡ 0
    first true all = within-none us (all refl)
    first false all = refl

    few : length us ≤ 1 → length (shown_units (leave_out 0 (count_before 0 us) us)) ≤ 3
    few le =
        cond_both (nat_lt (0 + 3) (count_before 0 us))
        (map Kept (take 0 us) ++ Dots (drop 0 (take (count_before 0 us) us))
        ∷ map Kept (drop (count_before 0 us) us))
        (map Kept us) (λ ps. length (shown_units ps) ≤ 3)
        (λ more. absurd (omega (
          arith,
          ltb-true (0 + 3) (count_before 0 us) more,
          count_before-le 0 us,
        )))
        (λ _. omega (arith, ap length (shown-kept us)))

    by_before : (b : Bool)
        → length (shown_units (leave_out 0 (if b then count_before 0 us else length us) us)) ≤ 3
    by_before false = whole-gap us
    by_before true =
        ⊎_elim
        (λ (a : 1 < length us).
        subst (λ n. length (shown_units (leave_out 0 n us)) ≤ 3) (sym (before-most us h a))
        (whole-gap us))
        few
        (cases_lt 1 (length us))
