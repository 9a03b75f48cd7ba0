-- For `left_out`: the pieces of a gap, where its first units are kept, and then its last ones.
use Rattle.codespan_core.proofs.Std.{◌≡◌, ℕ, zero, suc, ◌+◌, ◌<◌, ◌≤◌, Bool}
use Rattle.codespan_core.proofs.Std.{true, false, List, [], ◌∷◌, ◌++◌, length, take, drop}
use Rattle.codespan_core.proofs.Std.{map, refl, ap, ap₂, sym, ◌∙◌, arith, le-leb, lt-leb}
use Rattle.codespan_core.proofs.Std.{⊎_elim, cases_lt, nat_lt, length-drop, length-take-le}
use Rattle.codespan_core.proofs.Std.{drop-drop, take-append-drop, lt-ltb, le-ltb, append-nil}
use Rattle.std.proofs.lemmas.List.{drop-take}
use Rattle.codespan_output.specs.FittedParts.{TextUnit, Piece, Kept, Dots, count_before, Gap}
use Rattle.codespan_output.specs.FittedParts.{leave_out, part_pieces, piece_cells, unit_bytes}
use Rattle.codespan_output.specs.FittedParts.{unit_cells}
use Rattle.codespan_fitting.specs.LeftOut.{dot_ranges}
use Rattle.codespan_fitting.specs.Walks.{first_count, last_count}
use Rattle.codespan_output.proofs.WiderRadius.Gaps.{before-length, drop-all-cells, kept-cells}
use Rattle.codespan_output.proofs.WiderRadius.Gaps.{unit_cells-append}
use Rattle.codespan_fitting.proofs.LastUnits.{before-all}

-- ---- units that are shown

pub kept-ranges : (at : ℕ) (us : List TextUnit) (ps : List Piece)
    → dot_ranges at (map Kept us ++ ps) ≡ dot_ranges (at + unit_bytes us) ps
kept-ranges at [] ps = ap (λ n. dot_ranges n ps) (omega arith)
kept-ranges at (u ∷ us) ps =
    kept-ranges (at + u.bytes) us ps ∙ ap (λ n. dot_ranges n ps) (omega arith)

-- ---- the last units of a gap and of what follows its first ones

-- the first of them are kept, or none of those before the last ones
before-dropped : (r k : ℕ) (us : List TextUnit)
    → (count_before r us ≤ k + count_before r (drop k us))
    × (0 < count_before r (drop k us) → count_before r us ≡ k + count_before r (drop k us))
before-dropped r zero us = (omega arith, λ h. omega arith)
before-dropped r (suc k) [] = (omega arith, λ h. absurd (omega (arith, h)))
before-dropped r (suc k) (u ∷ us) =
    let rest = before-dropped r k us in
    ⊎_elim
    (λ more.
    rw (lt-leb (unit_cells (u ∷ us)) r more)
    (omega (arith, rest.0), λ h. omega (arith, rest.1 h)))
    (λ fits.
    let none : count_before r (drop k us) ≡ 0 =
    before-all r (drop k us) (omega (arith, drop-all-cells k us, fits)) in
    let no : 0 < count_before r (drop k us) → ⊥ = λ h. omega (arith, h, none) in
    rw (le-leb (unit_cells (u ∷ us)) r fits) (omega arith, λ h. absurd (no h)))
    (cases_lt r (unit_cells (u ∷ us)))

pub last-dropped : (is_before : Bool) (r k : ℕ) (us : List TextUnit)
    → (last_count is_before r us ≤ k + last_count is_before r (drop k us))
    × (0 < last_count is_before r (drop k us)
    → last_count is_before r us ≡ k + last_count is_before r (drop k us))
    × (last_count is_before r (drop k us) ≤ length (drop k us))
last-dropped true r k us =
    let d = before-dropped r k us in (d.0, d.1, before-length r (drop k us))
last-dropped false r k us =
    let n = length-drop k us in
    (omega (arith, n), (λ h. omega (arith, n, h)), omega arith)

-- ---- the pieces

-- where at most three units are between
pub few-pieces : (us : List TextUnit) (f e m : ℕ) → e ≤ f + m → m ≤ 3
    → leave_out f e us ≡ map Kept us
few-pieces us f e m within few = rw (le-ltb (f + 3) e (omega (arith, within, few))) refl

-- where they are more
pub more-pieces : (us : List TextUnit) (f e m : ℕ) → e ≡ f + m → 3 < m
    → leave_out f e us
    ≡ map Kept (take f us) ++ Dots (take m (drop f us)) ∷ map Kept (drop m (drop f us))
more-pieces us f e m is more =
    let test : nat_lt (f + 3) (f + m) ≡ true = lt-ltb (f + 3) (f + m) (omega (arith, more)) in
    rw (is, test, drop-take f m us, drop-drop m f us) refl

-- ---- the whole gap

module _ (a b : Bool) (r : ℕ) (us : List TextUnit) (first last : ℕ)
    (first-is : first ≡ unit_cells (take (first_count a r us) us))
    (last-is : last ≡ unit_cells
    (drop (last_count b r (drop (first_count a r us) us)) (drop (first_count a r us) us))) where
  -- the units that are neither among the first ones that are kept nor among the last ones
  abbrev pub between : List TextUnit
  between = take (last_count b r (drop (first_count a r us) us)) (drop (first_count a r us) us)

  between-length : length between ≡ last_count b r (drop (first_count a r us) us)
  between-length =
      length-take-le (last_count b r (drop (first_count a r us) us))
      (drop (first_count a r us) us) (last-dropped b r (first_count a r us) us).2

  all-cells : unit_cells us ≡ first + (unit_cells between + last)
  all-cells =
      let f = first_count a r us in
      let m = last_count b r (drop f us) in
      let outer = unit_cells-append (take f us) (drop f us) in
      let inner = unit_cells-append (take m (drop f us)) (drop m (drop f us)) in
      omega (
        arith,
        outer,
        inner,
        ap unit_cells (take-append-drop f us),
        ap unit_cells (take-append-drop m (drop f us)),
        first-is,
        last-is,
      )

  -- nothing is left out
  pub gap-few : (cells : ℕ) → cells ≡ unit_cells between → length between ≤ 3
      → (first + last + cells ≡ piece_cells (part_pieces r (Gap a b us)))
      × ([] ≡ dot_ranges 0 (part_pieces r (Gap a b us)))
  gap-few cells is few =
      let f = first_count a r us in
      let pieces = few-pieces us f (last_count b r us) (last_count b r (drop f us))
      (last-dropped b r f us).0 (omega (arith, between-length, few)) in
      let nil = append-nil (map Kept us) in (
        omega (
          arith,
          all-cells,
          is,
          ap piece_cells pieces,
          kept-cells us [],
          ap piece_cells nil,
        ),
        sym (ap (dot_ranges 0) (pieces ∙ sym nil) ∙ kept-ranges 0 us []),
      )

  -- what is between is left out
  pub gap-more : (start size : ℕ) → start ≡ unit_bytes (take (first_count a r us) us)
      → size ≡ unit_bytes between → 3 < length between
      → (first + last + 3 ≡ piece_cells (part_pieces r (Gap a b us)))
      × ((start, start + size) ∷ [] ≡ dot_ranges 0 (part_pieces r (Gap a b us)))
  gap-more start size start-is size-is more =
      let f = first_count a r us in
      let m = last_count b r (drop f us) in
      let some : 3 < m = omega (arith, between-length, more) in
      let pieces = more-pieces us f (last_count b r us) m
      ((last-dropped b r f us).1 (omega (arith, some))) some in
      let rest = map Kept (drop m (drop f us)) in
      let nil = append-nil rest in
      let after = kept-ranges (0 + unit_bytes (take f us) + unit_bytes (take m (drop f us)))
      (drop m (drop f us)) [] in (
        omega (
          arith,
          first-is,
          last-is,
          ap piece_cells pieces,
          kept-cells (take f us) (Dots (take m (drop f us)) ∷ rest),
          kept-cells (drop m (drop f us)) [],
          ap piece_cells nil,
        ),
        sym
            (ap (dot_ranges 0) pieces
            ∙ kept-ranges 0 (take f us) (Dots (take m (drop f us)) ∷ rest)
            ∙ ap
            (λ ps. (
              0 + unit_bytes (take f us),
              0 + unit_bytes (take f us) + unit_bytes (take m (drop f us)),
            )
            ∷ ps)
            (ap (dot_ranges (0 + unit_bytes (take f us) + unit_bytes (take m (drop f us))))
            (sym nil)
            ∙ after)
            ∙ ap₂ (λ x y. (x, x + y) ∷ []) (omega (arith, start-is)) (sym size-is)),
      )
