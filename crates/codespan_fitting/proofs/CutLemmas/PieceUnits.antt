-- For `refill_cuts`: the cuts of the pieces of a text are between its characters.
use Rattle.codespan_core.proofs.Std.{◌≡◌, ℕ, ◌+◌, ◌-◌, ◌≤◌, Bool, true, List, []}
use Rattle.codespan_core.proofs.Std.{◌∷◌, ◌++◌, length, take, drop, map, refl, ap, ap₂}
use Rattle.codespan_core.proofs.Std.{sym, ◌∙◌, subst, arith, append_assoc, drop-drop}
use Rattle.codespan_core.proofs.Std.{take-append-drop, take-append_seam, ⊎_elim, cases_lt}
use Rattle.codespan_core.proofs.Std.{cases_Bool, IsCharBoundary, IsUtf8}
use Rattle.std.proofs.Math.Seq.{drop-append_seam, take-add}
use Rattle.codespan_output.specs.FittedParts.{TextUnit, Part, Needed, Gap, Piece, Kept, Dots}
use Rattle.codespan_output.specs.FittedParts.{is_needed, leave_out, parts_from}
use Rattle.codespan_output.specs.FittedParts.{pieces_of, unit_bytes}
use Rattle.codespan_fitting.specs.Cuts.{AreBetweenChars, CutModel, cuts_from}
use Rattle.codespan_fitting.specs.Parts.{part_units}
use Rattle.codespan_fitting.specs.Walks.{first_count, last_count, text_units}
use Rattle.codespan_fitting.proofs.CutLemmas.PieceCuts.{unit_bytes-append}
use Rattle.codespan_fitting.proofs.GapPieces.{few-pieces, more-pieces}
use Rattle.codespan_fitting.proofs.SplitUnits.{text-split}

-- ---- units

-- the units of these pieces, shown or left out
abbrev pub piece_units : List Piece → List TextUnit
piece_units [] = []
piece_units (Kept u ∷ ps) = u ∷ piece_units ps
piece_units (Dots us ∷ ps) = us ++ piece_units ps

units-append : (ps qs : List Piece) → piece_units (ps ++ qs) ≡ piece_units ps ++ piece_units qs
units-append [] qs = refl
units-append (Kept u ∷ ps) qs = ap (λ us. u ∷ us) (units-append ps qs)
units-append (Dots us ∷ ps) qs =
    ap (λ vs. us ++ vs) (units-append ps qs)
    ∙ sym (append_assoc us (piece_units ps) (piece_units qs))

kept-units : (us : List TextUnit) → piece_units (map Kept us) ≡ us
kept-units [] = refl
kept-units (u ∷ us) = ap (λ vs. u ∷ vs) (kept-units us)

leave-units : (f e : ℕ) (us : List TextUnit) → piece_units (leave_out f e us) ≡ us
leave-units f e us =
    ⊎_elim
    (λ more.
    let n = e - f in
    let end : e ≡ f + n = omega (arith, more) in
    let left = take n (drop f us) in
    let rest = drop n (drop f us) in
    ap piece_units (more-pieces us f e n end (omega (arith, more)))
    ∙ units-append (map Kept (take f us)) (Dots left ∷ map Kept rest)
    ∙ ap₂ (λ xs ys. xs ++ (left ++ ys)) (kept-units (take f us)) (kept-units rest)
    ∙ ap (λ xs. take f us ++ xs) (take-append-drop n (drop f us))
    ∙ take-append-drop f us)
    (λ few. ap piece_units (few-pieces us f e 3 few (omega arith)) ∙ kept-units us)
    (cases_lt (f + 3) e)

-- the pieces of parts have the units of the parts
pub pieces-units : (r : ℕ) (parts : List Part) → piece_units (pieces_of r parts) ≡ part_units parts
pieces-units r [] = refl
pieces-units r (Needed u ∷ ps) = ap (λ us. u ∷ us) (pieces-units r ps)
pieces-units r (Gap after before us ∷ ps) =
    let f = first_count after r us in
    let e = last_count before r us in
    units-append (leave_out f e us) (pieces_of r ps)
    ∙ ap₂ (λ xs ys. xs ++ ys) (leave-units f e us) (pieces-units r ps)

-- the parts of units have these
pub parts-units : (spans : List (ℕ × ℕ)) (after : Bool) (gap : List TextUnit) (start : ℕ)
    (us : List TextUnit) → part_units (parts_from spans after gap start us) ≡ gap ++ us
parts-units spans after gap start [] = refl
parts-units spans after gap start (u ∷ us) =
    ⊎_elim
    (λ needed.
    rw needed (ap (λ xs. gap ++ u ∷ xs) (parts-units spans true [] (start + u.bytes) us)))
    (λ other.
    rw other
    (parts-units spans after (gap ++ u ∷ []) (start + u.bytes) us ∙ append_assoc gap (u ∷ []) us))
    (cases_Bool (is_needed spans start (start + u.bytes)))

-- ---- whole characters

between-earlier : (text : List ℕ) (at before : ℕ) (cs : List CutModel) → before ≤ at
    → AreBetweenChars text at cs → AreBetweenChars text before cs
between-earlier text at before [] h order = tt
between-earlier text at before (c ∷ cs) h order =
    (omega (arith, order.0), order.1, order.2, order.3)

-- as many units later
later-unit : (all : List TextUnit) (k : ℕ) (us vs : List TextUnit) → drop k all ≡ us ++ vs
    → (drop (k + length us) all ≡ vs)
    × (unit_bytes (take (k + length us) all) ≡ unit_bytes (take k all) + unit_bytes us)
later-unit all k us vs units = (
  sym (drop-drop (length us) k all)
      ∙ ap (drop (length us)) units
      ∙ drop-append_seam us vs,
  ap unit_bytes
      (take-add k (length us) all
      ∙ ap (λ xs. take k all ++ take (length us) xs) units
      ∙ ap (λ xs. take k all ++ xs) (take-append_seam us vs))
      ∙ unit_bytes-append (take k all) us,
)

-- the cuts of pieces of a text are, since these are whole units
pub pieces-between : (tab : ℕ) (text : List ℕ) (utf8 : IsUtf8 text) (k at shown : ℕ)
    (ps : List Piece) → drop k (text_units tab text) ≡ piece_units ps
    → unit_bytes (take k (text_units tab text)) ≡ at
    → AreBetweenChars text at (cuts_from at shown ps)
pieces-between tab text utf8 k at shown [] units bytes = tt
pieces-between tab text utf8 k at shown (Kept u ∷ ps) units bytes =
    let next = later-unit (text_units tab text) k (u ∷ []) (piece_units ps) units in
    between-earlier text (at + u.bytes) at (cuts_from (at + u.bytes) (shown + u.bytes) ps)
    (omega arith)
    (pieces-between tab text utf8 (k + 1) (at + u.bytes) (shown + u.bytes) ps next.0
    (omega (arith, next.1, bytes)))
pieces-between tab text utf8 k at shown (Dots us ∷ ps) units bytes =
    let next = later-unit (text_units tab text) k us (piece_units ps) units in
    let start = text-split tab text k utf8 in
    let end = text-split tab text (k + length us) utf8 in
    let size : unit_bytes (take (k + length us) (text_units tab text)) ≡ at + unit_bytes us =
    omega (arith, next.1, bytes) in (
      omega arith,
      subst (IsCharBoundary text) bytes start.boundary,
      subst (IsCharBoundary text) size end.boundary,
      pieces-between tab text utf8 (k + length us) (at + unit_bytes us) (shown + 3) ps next.0 size,
    )
