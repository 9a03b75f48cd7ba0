-- For `moved`: where a byte index is in the text that is shown, by the cuts of its pieces.
use Rattle.codespan_core.proofs.Std.{◌≡◌, ℕ, zero, suc, ◌+◌, ◌-◌, ◌<◌, ◌≤◌, List, []}
use Rattle.codespan_core.proofs.Std.{◌∷◌, length, get_or, nat_lt, if◌then◌else◌, refl, ap}
use Rattle.codespan_core.proofs.Std.{arith, le-ltb, lt-ltb, ⊎_elim, cases_lt}
use Rattle.std.specs.Prelude.{⊤}
use Rattle.codespan_output.specs.FittedParts.{Piece, Kept, Dots, unit_bytes}
use Rattle.codespan_output.specs.FittedLines.{moved}
use Rattle.codespan_fitting.specs.Cuts.{CutModel, cuts_from, moved_after}

-- ---- the order of cuts

-- the cuts come one after another from this byte on
abbrev pub AreInOrder : ℕ → List CutModel → Type 0
AreInOrder at [] = ⊤
AreInOrder at (c ∷ cs) = (at ≤ c.start) × (c.start ≤ c.end) × AreInOrder c.end cs

order-earlier : (at before : ℕ) (cs : List CutModel) → before ≤ at → AreInOrder at cs
    → AreInOrder before cs
order-earlier at before [] h order = tt
order-earlier at before (c ∷ cs) h order = (omega (arith, order.0), order.1, order.2)

pub cuts-order : (at shown : ℕ) (ps : List Piece) → AreInOrder at (cuts_from at shown ps)
cuts-order at shown [] = tt
cuts-order at shown (Kept u ∷ ps) =
    order-earlier (at + u.bytes) at (cuts_from (at + u.bytes) (shown + u.bytes) ps) (omega arith)
    (cuts-order (at + u.bytes) (shown + u.bytes) ps)
cuts-order at shown (Dots us ∷ ps) =
    (omega arith, omega arith, cuts-order (at + unit_bytes us) (shown + 3) ps)

-- none of them starts before that byte
pub starts-low : (at : ℕ) (cs : List CutModel) (k : ℕ) (d : CutModel) → AreInOrder at cs
    → k < length cs → at ≤ (get_or cs k d).start
starts-low at [] k d order h = absurd (omega (arith, h))
starts-low at (c ∷ cs) zero d order h = order.0
starts-low at (c ∷ cs) (suc k) d order h =
    omega (arith, order.0, order.1, starts-low c.end cs k d order.2 (omega (arith, h)))

-- their starts do not fall
pub starts-rise : (at : ℕ) (cs : List CutModel) (d : CutModel) → AreInOrder at cs
    → (i j : ℕ) → i ≤ j → j < length cs → (get_or cs i d).start ≤ (get_or cs j d).start
starts-rise at [] d order i j h short = absurd (omega (arith, short))
starts-rise at (c ∷ cs) d order zero zero h short = omega arith
starts-rise at (c ∷ cs) d order zero (suc j) h short =
    omega (arith, order.1, starts-low c.end cs j d order.2 (omega (arith, short)))
starts-rise at (c ∷ cs) d order (suc i) zero h short = absurd (omega (arith, h))
starts-rise at (c ∷ cs) d order (suc i) (suc j) h short =
    starts-rise c.end cs d order.2 i j (omega (arith, h)) (omega (arith, short))

-- ---- where a byte index is

-- by the cuts after byte `at` of the text, which is byte `shown` of the text that is shown
abbrev moved_among : List CutModel → ℕ → ℕ → ℕ → ℕ
moved_among [] at shown x = shown + (x - at)
moved_among (c ∷ cs) at shown x =
    if nat_lt x c.start then shown + (x - at)
    else if nat_lt x c.end then c.dots else moved_among cs c.end (c.dots + 3) x

-- before the cuts
by-before : (cs : List CutModel) (at shown x : ℕ) (d : CutModel)
    → (0 < length cs → x < (get_or cs 0 d).start) → moved_among cs at shown x ≡ shown + (x - at)
by-before [] at shown x d h = refl
by-before (c ∷ cs) at shown x d h = rw (lt-ltb x c.start (h (omega arith))) refl

-- as many bytes later in both texts
by-later : (cs : List CutModel) (at shown n x : ℕ) → at + n ≤ x
    → moved_among cs (at + n) (shown + n) x ≡ moved_among cs at shown x
by-later [] at shown n x h = omega (arith, h)
by-later (c ∷ cs) at shown n x h =
    let same : shown + n + (x - (at + n)) ≡ shown + (x - at) = omega (arith, h) in
    ap (λ m. if nat_lt x c.start then m
    else if nat_lt x c.end then c.dots else moved_among cs c.end (c.dots + 3) x) same

-- of pieces, what the definition says
moved-pieces : (ps : List Piece) (at shown x : ℕ) → at ≤ x
    → shown + moved ps (x - at) ≡ moved_among (cuts_from at shown ps) at shown x
moved-pieces [] at shown x h = refl
moved-pieces (Kept u ∷ ps) at shown x h =
    let cs = cuts_from (at + u.bytes) (shown + u.bytes) ps in
    ⊎_elim
    (λ kept.
    let d : CutModel = record { start = 0; end = 0; dots = 0 } in
    let first : 0 < length cs → x < (get_or cs 0 d).start = λ some.
    omega (
      arith,
      kept,
      starts-low (at + u.bytes) cs 0 d (cuts-order (at + u.bytes) (shown + u.bytes) ps) some,
    ) in
    rw (lt-ltb (x - at) u.bytes (omega (arith, h, kept)), by-before cs at shown x d first) refl)
    (λ past.
    let rest = moved-pieces ps (at + u.bytes) (shown + u.bytes) x past in
    let left : x - at - u.bytes ≡ x - (at + u.bytes) = omega arith in
    rw (
      le-ltb (x - at) u.bytes (omega (arith, h, past)),
      ← by-later cs at shown u.bytes x past,
      ← rest,
      left,
    )
    (omega arith))
    (cases_lt x (at + u.bytes))
moved-pieces (Dots us ∷ ps) at shown x h =
    let n = unit_bytes us in
    ⊎_elim
    (λ in_cut.
    rw (
      lt-ltb (x - at) n (omega (arith, h, in_cut)),
      le-ltb x at h,
      lt-ltb x (at + n) in_cut,
    )
    (omega arith))
    (λ past.
    let rest = moved-pieces ps (at + n) (shown + 3) x past in
    let left : x - at - n ≡ x - (at + n) = omega arith in
    rw (
      le-ltb (x - at) n (omega (arith, h, past)),
      le-ltb x at h,
      le-ltb x (at + n) past,
      ← rest,
      left,
    )
    (omega arith))
    (cases_lt x (at + n))

moved-whole : (ps : List Piece) (x : ℕ) → moved ps x ≡ moved_among (cuts_from 0 0 ps) 0 0 x
moved-whole ps x =
    let same : x - 0 ≡ x = omega arith in
    omega (arith, moved-pieces ps 0 0 x (omega arith), ap (moved ps) same)

-- ---- the search

-- the last cut that starts at the byte index or before it decides
by-last : (cs : List CutModel) (at shown x j : ℕ) (d : CutModel) → AreInOrder at cs
    → j < length cs → (get_or cs j d).start ≤ x
    → (suc j < length cs → x < (get_or cs (suc j) d).start)
    → moved_among cs at shown x ≡ moved_after (get_or cs j d) x
by-last [] at shown x j d order short low high = absurd (omega (arith, short))
by-last (c ∷ cs) at shown x zero d order short low high =
    rw (
      le-ltb x c.start low,
      by-before cs c.end (c.dots + 3) x d (λ some. high (omega (arith, some))),
    )
    refl
by-last (c ∷ cs) at shown x (suc j) d order short low high =
    let far : c.end ≤ x =
    omega (arith, low, starts-low c.end cs j d order.2 (omega (arith, short))) in
    rw (le-ltb x c.start (omega (arith, order.1, far)), le-ltb x c.end far)
    (by-last cs c.end (c.dots + 3) x j d order.2 (omega (arith, short)) low
    (λ more. high (omega (arith, more))))

-- where no cut starts there or before
pub moved-none : (ps : List Piece) (x : ℕ) (d : CutModel)
    → (0 < length (cuts_from 0 0 ps) → x < (get_or (cuts_from 0 0 ps) 0 d).start)
    → x ≡ moved ps x
moved-none ps x d h =
    omega (arith, moved-whole ps x, by-before (cuts_from 0 0 ps) 0 0 x d h)

-- where one does
pub moved-last : (ps : List Piece) (x j : ℕ) (d : CutModel) → j < length (cuts_from 0 0 ps)
    → (get_or (cuts_from 0 0 ps) j d).start ≤ x
    → (suc j < length (cuts_from 0 0 ps) → x < (get_or (cuts_from 0 0 ps) (suc j) d).start)
    → moved_after (get_or (cuts_from 0 0 ps) j d) x ≡ moved ps x
moved-last ps x j d short low high =
    omega (
      arith,
      moved-whole ps x,
      by-last (cuts_from 0 0 ps) 0 0 x j d (cuts-order 0 0 ps) short low high,
    )
