-- For `FittedIsLine`: where a byte index of a line is in the line that is shown.
use Rattle.codespan_core.proofs.Std.{◌≡◌, ℕ, ◌+◌, ◌-◌, ◌<◌, ◌≤◌, true, false, List, [], ◌∷◌, ⊎_elim}
use Rattle.codespan_core.proofs.Std.{refl, ap, arith, cases_lt, lt-ltb, le-ltb, false≢true, ◌∙◌}
use Rattle.codespan_core.proofs.Std.{sym}
use Rattle.codespan_output.specs.{TextUnit, Piece, Kept, Dots, unit_bytes, moved, is_kept}

-- ---- by the first piece

pub moved-in_unit : (u : TextUnit) (ps : List Piece) (x : ℕ) → x < u.bytes
    → moved (Kept u ∷ ps) x ≡ x
moved-in_unit u ps x h = rw (lt-ltb x u.bytes h) refl

pub moved-after_unit : (u : TextUnit) (ps : List Piece) (x : ℕ) → u.bytes ≤ x
    → moved (Kept u ∷ ps) x ≡ u.bytes + moved ps (x - u.bytes)
moved-after_unit u ps x h = rw (le-ltb x u.bytes h) refl

pub moved-in_dots : (us : List TextUnit) (ps : List Piece) (x : ℕ) → x < unit_bytes us
    → moved (Dots us ∷ ps) x ≡ 0
moved-in_dots us ps x h = rw (lt-ltb x (unit_bytes us) h) refl

pub moved-after_dots : (us : List TextUnit) (ps : List Piece) (x : ℕ) → unit_bytes us ≤ x
    → moved (Dots us ∷ ps) x ≡ 3 + moved ps (x - unit_bytes us)
moved-after_dots us ps x h = rw (le-ltb x (unit_bytes us) h) refl

pub kept-after_unit : (u : TextUnit) (ps : List Piece) (x : ℕ) → u.bytes ≤ x
    → is_kept (Kept u ∷ ps) x ≡ is_kept ps (x - u.bytes)
kept-after_unit u ps x h = rw (le-ltb x u.bytes h) refl

pub kept-in_unit : (u : TextUnit) (ps : List Piece) (x : ℕ) → x < u.bytes
    → is_kept (Kept u ∷ ps) x ≡ true
kept-in_unit u ps x h = rw (lt-ltb x u.bytes h) refl

pub kept-in_dots : (us : List TextUnit) (ps : List Piece) (x : ℕ) → x < unit_bytes us
    → is_kept (Dots us ∷ ps) x ≡ false
kept-in_dots us ps x h = rw (lt-ltb x (unit_bytes us) h) refl

pub kept-after_dots : (us : List TextUnit) (ps : List Piece) (x : ℕ) → unit_bytes us ≤ x
    → is_kept (Dots us ∷ ps) x ≡ is_kept ps (x - unit_bytes us)
kept-after_dots us ps x h = rw (le-ltb x (unit_bytes us) h) refl

-- ---- order

-- a later byte is not moved before an earlier one
pub moved-rises : (ps : List Piece) (x y : ℕ) → x ≤ y → moved ps x ≤ moved ps y
moved-rises [] x y h = h
moved-rises (Kept u ∷ ps) x y h =
    ⊎_elim
    (λ (b : y < u.bytes). let a : x < u.bytes = omega arith in
    omega (arith, moved-in_unit u ps x a, moved-in_unit u ps y b))
    (λ (b : u.bytes ≤ y). ⊎_elim
    (λ (a : x < u.bytes). omega (arith, moved-in_unit u ps x a, moved-after_unit u ps y b))
    (λ (a : u.bytes ≤ x). omega (
      arith,
      moved-after_unit u ps x a,
      moved-after_unit u ps y b,
      moved-rises ps (x - u.bytes) (y - u.bytes) (omega arith),
    ))
    (cases_lt x u.bytes))
    (cases_lt y u.bytes)
moved-rises (Dots us ∷ ps) x y h =
    ⊎_elim
    (λ (a : x < unit_bytes us). omega (arith, moved-in_dots us ps x a))
    (λ (a : unit_bytes us ≤ x). let b : unit_bytes us ≤ y = omega arith in
    omega (
      arith,
      moved-after_dots us ps x a,
      moved-after_dots us ps y b,
      moved-rises ps (x - unit_bytes us) (y - unit_bytes us) (omega arith),
    ))
    (cases_lt x (unit_bytes us))

-- dots stand for no fewer bytes than they have
abbrev pub DotsShorten : List Piece → Type 0
DotsShorten [] = Unit
DotsShorten (Kept u ∷ ps) = DotsShorten ps
DotsShorten (Dots us ∷ ps) = (3 ≤ unit_bytes us) × DotsShorten ps

-- the start of the line stays
pub moved-start : (ps : List Piece) → DotsShorten ps → moved ps 0 ≡ 0
moved-start [] h = refl
moved-start (Kept u ∷ ps) h =
    ⊎_elim (λ (a : 0 < u.bytes). moved-in_unit u ps 0 a)
    (λ (a : u.bytes ≤ 0). let same : 0 - u.bytes ≡ 0 = omega arith in
    omega (arith, moved-after_unit u ps 0 a, ap (moved ps) same, moved-start ps h))
    (cases_lt 0 u.bytes)
moved-start (Dots us ∷ ps) h = moved-in_dots us ps 0 (omega arith)

-- no byte is moved to the right
pub moved-le : (ps : List Piece) → DotsShorten ps → (x : ℕ) → moved ps x ≤ x
moved-le [] h x = omega arith
moved-le (Kept u ∷ ps) h x =
    ⊎_elim (λ (a : x < u.bytes). omega (arith, moved-in_unit u ps x a))
    (λ (a : u.bytes ≤ x). omega (arith, moved-after_unit u ps x a, moved-le ps h (x - u.bytes)))
    (cases_lt x u.bytes)
moved-le (Dots us ∷ ps) h x =
    ⊎_elim (λ (a : x < unit_bytes us). omega (arith, moved-in_dots us ps x a))
    (λ (a : unit_bytes us ≤ x). omega (
      arith,
      moved-after_dots us ps x a,
      h.0,
      moved-le ps h.1 (x - unit_bytes us),
    ))
    (cases_lt x (unit_bytes us))

-- what follows a kept byte follows it at once
pub moved-step : (ps : List Piece) → DotsShorten ps → (x : ℕ) → is_kept ps x ≡ true
    → moved ps (x + 1) ≡ moved ps x + 1
moved-step [] h x k = refl
moved-step (Kept u ∷ ps) h x k =
    ⊎_elim
    (λ (a : x + 1 < u.bytes). let b : x < u.bytes = omega arith in
    omega (arith, moved-in_unit u ps (x + 1) a, moved-in_unit u ps x b))
    (λ (a : u.bytes ≤ x + 1). ⊎_elim
    (λ (b : x < u.bytes). let same : x + 1 - u.bytes ≡ 0 = omega arith in
    omega (
      arith,
      moved-after_unit u ps (x + 1) a,
      moved-in_unit u ps x b,
      ap (moved ps) same,
      moved-start ps h,
    ))
    (λ (b : u.bytes ≤ x). let same : x + 1 - u.bytes ≡ x - u.bytes + 1 = omega arith in
    omega (
      arith,
      moved-after_unit u ps (x + 1) a,
      moved-after_unit u ps x b,
      ap (moved ps) same,
      moved-step ps h (x - u.bytes) (sym (kept-after_unit u ps x b) ∙ k),
    ))
    (cases_lt x u.bytes))
    (cases_lt (x + 1) u.bytes)
moved-step (Dots us ∷ ps) h x k =
    ⊎_elim
    (λ (b : x < unit_bytes us). absurd (false≢true (sym (kept-in_dots us ps x b) ∙ k)))
    (λ (b : unit_bytes us ≤ x). let a : unit_bytes us ≤ x + 1 = omega arith in
    let same : x + 1 - unit_bytes us ≡ x - unit_bytes us + 1 = omega arith in
    omega (
      arith,
      moved-after_dots us ps (x + 1) a,
      moved-after_dots us ps x b,
      ap (moved ps) same,
      moved-step ps h.1 (x - unit_bytes us) (sym (kept-after_dots us ps x b) ∙ k),
    ))
    (cases_lt x (unit_bytes us))

-- what is before an index whose last byte is kept stays before it
pub moved-strict : (ps : List Piece) → DotsShorten ps → (x y : ℕ) → is_kept ps (y - 1) ≡ true
    → x < y → moved ps x < moved ps y
moved-strict ps h x y k less =
    let same : y - 1 + 1 ≡ y = omega arith in
    omega (
      arith,
      moved-step ps h (y - 1) k,
      ap (moved ps) same,
      moved-rises ps x (y - 1) (omega arith),
    )
