-- For `FittedIsLine`: a top corner is in the source row of a line that is shortened where it
-- was in that of the line.
use Rattle.codespan_core.proofs.Std.{◌≡◌, ℕ, ◌+◌, ◌-◌, ◌<◌, ◌≤◌, Bool, true, false, nat_le, List}
use Rattle.codespan_core.proofs.Std.{[], ◌∷◌, ◌++◌, ⊎_elim, refl, sym, ap, ◌∙◌, arith, cases_lt}
use Rattle.codespan_core.proofs.Std.{false≢true, len_utf8, len_utf8_bounds, sum_by, sum_by-cons}
use Rattle.codespan_core.proofs.Std.{if◌then◌else◌, le-leb, take, suc, prefix_len}
use Rattle.std.specs.Prelude.{take_while}
use Rattle.std.specs.Char.{is_whitespace}
use Rattle.std.proofs.lemmas.Bool.{lt-leb}
use Rattle.codespan_output.specs.{AreKept, Piece, Kept, Dots, unit_bytes, moved, is_kept}
use Rattle.codespan_output.proofs.Fitting.Moved.{DotsShorten, moved-in_unit, moved-after_unit}
use Rattle.codespan_output.proofs.Fitting.Moved.{moved-after_dots, moved-start, kept-after_unit}
use Rattle.codespan_output.proofs.Fitting.Moved.{kept-in_dots}
use Rattle.codespan_output.proofs.Fitting.Spelled.{spelled_bytes, PiecesSpell, shown_chars}

-- ---- white space at the start

-- how many bytes of white space these characters begin with
abbrev pub leading : List ℕ → ℕ
leading [] = 0
leading (c ∷ cs) = if is_whitespace c then len_utf8 c + leading cs else 0

pub leading-is : (cs : List ℕ) → sum_by len_utf8 (take_while is_whitespace cs) ≡ leading cs
leading-is [] = refl
leading-is (c ∷ cs) = by_test (is_whitespace c) (leading-is cs)
  where
    by_test : (b : Bool) → sum_by len_utf8 (take_while is_whitespace cs) ≡ leading cs
        → sum_by len_utf8 (take (if b then 1 + prefix_len is_whitespace cs else 0) (c ∷ cs))
        ≡ (if b then len_utf8 c + leading cs else 0)
    by_test true rest =
        let e : 1 + prefix_len is_whitespace cs ≡ suc (prefix_len is_whitespace cs) =
        omega arith in
        ap (λ n. sum_by len_utf8 (take n (c ∷ cs))) e
        ∙ sum_by-cons len_utf8 c (take_while is_whitespace cs) ∙ ap (λ n. len_utf8 c + n) rest
    by_test false rest = refl

-- the characters are white space, so that what follows counts; or they are not
pub data Leading (ds : List ℕ) : Type 0 where
  Blank : ((es : List ℕ) → leading (ds ++ es) ≡ spelled_bytes ds + leading es) → Leading ds
  Ends : leading ds < spelled_bytes ds → ((es : List ℕ) → leading (ds ++ es) ≡ leading ds)
      → Leading ds

leading-cons : (c : ℕ) (ds : List ℕ) → Leading ds → Leading (c ∷ ds)
leading-cons c ds h = by_test (is_whitespace c) refl h
  where
    first : (b : Bool) → is_whitespace c ≡ b → (es : List ℕ)
        → leading (c ∷ es) ≡ (if b then len_utf8 c + leading es else 0)
    first b is es = ap (λ t. if t then len_utf8 c + leading es else 0) is

    by_test : (b : Bool) → is_whitespace c ≡ b → Leading ds → Leading (c ∷ ds)
    by_test true is (Blank more) =
        Blank (λ es. omega (arith, first true is (ds ++ es), more es))
    by_test true is (Ends less same) =
        Ends (omega (arith, first true is ds, less))
        (λ es. omega (arith, first true is (ds ++ es), first true is ds, same es))
    by_test false is k =
        Ends (omega (arith, first false is ds, (len_utf8_bounds c).0))
        (λ es. omega (arith, first false is (ds ++ es), first false is ds))

leading-of : (ds : List ℕ) → Leading ds
leading-of [] = Blank (λ es. omega arith)
leading-of (c ∷ ds) = leading-cons c ds (leading-of ds)

-- ---- a corner in the source row

-- a start that has white space alone before it stays
pub blank-before : (tab : ℕ) (ps : List Piece) → DotsShorten ps → (cs : List ℕ)
    (h : PiecesSpell tab ps cs)
    → (start : ℕ) → AreKept ps 0 start → start ≤ leading cs
    → (moved ps start ≡ start) × (start ≤ leading (shown_chars tab ps cs h))
blank-before tab [] short cs h start k le = (refl, le)
blank-before tab (Kept u ∷ ps) short cs h start k le =
    by_lead (leading-of h.0)
    (λ k2 le2. blank-before tab ps short h.1 h.4 (start - u.bytes) k2 le2)
  where
    whole : leading cs ≡ leading (h.0 ++ h.1)
    whole = ap leading h.2

    short_start : moved ps 0 ≡ 0
    short_start = moved-start ps short

    same : start ≤ u.bytes → moved (Kept u ∷ ps) start ≡ start
    same le2 =
        ⊎_elim (λ (a : start < u.bytes). moved-in_unit u ps start a)
        (λ (a : u.bytes ≤ start). let e : start - u.bytes ≡ 0 = omega arith in
        omega (arith, moved-after_unit u ps start a, ap (moved ps) e, short_start))
        (cases_lt start u.bytes)

    kept : u.bytes ≤ start → AreKept ps 0 (start - u.bytes)
    kept a x least less =
        let e : u.bytes + x - u.bytes ≡ x = omega arith in
        sym (kept-after_unit u ps (u.bytes + x) (omega arith) ∙ ap (is_kept ps) e)
        ∙ k (u.bytes + x) (omega arith) (omega arith)

    by_lead : Leading h.0
        → (AreKept ps 0 (start - u.bytes) → start - u.bytes ≤ leading h.1
        → (moved ps (start - u.bytes) ≡ start - u.bytes)
        × (start - u.bytes ≤ leading (shown_chars tab ps h.1 h.4)))
        → (moved (Kept u ∷ ps) start ≡ start)
        × (start ≤ leading (h.0 ++ shown_chars tab ps h.1 h.4))
    by_lead (Blank more) again =
        ⊎_elim
        (λ (a : start < u.bytes). (
          same (omega arith),
          omega (arith, more (shown_chars tab ps h.1 h.4), h.3),
        ))
        (λ (a : u.bytes ≤ start).
        let rest = again (kept a) (omega (arith, more h.1, whole, h.3)) in (
          omega (arith, moved-after_unit u ps start a, rest.0),
          omega (arith, more (shown_chars tab ps h.1 h.4), h.3, rest.1),
        ))
        (cases_lt start u.bytes)
    by_lead (Ends less all) again = (
      same (omega (arith, all h.1, whole, h.3)),
      omega (arith, all h.1, whole, all (shown_chars tab ps h.1 h.4)),
    )
blank-before tab (Dots us ∷ ps) short cs h start k le =
    ⊎_elim
    (λ (a : 0 < start). absurd (false≢true
    (sym (kept-in_dots us ps 0 (omega (arith, short.0))) ∙ k 0 (omega arith) a)))
    (λ (a : start ≤ 0). let e : start ≡ 0 = omega arith in (
      omega (arith, ap (moved (Dots us ∷ ps)) e, moved-start (Dots us ∷ ps) short),
      omega arith,
    ))
    (cases_lt 0 start)

-- a start that has more before it than white space has so where it is moved to
pub more-before : (tab : ℕ) (ps : List Piece) → DotsShorten ps → (cs : List ℕ)
    (h : PiecesSpell tab ps cs)
    → (start : ℕ) → is_kept ps start ≡ true → leading cs < start
    → leading (shown_chars tab ps cs h) < moved ps start
more-before tab [] short cs h start k less = less
more-before tab (Kept u ∷ ps) short cs h start k less =
    by_lead (leading-of h.0)
    (λ k2 less2. more-before tab ps short h.1 h.4 (start - u.bytes) k2 less2)
  where
    whole : leading cs ≡ leading (h.0 ++ h.1)
    whole = ap leading h.2

    by_lead : Leading h.0
        → (is_kept ps (start - u.bytes) ≡ true → leading h.1 < start - u.bytes
        → leading (shown_chars tab ps h.1 h.4) < moved ps (start - u.bytes))
        → leading (h.0 ++ shown_chars tab ps h.1 h.4) < moved (Kept u ∷ ps) start
    by_lead (Blank more) again =
        let a : u.bytes ≤ start = omega (arith, more h.1, whole, h.3) in
        let rest = again (sym (kept-after_unit u ps start a) ∙ k)
        (omega (arith, more h.1, whole, h.3)) in
        omega (arith, moved-after_unit u ps start a, more (shown_chars tab ps h.1 h.4), h.3, rest)
    by_lead (Ends ends all) again =
        ⊎_elim
        (λ (a : start < u.bytes).
        omega (arith, moved-in_unit u ps start a, all h.1, whole, all (shown_chars tab ps h.1 h.4)))
        (λ (a : u.bytes ≤ start).
        omega (arith, moved-after_unit u ps start a, ends, h.3, all (shown_chars tab ps h.1 h.4)))
        (cases_lt start u.bytes)
more-before tab (Dots us ∷ ps) short cs h start k less =
    ⊎_elim
    (λ (a : start < unit_bytes us). absurd (false≢true (sym (kept-in_dots us ps start a) ∙ k)))
    (λ (a : unit_bytes us ≤ start). omega (arith, moved-after_dots us ps start a))
    (cases_lt start (unit_bytes us))

-- so the corner is in the source row where it was
pub corner-same : (tab : ℕ) (ps : List Piece) → DotsShorten ps → (cs : List ℕ)
    (h : PiecesSpell tab ps cs)
    → (start : ℕ) → is_kept ps start ≡ true
    → (start ≤ leading cs → AreKept ps 0 start)
    → nat_le (moved ps start) (leading (shown_chars tab ps cs h)) ≡ nat_le start (leading cs)
corner-same tab ps short cs h start k before =
    ⊎_elim
    (λ (a : leading cs < start).
    lt-leb (moved ps start) (leading (shown_chars tab ps cs h))
    (more-before tab ps short cs h start k a)
    ∙ sym (lt-leb start (leading cs) a))
    (λ (a : start ≤ leading cs).
    let b = blank-before tab ps short cs h start (before a) a in
    le-leb (moved ps start) (leading (shown_chars tab ps cs h)) (omega (arith, b.0, b.1))
    ∙ sym (le-leb start (leading cs) a))
    (cases_lt (leading cs) start)
