-- For `BytesAreMoved`: where the bytes of a line are in the text that is shown.
use Rattle.codespan_core.proofs.Std.{◌≡◌, ℕ, ◌+◌, ◌-◌, ◌<◌, ◌≤◌, true, List, [], ◌∷◌, length, take}
use Rattle.codespan_core.proofs.Std.{drop, get_or, refl, sym, ap, ◌∙◌, arith, ⊎_elim, cases_lt}
use Rattle.codespan_core.proofs.Std.{false≢true, chars, get_or-drop, IsUtf8, length-drop, zero, suc}
use Rattle.std.proofs.lemmas.List.{length-take, get_or_append_left, get_or-append_right}
use Rattle.std.proofs.lemmas.List.{get_or-take}
use Rattle.std.proofs.lemmas.Str.{encodes-chars, scalars-chars}
use Rattle.codespan_output.specs.{Line, Piece, Kept, Dots, unit_bytes, moved, is_kept, shown_text}
use Rattle.codespan_output.specs.{dots, AreKept, BytesAreMoved, IsFittable}
use Rattle.codespan_output.proofs.Fitting.KeptLabels.{KeepsLabels}
use Rattle.codespan_output.proofs.Fitting.Moved.{moved-in_unit, moved-after_unit, moved-in_dots}
use Rattle.codespan_output.proofs.Fitting.Moved.{moved-after_dots, kept-after_unit, kept-in_dots}
use Rattle.codespan_output.proofs.Fitting.Moved.{kept-after_dots, moved-rises, moved-le}
use Rattle.codespan_output.proofs.Fitting.Moved.{moved-strict, moved-step, DotsShorten}
use Rattle.codespan_output.proofs.Fitting.Spelled.{shown-spells, shown-scalars, shown_chars}
use Rattle.codespan_output.proofs.Fitting.Spelled.{PiecesSpell}

-- what is before a kept byte stays before it
pub kept-strict : (ps : List Piece) (x y : ℕ) → x < y → is_kept ps y ≡ true
    → moved ps x < moved ps y
kept-strict [] x y h k = h
kept-strict (Kept u ∷ ps) x y h k =
    ⊎_elim
    (λ (b : y < u.bytes). let a : x < u.bytes = omega arith in
    omega (arith, moved-in_unit u ps x a, moved-in_unit u ps y b))
    (λ (b : u.bytes ≤ y). ⊎_elim
    (λ (a : x < u.bytes). omega (arith, moved-in_unit u ps x a, moved-after_unit u ps y b))
    (λ (a : u.bytes ≤ x). omega (
      arith,
      moved-after_unit u ps x a,
      moved-after_unit u ps y b,
      kept-strict ps (x - u.bytes) (y - u.bytes) (omega arith)
          (sym (kept-after_unit u ps y b) ∙ k),
    ))
    (cases_lt x u.bytes))
    (cases_lt y u.bytes)
kept-strict (Dots us ∷ ps) x y h k =
    ⊎_elim
    (λ (b : y < unit_bytes us). absurd (false≢true (sym (kept-in_dots us ps y b) ∙ k)))
    (λ (b : unit_bytes us ≤ y). ⊎_elim
    (λ (a : x < unit_bytes us). omega (
      arith,
      moved-in_dots us ps x a,
      moved-after_dots us ps y b,
    ))
    (λ (a : unit_bytes us ≤ x). omega (
      arith,
      moved-after_dots us ps x a,
      moved-after_dots us ps y b,
      kept-strict ps (x - unit_bytes us) (y - unit_bytes us) (omega arith)
          (sym (kept-after_dots us ps y b) ∙ k),
    ))
    (cases_lt x (unit_bytes us)))
    (cases_lt y (unit_bytes us))

-- kept bytes stay together
pub moved-run : (ps : List Piece) → DotsShorten ps → (start n : ℕ) → AreKept ps start (start + n)
    → moved ps (start + n) ≡ moved ps start + n
moved-run ps h start zero k =
    let e : start + 0 ≡ start = omega arith in omega (arith, ap (moved ps) e)
moved-run ps h start (suc n) k =
    let e : start + suc n ≡ start + n + 1 = omega arith in
    omega (
      arith,
      ap (moved ps) e,
      moved-step ps h (start + n) (k (start + n) (omega arith) (omega arith)),
      moved-run ps h start n (λ x a b. k x a (omega arith)),
    )

-- a kept byte is what is shown where it is moved to
shown-byte : (ps : List Piece) (text : List ℕ) (x : ℕ) → x < length text → is_kept ps x ≡ true
    → get_or (shown_text ps text) (moved ps x) 0 ≡ get_or text x 0
shown-byte [] text x h k = refl
shown-byte (Kept u ∷ ps) text x h k =
    ⊎_elim
    (λ (a : x < u.bytes). let len = length-take u.bytes text in
    ap (λ n. get_or (shown_text (Kept u ∷ ps) text) n 0) (moved-in_unit u ps x a)
    ∙ get_or_append_left (take u.bytes text) rest 0 x (omega (arith, len))
    ∙ get_or-take u.bytes text x 0 a)
    (λ (a : u.bytes ≤ x). let len = length-take u.bytes text in
    let e : u.bytes + moved ps (x - u.bytes) - u.bytes ≡ moved ps (x - u.bytes) =
    omega arith in
    let f : u.bytes + (x - u.bytes) ≡ x = omega arith in
    ap (λ n. get_or (shown_text (Kept u ∷ ps) text) n 0) (moved-after_unit u ps x a)
    ∙ get_or-append_right (take u.bytes text) rest u.bytes
    (u.bytes + moved ps (x - u.bytes)) 0 (omega (arith, len)) (omega arith)
    ∙ ap (λ n. get_or rest n 0) e
    ∙ shown-byte ps (drop u.bytes text) (x - u.bytes)
    (omega (arith, length-drop u.bytes text)) (sym (kept-after_unit u ps x a) ∙ k)
    ∙ get_or-drop u.bytes text (x - u.bytes) 0
    ∙ ap (λ n. get_or text n 0) f)
    (cases_lt x u.bytes)
  where
    rest : List ℕ
    rest = shown_text ps (drop u.bytes text)
shown-byte (Dots us ∷ ps) text x h k =
    ⊎_elim
    (λ (a : x < unit_bytes us). absurd (false≢true (sym (kept-in_dots us ps x a) ∙ k)))
    (λ (a : unit_bytes us ≤ x).
    let e : 3 + moved ps (x - unit_bytes us) - 3 ≡ moved ps (x - unit_bytes us) =
    omega arith in
    let f : unit_bytes us + (x - unit_bytes us) ≡ x = omega arith in
    ap (λ n. get_or (shown_text (Dots us ∷ ps) text) n 0) (moved-after_dots us ps x a)
    ∙ get_or-append_right dots rest 3 (3 + moved ps (x - unit_bytes us)) 0 refl (omega arith)
    ∙ ap (λ n. get_or rest n 0) e
    ∙ shown-byte ps (drop (unit_bytes us) text) (x - unit_bytes us)
    (omega (arith, length-drop (unit_bytes us) text)) (sym (kept-after_dots us ps x a) ∙ k)
    ∙ get_or-drop (unit_bytes us) text (x - unit_bytes us) 0
    ∙ ap (λ n. get_or text n 0) f)
    (cases_lt x (unit_bytes us))
  where
    rest : List ℕ
    rest = shown_text ps (drop (unit_bytes us) text)

-- what is shown of a text is one
pub shown-utf8 : (tab : ℕ) (ps : List Piece) (text : List ℕ) → IsUtf8 text
    → PiecesSpell tab ps (chars text)
    → IsUtf8 (shown_text ps text)
shown-utf8 tab ps text u h = (
  shown_chars tab ps (chars text) h,
  (
    shown-scalars tab ps (chars text) h (scalars-chars text u),
    sym (shown-spells tab ps (chars text) h) ∙ ap (shown_text ps) (encodes-chars text u),
  ),
)

-- the bytes of a line are where its pieces move them
pub bytes-moved : (tab : ℕ) (ps : List Piece) (line : Line) → IsFittable line
    → KeepsLabels tab ps line
    → BytesAreMoved ps line
bytes-moved tab ps line h keeps = record {
  shrinks = moved-le ps keeps.short;
  rises = moved-rises ps;
  before_kept = kept-strict ps;
  behind_kept = λ x y less k. moved-strict ps keeps.short x y k less;
  shown = shown-byte ps line.text;
  is_utf8 = shown-utf8 tab ps line.text h.is_utf8 keeps.spell;
}
