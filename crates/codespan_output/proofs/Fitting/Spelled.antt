-- For `FittedIsLine`: the units of a text are whole characters, and so is what is shown of it.
use Rattle.codespan_core.proofs.Std.{◌≡◌, ℕ, ◌+◌, Bool, true, false, ◌&&◌, ◌==◌, List, [], ◌∷◌}
use Rattle.codespan_core.proofs.Std.{◌++◌, length, take, drop, refl, sym, ap, ap₂, ◌∙◌, arith}
use Rattle.codespan_core.proofs.Std.{cond_both, len_utf8, length-encode, length-append}
use Rattle.codespan_core.proofs.Std.{if◌then◌else◌, append_assoc, and_parts, eqb-true, IsUtf8}
use Rattle.codespan_core.proofs.Std.{chars}
use Rattle.std.proofs.lemmas.Bool.{and_from}
use Rattle.std.proofs.Math.Utf8.{scalar, scalars, encodes, encode}
use Rattle.std.proofs.lemmas.Str.{encodes-append, encodes-chars, scalars-chars, chars-encodes}
use Rattle.std.proofs.Math.Seq.{take-append_seam, drop-append_seam}
use Rattle.codespan_output.specs.{TextUnit, Piece, Kept, Dots, unit_bytes, units_of, with_char}
use Rattle.codespan_output.specs.{cells_at_most, piece_units, shown_text, dots}

-- ---- characters

-- the bytes of these characters
abbrev pub spelled_bytes : List ℕ → ℕ
spelled_bytes [] = 0
spelled_bytes (c ∷ cs) = len_utf8 c + spelled_bytes cs

-- at most so many cells these characters have
abbrev pub most_cells : ℕ → List ℕ → ℕ
most_cells tab [] = 0
most_cells tab (c ∷ cs) = cells_at_most tab c + most_cells tab cs

pub length-encodes : (cs : List ℕ) → length (encodes cs) ≡ spelled_bytes cs
length-encodes [] = refl
length-encodes (c ∷ cs) =
    length-append (encode c) (encodes cs)
    ∙ ap₂ (λ a b. a + b) (length-encode c) (length-encodes cs)

pub spelled-append : (cs ds : List ℕ)
    → spelled_bytes (cs ++ ds) ≡ spelled_bytes cs + spelled_bytes ds
spelled-append [] ds = omega arith
spelled-append (c ∷ cs) ds = omega (arith, spelled-append cs ds)

scalars-append : (cs ds : List ℕ) → scalars (cs ++ ds) ≡ (scalars cs && scalars ds)
scalars-append [] ds = refl
scalars-append (c ∷ cs) ds = by_test (scalar c) (scalars-append cs ds)
  where
    by_test : (b : Bool) → scalars (cs ++ ds) ≡ (scalars cs && scalars ds)
        → (b && scalars (cs ++ ds)) ≡ ((b && scalars cs) && scalars ds)
    by_test true rest = rest
    by_test false rest = refl

-- ---- units

-- these units are characters of the list, from its first one on
abbrev pub UnitsSpell : ℕ → List TextUnit → List ℕ → Type 0
UnitsSpell tab [] cs = Unit
UnitsSpell tab (u ∷ us) cs =
    (ds : List ℕ) × (es : List ℕ) × (cs ≡ ds ++ es) × (u.bytes ≡ spelled_bytes ds)
    × UnitsSpell tab us es × (u.cells ≡ most_cells tab ds) × (units_of tab ds ≡ u ∷ [])

with_char-spell : (tab c : ℕ) (us : List TextUnit) (cs : List ℕ) → UnitsSpell tab us cs
    → UnitsSpell tab (with_char tab c us) (c ∷ cs)
with_char-spell tab c [] cs h = (c ∷ [], cs, refl, omega arith, tt, omega arith, refl)
with_char-spell tab c (u ∷ us) cs h =
    cond_both (u.cells == 0)
    (record { bytes = len_utf8 c + u.bytes; cells = cells_at_most tab c } ∷ us)
    (record { bytes = len_utf8 c; cells = cells_at_most tab c } ∷ u ∷ us)
    (λ vs. UnitsSpell tab vs (c ∷ cs))
    (λ none. (
      c ∷ h.0,
      h.1,
      ap (λ es. c ∷ es) h.2,
      ap (λ n. len_utf8 c + n) h.3,
      h.4,
      omega (arith, eqb-true u.cells 0 none, h.5),
      ap (with_char tab c) h.6
          ∙ ap (λ b. if b
          then record { bytes = len_utf8 c + u.bytes; cells = cells_at_most tab c } ∷ []
          else record { bytes = len_utf8 c; cells = cells_at_most tab c } ∷ u ∷ []) none,
    ))
    (λ _. (c ∷ [], cs, refl, omega arith, h, omega arith, refl))

-- the units of a text are its characters
pub units-spell : (tab : ℕ) (cs : List ℕ) → UnitsSpell tab (units_of tab cs) cs
units-spell tab [] = tt
units-spell tab (c ∷ cs) = with_char-spell tab c (units_of tab cs) cs (units-spell tab cs)

with_char-all : (tab c : ℕ) (us : List TextUnit)
    → unit_bytes (with_char tab c us) ≡ len_utf8 c + unit_bytes us
with_char-all tab c [] = refl
with_char-all tab c (u ∷ us) =
    cond_both (u.cells == 0)
    (record { bytes = len_utf8 c + u.bytes; cells = cells_at_most tab c } ∷ us)
    (record { bytes = len_utf8 c; cells = cells_at_most tab c } ∷ u ∷ us)
    (λ vs. unit_bytes vs ≡ len_utf8 c + (u.bytes + unit_bytes us))
    (λ _. omega arith) (λ _. refl)

-- they have all of its bytes
pub units-all : (tab : ℕ) (cs : List ℕ) → unit_bytes (units_of tab cs) ≡ spelled_bytes cs
units-all tab [] = refl
units-all tab (c ∷ cs) =
    with_char-all tab c (units_of tab cs) ∙ ap (λ n. len_utf8 c + n) (units-all tab cs)

-- ---- pieces

-- these pieces are characters of the list, from its first one on
abbrev pub PiecesSpell : ℕ → List Piece → List ℕ → Type 0
PiecesSpell tab [] cs = Unit
PiecesSpell tab (Kept u ∷ ps) cs =
    (ds : List ℕ) × (es : List ℕ) × (cs ≡ ds ++ es) × (u.bytes ≡ spelled_bytes ds)
    × PiecesSpell tab ps es × (u.cells ≡ most_cells tab ds) × (units_of tab ds ≡ u ∷ [])
PiecesSpell tab (Dots us ∷ ps) cs =
    (ds : List ℕ) × (es : List ℕ) × (cs ≡ ds ++ es) × (unit_bytes us ≡ spelled_bytes ds)
    × PiecesSpell tab ps es

units-parts : (tab : ℕ) (us vs : List TextUnit) (cs : List ℕ) → UnitsSpell tab (us ++ vs) cs
    → (ds : List ℕ) × (es : List ℕ) × (cs ≡ ds ++ es) × (unit_bytes us ≡ spelled_bytes ds)
    × UnitsSpell tab vs es
units-parts tab [] vs cs h = ([], cs, refl, refl, h)
units-parts tab (u ∷ us) vs cs h =
    let rest = units-parts tab us vs h.1 h.4 in (
      h.0 ++ rest.0,
      rest.1,
      h.2 ∙ ap (λ es. h.0 ++ es) rest.2 ∙ sym (append_assoc h.0 rest.0 rest.1),
      ap₂ (λ a b. a + b) h.3 rest.3 ∙ sym (spelled-append h.0 rest.0),
      rest.4,
    )

pub pieces-spell : (tab : ℕ) (ps : List Piece) (cs : List ℕ) → UnitsSpell tab (piece_units ps) cs
    → PiecesSpell tab ps cs
pieces-spell tab [] cs h = tt
pieces-spell tab (Kept u ∷ ps) cs h = (
  h.0,
  h.1,
  h.2,
  h.3,
  pieces-spell tab ps h.1 h.4,
  h.5,
  h.6,
)
pieces-spell tab (Dots us ∷ ps) cs h =
    let parts = units-parts tab us (piece_units ps) cs h in
    (parts.0, parts.1, parts.2, parts.3, pieces-spell tab ps parts.1 parts.4)

-- the characters that are shown
abbrev pub shown_chars : (tab : ℕ) (ps : List Piece) (cs : List ℕ) → PiecesSpell tab ps cs → List ℕ
shown_chars tab [] cs h = cs
shown_chars tab (Kept u ∷ ps) cs h = h.0 ++ shown_chars tab ps h.1 h.4
shown_chars tab (Dots us ∷ ps) cs h = dots ++ shown_chars tab ps h.1 h.4

take-encodes : (n : ℕ) (cs ds es : List ℕ) → cs ≡ ds ++ es → n ≡ spelled_bytes ds
    → (take n (encodes cs) ≡ encodes ds) × (drop n (encodes cs) ≡ encodes es)
take-encodes n cs ds es e s =
    let len : n ≡ length (encodes ds) = s ∙ sym (length-encodes ds) in
    let text : encodes cs ≡ encodes ds ++ encodes es = ap encodes e ∙ encodes-append ds es in (
      ap₂ take len text ∙ take-append_seam (encodes ds) (encodes es),
      ap₂ drop len text ∙ drop-append_seam (encodes ds) (encodes es),
    )

-- the text that is shown is that of these characters
pub shown-spells : (tab : ℕ) (ps : List Piece) (cs : List ℕ) (h : PiecesSpell tab ps cs)
    → shown_text ps (encodes cs) ≡ encodes (shown_chars tab ps cs h)
unfolding encode
shown-spells tab [] cs h = refl
shown-spells tab (Kept u ∷ ps) cs h =
    let parts = take-encodes u.bytes cs h.0 h.1 h.2 h.3 in
    ap₂ (λ a b. a ++ shown_text ps b) parts.0 parts.1
    ∙ ap (λ t. encodes h.0 ++ t) (shown-spells tab ps h.1 h.4)
    ∙ sym (encodes-append h.0 (shown_chars tab ps h.1 h.4))
shown-spells tab (Dots us ∷ ps) cs h =
    let parts = take-encodes (unit_bytes us) cs h.0 h.1 h.2 h.3 in
    ap (λ t. dots ++ shown_text ps t) parts.1
    ∙ ap (λ t. dots ++ t) (shown-spells tab ps h.1 h.4)
    ∙ sym (encodes-append dots (shown_chars tab ps h.1 h.4))

-- they are Unicode scalar values
pub shown-scalars : (tab : ℕ) (ps : List Piece) (cs : List ℕ) (h : PiecesSpell tab ps cs)
    → scalars cs ≡ true
    → scalars (shown_chars tab ps cs h) ≡ true
shown-scalars tab [] cs h k = k
shown-scalars tab (Kept u ∷ ps) cs h k =
    let parts = and_parts (scalars h.0) (scalars h.1)
    (sym (scalars-append h.0 h.1) ∙ ap scalars (sym h.2) ∙ k) in
    scalars-append h.0 (shown_chars tab ps h.1 h.4)
    ∙ and_from (scalars h.0) (scalars (shown_chars tab ps h.1 h.4)) parts.0
    (shown-scalars tab ps h.1 h.4 parts.1)
shown-scalars tab (Dots us ∷ ps) cs h k =
    let parts = and_parts (scalars h.0) (scalars h.1)
    (sym (scalars-append h.0 h.1) ∙ ap scalars (sym h.2) ∙ k) in
    scalars-append dots (shown_chars tab ps h.1 h.4)
    ∙ and_from (scalars dots) (scalars (shown_chars tab ps h.1 h.4)) refl
    (shown-scalars tab ps h.1 h.4 parts.1)

-- the characters of what is shown of a text
pub chars-shown : (tab : ℕ) (ps : List Piece) (text : List ℕ) → IsUtf8 text
    → (h : PiecesSpell tab ps (chars text))
    → chars (shown_text ps text) ≡ shown_chars tab ps (chars text) h
chars-shown tab ps text u h =
    ap (λ t. chars (shown_text ps t)) (sym (encodes-chars text u))
    ∙ ap chars (shown-spells tab ps (chars text) h)
    ∙ chars-encodes (shown_chars tab ps (chars text) h)
    (shown-scalars tab ps (chars text) h (scalars-chars text u))
