-- For `left_out`: a text is cut between two of its units.
use Rattle.codespan_core.proofs.Std.{◌≡◌, ℕ, zero, suc, ◌+◌, ◌≤◌, true, List, []}
use Rattle.codespan_core.proofs.Std.{◌∷◌, ◌++◌, length, take, drop, refl, ap, sym}
use Rattle.codespan_core.proofs.Std.{◌∙◌, subst, arith, ⊎_elim, cases_eq, append-nil}
use Rattle.codespan_core.proofs.Std.{take_all, and_parts, take-append_seam, IsUtf8, IsCharBoundary}
use Rattle.codespan_core.proofs.Std.{chars, len_utf8_bounds}
use Rattle.std.proofs.lemmas.List.{drop_all}
use Rattle.std.proofs.Math.Seq.{drop-append_seam}
use Rattle.std.proofs.Math.Utf8.{encodes, scalar, scalars}
use Rattle.std.proofs.lemmas.Str.{chars-encodes, encodes-append, encodes-chars, scalars-chars}
use Rattle.std.proofs.lemmas.Str.{IsCharBoundary-at_seam}
use Rattle.codespan_output.specs.FittedParts.{TextUnit, unit_bytes, units_of, with_char}
use Rattle.codespan_fitting.specs.Walks.{char_bytes, text_units}
use Rattle.codespan_fitting.proofs.TextSteps.{encoded-bytes, text-bytes}
use Rattle.codespan_fitting.proofs.UnitLemmas.{joined_unit, unit_of, units-bytes, with-cell}
use Rattle.codespan_fitting.proofs.UnitLemmas.{with-no_cell}

-- these characters before a unit and from it on
record IsSplit (tab : ℕ) (cs : List ℕ) (k : ℕ) : Type 0 where
  front : List ℕ
  back : List ℕ
  split : cs ≡ front ++ back
  first : units_of tab front ≡ take k (units_of tab cs)
  rest : units_of tab back ≡ drop k (units_of tab cs)

-- the first of the units with a character more
take-with : (tab c k : ℕ) (u : TextUnit) (us : List TextUnit) → (u.cells ≡ 0 → ⊥)
    → with_char tab c (take k (u ∷ us)) ≡ unit_of tab c ∷ take k (u ∷ us)
take-with tab c zero u us some = refl
take-with tab c (suc k) u us some = with-cell tab c u (take k us) some

split-char : (tab c k : ℕ) (cs : List ℕ) (us : List TextUnit) → units_of tab cs ≡ us
    → IsSplit tab cs k → IsSplit tab cs (suc k) → IsSplit tab (c ∷ cs) (suc k)
split-char tab c k cs [] e one more =
    let all : units_of tab (c ∷ cs) ≡ unit_of tab c ∷ [] = ap (with_char tab c) e in
    let short : length (units_of tab (c ∷ cs)) ≤ suc k = omega (arith, ap length all) in
    record {
      front = c ∷ cs;
      back = [];
      split = sym (append-nil (c ∷ cs));
      first = sym (take_all (suc k) (units_of tab (c ∷ cs)) short);
      rest = sym (drop_all (suc k) (units_of tab (c ∷ cs)) short);
    }
split-char tab c k cs (u ∷ us) e one more =
    ⊎_elim
    (λ none.
    let all : units_of tab (c ∷ cs) ≡ joined_unit tab c u ∷ us =
    ap (with_char tab c) e ∙ with-no_cell tab c u us none in
    record {
      front = c ∷ more.front;
      back = more.back;
      split = ap (λ xs. c ∷ xs) more.split;
      first =
          ap (with_char tab c) (more.first ∙ ap (take (suc k)) e)
          ∙ with-no_cell tab c u (take k us) none
          ∙ sym (ap (take (suc k)) all);
      rest = more.rest ∙ ap (drop (suc k)) e ∙ sym (ap (drop (suc k)) all);
    })
    (λ some.
    let all : units_of tab (c ∷ cs) ≡ unit_of tab c ∷ u ∷ us =
    ap (with_char tab c) e ∙ with-cell tab c u us some in
    record {
      front = c ∷ one.front;
      back = one.back;
      split = ap (λ xs. c ∷ xs) one.split;
      first =
          ap (with_char tab c) (one.first ∙ ap (take k) e)
          ∙ take-with tab c k u us some
          ∙ sym (ap (take (suc k)) all);
      rest = one.rest ∙ ap (drop k) e ∙ sym (ap (drop (suc k)) all);
    })
    (cases_eq u.cells 0)

split-units : (tab : ℕ) (cs : List ℕ) (k : ℕ) → IsSplit tab cs k
split-units tab cs zero =
    record { front = []; back = cs; split = refl; first = refl; rest = refl }
split-units tab [] (suc k) =
    record { front = []; back = []; split = refl; first = refl; rest = refl }
split-units tab (c ∷ cs) (suc k) =
    split-char tab c k cs (units_of tab cs) refl (split-units tab cs k)
    (split-units tab cs (suc k))

-- codes of characters in two parts
scalars-parts : (xs ys : List ℕ) → scalars (xs ++ ys) ≡ true
    → (scalars xs ≡ true) × (scalars ys ≡ true)
scalars-parts [] ys h = (refl, h)
scalars-parts (x ∷ xs) ys h =
    let parts = and_parts (scalar x) (scalars (xs ++ ys)) h in
    let rest = scalars-parts xs ys parts.1 in
    (rw (parts.0, rest.0) refl, rest.1)

-- a text before the byte of a unit and from it on
pub record IsTextSplit (tab : ℕ) (text : List ℕ) (k at : ℕ) : Type 0 where
  pub boundary : IsCharBoundary text at
  pub first : text_units tab (take at text) ≡ take k (text_units tab text)
  pub rest : text_units tab (drop at text) ≡ drop k (text_units tab text)

pub text-split : (tab : ℕ) (text : List ℕ) (k : ℕ) → IsUtf8 text
    → IsTextSplit tab text k (unit_bytes (take k (text_units tab text)))
text-split tab text k u =
    let s = split-units tab (chars text) k in
    let codes : scalars (s.front ++ s.back) ≡ true =
    ap scalars (sym s.split) ∙ scalars-chars text u in
    let both = scalars-parts s.front s.back codes in
    let bytes : text ≡ encodes s.front ++ encodes s.back =
    sym (encodes-chars text u) ∙ ap encodes s.split ∙ encodes-append s.front s.back in
    let at : length (encodes s.front) ≡ unit_bytes (take k (text_units tab text)) =
    encoded-bytes s.front ∙ sym (units-bytes tab s.front) ∙ ap unit_bytes s.first in
    let front : take (length (encodes s.front)) text ≡ encodes s.front =
    ap (take (length (encodes s.front))) bytes
    ∙ take-append_seam (encodes s.front) (encodes s.back) in
    let back : drop (length (encodes s.front)) text ≡ encodes s.back =
    ap (drop (length (encodes s.front))) bytes
    ∙ drop-append_seam (encodes s.front) (encodes s.back) in
    subst (IsTextSplit tab text k) at
    (record {
      boundary =
          IsCharBoundary-at_seam text (encodes s.front) (encodes s.back) bytes
          (s.back, (both.1, refl));
      first =
          ap (text_units tab) front
          ∙ ap (units_of tab) (chars-encodes s.front both.0)
          ∙ s.first;
      rest =
          ap (text_units tab) back ∙ ap (units_of tab) (chars-encodes s.back both.1) ∙ s.rest;
    })

-- a text has as many bytes as units, or more
with-length : (tab c : ℕ) (us : List TextUnit) → length (with_char tab c us) ≤ 1 + length us
with-length tab c [] = omega arith
with-length tab c (u ∷ us) =
    ⊎_elim
    (λ none. omega (arith, ap length (with-no_cell tab c u us none)))
    (λ some. omega (arith, ap length (with-cell tab c u us some)))
    (cases_eq u.cells 0)

units-short : (tab : ℕ) (cs : List ℕ) → length (units_of tab cs) ≤ char_bytes cs
units-short tab [] = omega arith
units-short tab (c ∷ cs) =
    omega (
      arith,
      with-length tab c (units_of tab cs),
      units-short tab cs,
      (len_utf8_bounds c).0,
    )

pub units-le : (tab : ℕ) (text : List ℕ) → IsUtf8 text
    → length (text_units tab text) ≤ length text
units-le tab text u = omega (arith, units-short tab (chars text), text-bytes text u)
