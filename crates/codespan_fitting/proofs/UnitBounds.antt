-- For `unit_start` and `unit_end`: the unit of a byte of a text.
use Rattle.codespan_core.proofs.Std.{◌≡◌, ℕ, ◌+◌, ◌<◌, ◌≤◌, List, [], ◌∷◌}
use Rattle.codespan_core.proofs.Std.{◌++◌, length, take, drop, refl, ap, sym, ◌∙◌}
use Rattle.codespan_core.proofs.Std.{subst, arith, lt-ltb, le-ltb, ⊎_elim, cases_lt, inl, inr}
use Rattle.codespan_core.proofs.Std.{◌⊎◌, append_assoc, take-append-drop, take-append_seam}
use Rattle.codespan_core.proofs.Std.{length-take-le, IsUtf8, IsCharBoundary, chars, len_utf8_bounds}
use Rattle.std.proofs.lemmas.Str.{IsUtf8-take, chars-append}
use Rattle.codespan_output.specs.FittedParts.{TextUnit, cells_at_most, unit_bytes, units_of}
use Rattle.codespan_fitting.specs.Units.{end_of, start_of}
use Rattle.codespan_fitting.specs.Walks.{BeginsUnit, HaveNoCells, char_bytes, text_units}
use Rattle.codespan_fitting.proofs.LastUnits.{bytes-append, single-unit, units-append}
use Rattle.codespan_fitting.proofs.SplitUnits.{text-split}
use Rattle.codespan_fitting.proofs.TextSteps.{text-bytes}
use Rattle.codespan_fitting.proofs.UnitLemmas.{units-bytes}

-- ---- the unit of a byte among units

-- it is the one that begins at the byte or before it, and ends after it
pub bounds-at : (at byte : ℕ) (xs : List TextUnit) (u : TextUnit) (ys : List TextUnit)
    → at + unit_bytes xs ≤ byte → byte < at + unit_bytes xs + u.bytes
    → (start_of at byte (xs ++ u ∷ ys) ≡ at + unit_bytes xs)
    × (end_of at byte (xs ++ u ∷ ys) ≡ at + unit_bytes xs + u.bytes)
bounds-at at byte [] u ys from to =
    let here : byte < at + u.bytes = omega (arith, to) in
    rw (lt-ltb byte (at + u.bytes) here) (omega arith, omega arith)
bounds-at at byte (x ∷ xs) u ys from to =
    let past : at + x.bytes ≤ byte = omega (arith, from) in
    let rest = bounds-at (at + x.bytes) byte xs u ys (omega (arith, from)) (omega (arith, to)) in
    rw (le-ltb byte (at + x.bytes) past) (omega (arith, rest.0), omega (arith, rest.1))

-- past the last unit it is their end
pub bounds-past : (at byte : ℕ) (us : List TextUnit) → at + unit_bytes us ≤ byte
    → (start_of at byte us ≡ at + unit_bytes us) × (end_of at byte us ≡ at + unit_bytes us)
bounds-past at byte [] past = (omega arith, omega arith)
bounds-past at byte (u ∷ us) past =
    let later : at + u.bytes ≤ byte = omega (arith, past) in
    let rest = bounds-past (at + u.bytes) byte us (omega (arith, past)) in
    rw (le-ltb byte (at + u.bytes) later) (omega (arith, rest.0), omega (arith, rest.1))

pub text-past : (tab byte : ℕ) (text : List ℕ) → IsUtf8 text → length text ≤ byte
    → (length text ≡ start_of 0 byte (text_units tab text))
    × (length text ≡ end_of 0 byte (text_units tab text))
text-past tab byte text u past =
    let size : unit_bytes (text_units tab text) ≡ length text =
    units-bytes tab (chars text) ∙ text-bytes text u in
    let all = bounds-past 0 byte (text_units tab text) (omega (arith, size, past)) in
    (omega (arith, size, all.0), omega (arith, size, all.1))

-- ---- the last unit of characters, and the first ones without cells

no-cells-append : (tab : ℕ) (xs ys : List ℕ) → HaveNoCells tab xs → HaveNoCells tab ys
    → HaveNoCells tab (xs ++ ys)
no-cells-append tab [] ys h k = k
no-cells-append tab (x ∷ xs) ys h k = (h.0, no-cells-append tab xs ys h.1 k)

-- these characters end with a unit of them, or are one
pub record EndsWithUnit (tab : ℕ) (cs : List ℕ) : Type 0 where
  pub front : List ℕ
  pub first : ℕ
  pub rest : List ℕ
  pub split : cs ≡ front ++ first ∷ rest
  pub joins : HaveNoCells tab rest
  pub begins : (front ≡ []) ⊎ (0 < cells_at_most tab first)

ends-with : (tab c d : ℕ) (cs : List ℕ) → EndsWithUnit tab (d ∷ cs)
    → EndsWithUnit tab (c ∷ d ∷ cs)
ends-with tab c d cs h =
    ⊎_elim
    (λ none. by_cells (cells_at_most tab h.first) refl none)
    (λ some. record {
      front = c ∷ h.front;
      first = h.first;
      rest = h.rest;
      split = ap (λ xs. c ∷ xs) h.split;
      joins = h.joins;
      begins = inr some;
    })
    h.begins
  where
    by_cells : (n : ℕ) → cells_at_most tab h.first ≡ n → h.front ≡ []
        → EndsWithUnit tab (c ∷ d ∷ cs)
    by_cells n is none =
        ⊎_elim
        (λ some. record {
          front = c ∷ [];
          first = h.first;
          rest = h.rest;
          split = ap (λ xs. c ∷ xs) (h.split ∙ ap (λ xs. xs ++ h.first ∷ h.rest) none);
          joins = h.joins;
          begins = inr (omega (arith, is, some));
        })
        (λ few. record {
          front = [];
          first = c;
          rest = h.first ∷ h.rest;
          split = ap (λ xs. c ∷ xs) (h.split ∙ ap (λ xs. xs ++ h.first ∷ h.rest) none);
          joins = (omega (arith, is, few), h.joins);
          begins = inl refl;
        })
        (cases_lt 0 n)

pub last-unit : (tab c : ℕ) (cs : List ℕ) → EndsWithUnit tab (c ∷ cs)
last-unit tab c [] = record {
  front = [];
  first = c;
  rest = [];
  split = refl;
  joins = tt;
  begins = inl refl;
}
last-unit tab c (d ∷ cs) = ends-with tab c d cs (last-unit tab d cs)

-- these characters begin with some without cells, and then with a unit
pub record BeginsJoined (tab : ℕ) (cs : List ℕ) : Type 0 where
  pub joined : List ℕ
  pub rest : List ℕ
  pub split : cs ≡ joined ++ rest
  pub joins : HaveNoCells tab joined
  pub begins : BeginsUnit tab rest

pub first-joined : (tab : ℕ) (cs : List ℕ) → BeginsJoined tab cs
first-joined tab [] =
    record { joined = []; rest = []; split = refl; joins = tt; begins = tt }
first-joined tab (c ∷ cs) =
    ⊎_elim
    (λ some. record {
      joined = [];
      rest = c ∷ cs;
      split = refl;
      joins = tt;
      begins = some;
    })
    (λ none.
    let more = first-joined tab cs in
    record {
      joined = c ∷ more.joined;
      rest = more.rest;
      split = ap (λ xs. c ∷ xs) more.split;
      joins = (omega (arith, none), more.joins);
      begins = more.begins;
    })
    (cases_lt 0 (cells_at_most tab c))

-- ---- the unit of a byte of a text

-- the units before a unit and from it on
record IsUnitAt (tab : ℕ) (cs front back : List ℕ) (bytes : ℕ) : Type 0 where
  unit : TextUnit
  units : units_of tab cs ≡ units_of tab front ++ unit ∷ units_of tab back
  size : unit.bytes ≡ bytes

unit-at : (tab : ℕ) (cs front : List ℕ) (first : ℕ) (joined back : List ℕ)
    → cs ≡ front ++ ((first ∷ joined) ++ back)
    → HaveNoCells tab joined → (front ≡ []) ⊎ (0 < cells_at_most tab first)
    → BeginsUnit tab back → IsUnitAt tab cs front back (char_bytes (first ∷ joined))
unit-at tab cs front first joined back split joins begins later =
    let one = single-unit tab first joined joins in
    let inner : units_of tab ((first ∷ joined) ++ back)
    ≡ record { bytes = one.bytes; cells = cells_at_most tab first } ∷ units_of tab back =
    units-append tab (first ∷ joined) back later ∙ ap (λ us. us ++ units_of tab back) one.is in
    let outer : units_of tab (front ++ ((first ∷ joined) ++ back))
    ≡ units_of tab front ++ units_of tab ((first ∷ joined) ++ back) =
    ⊎_elim
    (λ none. rw none refl)
    (λ some. units-append tab front ((first ∷ joined) ++ back) some)
    begins in
    record {
      unit = record { bytes = one.bytes; cells = cells_at_most tab first };
      units =
          ap (units_of tab) split ∙ outer ∙ ap (λ us. units_of tab front ++ us) inner;
      size = omega (arith, ap unit_bytes one.is, units-bytes tab (first ∷ joined));
    }

-- a byte with the next byte at which a character begins
pub record IsInside (text : List ℕ) (byte next : ℕ) : Type 0 where
  pub utf8 : IsUtf8 text
  pub boundary : IsCharBoundary text next
  pub past : byte < next
  pub nearest : (i : ℕ) → byte + 1 ≤ i → i < next → IsCharBoundary text i → ⊥

pub unit-bounds : (tab byte next : ℕ) (text front : List ℕ) (first : ℕ)
    (rest joined back : List ℕ)
    → IsInside text byte next → chars (take next text) ≡ front ++ first ∷ rest
    → HaveNoCells tab rest → (front ≡ []) ⊎ (0 < cells_at_most tab first)
    → chars (drop next text) ≡ joined ++ back → HaveNoCells tab joined
    → BeginsUnit tab back
    → (char_bytes front ≡ start_of 0 byte (text_units tab text))
    × (next + char_bytes joined ≡ end_of 0 byte (text_units tab text))
unit-bounds tab byte next text front first rest joined back h before joins begins after more later =
    let low = IsUtf8-take text next h.utf8 h.boundary in
    let split : chars text ≡ front ++ ((first ∷ (rest ++ joined)) ++ back) =
    ap chars (sym (take-append-drop next text))
    ∙ chars-append (take next text) (drop next text) low
    ∙ ap (λ xs. xs ++ chars (drop next text)) before
    ∙ ap (λ xs. (front ++ first ∷ rest) ++ xs) after
    ∙ append_assoc front (first ∷ rest) (joined ++ back)
    ∙ ap (λ xs. front ++ xs) (sym (append_assoc (first ∷ rest) joined back)) in
    let u = unit-at tab (chars text) front first (rest ++ joined) back split
    (no-cells-append tab rest joined joins more) begins later in
    let size : char_bytes front + char_bytes (first ∷ rest) ≡ next =
    sym (bytes-append front (first ∷ rest))
    ∙ ap char_bytes (sym before)
    ∙ text-bytes (take next text) low
    ∙ length-take-le next text h.boundary.0 in
    let front-bytes = units-bytes tab front in
    let both = bytes-append (first ∷ rest) joined in
    let at : take (length (units_of tab front)) (text_units tab text) ≡ units_of tab front =
    ap (take (length (units_of tab front))) u.units
    ∙ take-append_seam (units_of tab front) (u.unit ∷ units_of tab back) in
    let boundary : IsCharBoundary text (char_bytes front) =
    subst (IsCharBoundary text) (ap unit_bytes at ∙ front-bytes)
    (text-split tab text (length (units_of tab front)) h.utf8).boundary in
    let some : char_bytes front < next = omega (arith, size, (len_utf8_bounds first).0) in
    let from : char_bytes front ≤ byte =
    ⊎_elim
    (λ past. absurd (h.nearest (char_bytes front) (omega (arith, past)) some boundary))
    (λ within. within)
    (cases_lt byte (char_bytes front)) in
    let bounds = bounds-at 0 byte (units_of tab front) u.unit (units_of tab back)
    (omega (arith, front-bytes, from))
    (omega (arith, front-bytes, u.size, both, size, h.past)) in
    rw u.units (
      omega (arith, bounds.0, front-bytes),
      omega (arith, bounds.1, front-bytes, u.size, both, size),
    )

-- there is a character before the next one
pub inside-some : (text : List ℕ) (byte next : ℕ) → IsInside text byte next
    → chars (take next text) ≡ [] → ⊥
inside-some text byte next h none =
    omega (
      arith,
      text-bytes (take next text) (IsUtf8-take text next h.utf8 h.boundary),
      ap char_bytes none,
      length-take-le next text h.boundary.0,
      h.past,
    )
