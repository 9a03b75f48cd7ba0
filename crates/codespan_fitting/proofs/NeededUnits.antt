-- For `refill_gaps`: which units a span needs.
use Rattle.codespan_core.proofs.Std.{◌≡◌, ℕ, ◌+◌, ◌<◌, ◌≤◌, Bool, true, false}
use Rattle.codespan_core.proofs.Std.{◌&&◌, nat_lt, nat_le, List, [], ◌∷◌, ◌++◌}
use Rattle.codespan_core.proofs.Std.{refl, sym, subst, arith, lt-ltb, le-ltb}
use Rattle.codespan_core.proofs.Std.{le-leb, lt-leb, ⊎_elim, ◌⊎◌, inl, inr, cases_eq, cases_lt}
use Rattle.codespan_core.proofs.Std.{len_utf8_bounds}
use Rattle.std.specs.Prelude.{⊤}
use Rattle.codespan_output.specs.FittedParts.{TextUnit, unit_bytes, units_of, with_char}
use Rattle.codespan_fitting.specs.Units.{end_of, start_of}
use Rattle.codespan_fitting.proofs.UnitLemmas.{with-cell, with-no_cell}

-- ---- units have bytes

-- each of these units has a byte
abbrev pub HaveBytes : List TextUnit → Type 0
HaveBytes [] = ⊤
HaveBytes (u ∷ us) = (0 < u.bytes) × HaveBytes us

with-bytes : (tab c : ℕ) (us : List TextUnit) → HaveBytes us → HaveBytes (with_char tab c us)
with-bytes tab c [] h = (omega (arith, (len_utf8_bounds c).0), tt)
with-bytes tab c (u ∷ us) h =
    ⊎_elim
    (λ none.
    subst HaveBytes (sym (with-no_cell tab c u us none))
    (omega (arith, (len_utf8_bounds c).0), h.1))
    (λ some.
    subst HaveBytes (sym (with-cell tab c u us some)) (omega (arith, (len_utf8_bounds c).0), h))
    (cases_eq u.cells 0)

pub units-have-bytes : (tab : ℕ) (cs : List ℕ) → HaveBytes (units_of tab cs)
units-have-bytes tab [] = tt
units-have-bytes tab (c ∷ cs) = with-bytes tab c (units_of tab cs) (units-have-bytes tab cs)

has-bytes : (xs : List TextUnit) (u : TextUnit) (ys : List TextUnit) → HaveBytes (xs ++ u ∷ ys)
    → 0 < u.bytes
has-bytes [] u ys h = h.0
has-bytes (x ∷ xs) u ys h = has-bytes xs u ys h.1

-- ---- a unit is before the unit of a byte, or not

start-least : (at byte : ℕ) (us : List TextUnit) → at ≤ start_of at byte us
start-least at byte [] = omega arith
start-least at byte (u ∷ us) =
    ⊎_elim
    (λ here. rw (lt-ltb byte (at + u.bytes) here) (omega arith))
    (λ past.
    rw (le-ltb byte (at + u.bytes) past) (omega (arith, start-least (at + u.bytes) byte us)))
    (cases_lt byte (at + u.bytes))

end-least : (at byte : ℕ) (us : List TextUnit) → at ≤ end_of at byte us
end-least at byte [] = omega arith
end-least at byte (u ∷ us) =
    ⊎_elim
    (λ here. rw (lt-ltb byte (at + u.bytes) here) (omega arith))
    (λ past.
    rw (le-ltb byte (at + u.bytes) past) (omega (arith, end-least (at + u.bytes) byte us)))
    (cases_lt byte (at + u.bytes))

pub start-unit : (at byte : ℕ) (xs : List TextUnit) (u : TextUnit) (ys : List TextUnit)
    → ((start_of at byte (xs ++ u ∷ ys) ≤ at + unit_bytes xs)
    × (byte < at + unit_bytes xs + u.bytes))
    ⊎ ((at + unit_bytes xs + u.bytes ≤ start_of at byte (xs ++ u ∷ ys))
    × (at + unit_bytes xs + u.bytes ≤ byte))
start-unit at byte [] u ys =
    ⊎_elim
    (λ here. rw (lt-ltb byte (at + u.bytes) here) (inl (omega arith, omega (arith, here))))
    (λ past.
    rw (le-ltb byte (at + u.bytes) past)
    (inr (omega (arith, start-least (at + u.bytes) byte ys), omega (arith, past))))
    (cases_lt byte (at + u.bytes))
start-unit at byte (x ∷ xs) u ys =
    ⊎_elim
    (λ here. rw (lt-ltb byte (at + x.bytes) here) (inl (omega arith, omega (arith, here))))
    (λ past.
    rw (le-ltb byte (at + x.bytes) past)
    (⊎_elim
    (λ h. inl (omega (arith, h.0), omega (arith, h.1)))
    (λ h. inr (omega (arith, h.0), omega (arith, h.1)))
    (start-unit (at + x.bytes) byte xs u ys)))
    (cases_lt byte (at + x.bytes))

pub end-unit : (at byte : ℕ) (xs : List TextUnit) (u : TextUnit) (ys : List TextUnit)
    → at ≤ byte
    → ((at + unit_bytes xs + u.bytes ≤ end_of at byte (xs ++ u ∷ ys))
    × (at + unit_bytes xs ≤ byte))
    ⊎ ((end_of at byte (xs ++ u ∷ ys) ≤ at + unit_bytes xs) × (byte < at + unit_bytes xs))
end-unit at byte [] u ys low =
    ⊎_elim
    (λ here. rw (lt-ltb byte (at + u.bytes) here) (inl (omega arith, omega (arith, low))))
    (λ past.
    rw (le-ltb byte (at + u.bytes) past)
    (inl (omega (arith, end-least (at + u.bytes) byte ys), omega (arith, low))))
    (cases_lt byte (at + u.bytes))
end-unit at byte (x ∷ xs) u ys low =
    ⊎_elim
    (λ here. rw (lt-ltb byte (at + x.bytes) here) (inr (omega arith, omega (arith, here))))
    (λ past.
    rw (le-ltb byte (at + x.bytes) past)
    (⊎_elim
    (λ h. inl (omega (arith, h.0), omega (arith, h.1)))
    (λ h. inr (omega (arith, h.0), omega (arith, h.1)))
    (end-unit (at + x.bytes) byte xs u ys past)))
    (cases_lt byte (at + x.bytes))

-- ---- a unit and a span

-- a byte from `p` to before `q` is in the span
abbrev pub has_byte : ℕ × ℕ → ℕ → ℕ → Bool
has_byte s p q = nat_lt s.0 q && nat_le p s.1

pub has-first : (s : ℕ × ℕ) (p q : ℕ) → q ≤ s.0 → has_byte s p q ≡ false
has-first s p q h = rw (le-ltb s.0 q h) refl

has-last : (s : ℕ × ℕ) (p q : ℕ) → s.1 < p → has_byte s p q ≡ false
has-last s p q h =
    ⊎_elim
    (λ some. rw (lt-ltb s.0 q some, lt-leb p s.1 h) refl)
    (λ none. has-first s p q none)
    (cases_lt s.0 q)

has-both : (s : ℕ × ℕ) (p q : ℕ) → s.0 < q → p ≤ s.1 → has_byte s p q ≡ true
has-both s p q some within = rw (lt-ltb s.0 q some, le-leb p s.1 within) refl

-- the units of a span are those from the one of its first byte to the one of its last byte
pub record IsSpanUnit (s : ℕ × ℕ) (p q start end : ℕ) : Type 0 where
  pub before : q ≤ start → has_byte s p q ≡ false
  pub after : end ≤ p → has_byte s p q ≡ false
  pub none : end ≤ start → has_byte s p q ≡ false
  pub inside : start ≤ p → q ≤ end → has_byte s p q ≡ true

pub span-unit : (s : ℕ × ℕ) (us xs : List TextUnit) (u : TextUnit) (ys : List TextUnit)
    → HaveBytes us → us ≡ xs ++ u ∷ ys
    → IsSpanUnit s (unit_bytes xs) (unit_bytes xs + u.bytes) (start_of 0 s.0 us)
    (end_of 0 s.1 us)
span-unit s us xs u ys some split =
    rw split
    (⊎_elim
    (λ a. ⊎_elim
    (λ b. record {
      before = λ h. absurd (omega (arith, a.0, h, bytes));
      after = λ h. absurd (omega (arith, b.0, h, bytes));
      none = λ h. absurd (omega (arith, a.0, b.0, h, bytes));
      inside = λ _ _. has-both s p q (omega (arith, a.1)) (omega (arith, b.1));
    })
    (λ b. record {
      before = λ h. absurd (omega (arith, a.0, h, bytes));
      after = λ _. has-last s p q (omega (arith, b.1));
      none = λ _. has-last s p q (omega (arith, b.1));
      inside = λ _ h. absurd (omega (arith, b.0, h, bytes));
    })
    (end-unit 0 s.1 xs u ys (omega arith)))
    (λ a. record {
      before = λ _. has-first s p q (omega (arith, a.1));
      after = λ _. has-first s p q (omega (arith, a.1));
      none = λ _. has-first s p q (omega (arith, a.1));
      inside = λ h _. absurd (omega (arith, a.0, h, bytes));
    })
    (start-unit 0 s.0 xs u ys))
  where
    p : ℕ
    p = unit_bytes xs

    q : ℕ
    q = unit_bytes xs + u.bytes

    bytes : 0 < u.bytes
    bytes = has-bytes xs u ys (subst HaveBytes split some)

-- the unit of a byte begins at it or before it
pub start-most : (at byte : ℕ) (us : List TextUnit) → at ≤ byte → start_of at byte us ≤ byte
start-most at byte [] low = low
start-most at byte (u ∷ us) low =
    ⊎_elim
    (λ here. rw (lt-ltb byte (at + u.bytes) here) low)
    (λ past. rw (le-ltb byte (at + u.bytes) past) (start-most (at + u.bytes) byte us past))
    (cases_lt byte (at + u.bytes))
