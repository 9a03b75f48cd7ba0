-- Facts on prefixes of whole characters, for the clauses of `byte_of_character` and for the laws.
use Rattle.std.proofs.Common.{◌≡◌, ℕ, ◌+◌, ◌-◌, ◌<◌, ◌≤◌, true, List, []}
use Rattle.std.proofs.Common.{◌∷◌, ◌++◌, ap, refl, arith, inl, inr}
use Rattle.std.proofs.lemmas.Bool.{cases_lt, le-leb, lt-leb, and_parts}
use Rattle.std.proofs.lemmas.List.Sums.{sum_by-cons}
use Rattle.std.specs.Str.{all_scalars}
use Rattle.codespan_lsp.specs.Units.{char_units, total_units, prefix_within}
use Rattle.codespan_lsp.specs.declared.encoding.PositionEncoding.{PositionEncoding}
use Rattle.codespan_lsp.proofs.UnitLemmas.{char_units_bounds}
use Rattle.std.proofs.lemmas.Grind.{common_steps}

-- characters cut in two
pub record Cut (whole front : List ℕ) : Type 0 where
  pub back : List ℕ
  pub whole_is : whole ≡ front ++ back
  pub front_chars : all_scalars front ≡ true
  pub back_chars : all_scalars back ≡ true

cut-cons : (c : ℕ) (cs front : List ℕ) → all_scalars (c ∷ cs) ≡ true → Cut cs front
    → Cut (c ∷ cs) (c ∷ front)
cut-cons c cs front all k = grind (arith, common_steps, and_parts)

module _ (encoding : PositionEncoding) where
  -- the prefix is a front of the characters
  pub prefix-cut : (n : ℕ) (cs : List ℕ) → all_scalars cs ≡ true
      → Cut cs (prefix_within encoding n cs)
  prefix-cut n [] all = record { back = []; whole_is = refl; front_chars = refl; back_chars = refl }
  prefix-cut n (c ∷ cs) all =
      elim (cases_lt n (char_units encoding c)) [
        | inl p ↦ rw (lt-leb (char_units encoding c) n p)
            record { back = c ∷ cs; whole_is = refl; front_chars = refl; back_chars = all }
        | inr p ↦ rw (le-leb (char_units encoding c) n p) (cut-cons c cs _ all
            (prefix-cut (n - char_units encoding c) cs (and_parts _ (all_scalars cs) all).1))
      ]

  -- it has at most n code units
  pub prefix-le : (n : ℕ) (cs : List ℕ)
      → total_units encoding (prefix_within encoding n cs) ≤ n
  prefix-le n [] = omega arith
  prefix-le n (c ∷ cs) =
      grind (
        arith,
        common_steps,
        cases_lt,
        lt-leb,
        le-leb,
        sum_by-cons,
        prefix-le (n - char_units encoding c) cs,
      )

  -- it is the whole where the whole has at most n
  pub prefix-whole : (n : ℕ) (cs : List ℕ) → total_units encoding cs ≤ n
      → prefix_within encoding n cs ≡ cs
  prefix-whole n [] h = refl
  prefix-whole n (c ∷ cs) h =
      let sum = sum_by-cons (char_units encoding) c cs in
      let fits : char_units encoding c ≤ n = omega (arith, sum, h) in
      rw (le-leb (char_units encoding c) n fits)
      (ap (λ xs. c ∷ xs) (prefix-whole (n - char_units encoding c) cs (omega (arith, sum, h))))

  -- it is the characters of so many code units, if a front has them
  pub prefix-exact : (n : ℕ) (front back : List ℕ) → total_units encoding front ≡ n
      → prefix_within encoding n (front ++ back) ≡ front
  prefix-exact n [] [] h = refl
  prefix-exact n [] (c ∷ back) h = grind (arith, common_steps, lt-leb, char_units_bounds)
  prefix-exact n (c ∷ front) back h =
      let sum = sum_by-cons (char_units encoding) c front in
      rw (le-leb (char_units encoding c) n (omega (arith, sum, h)))
      (ap (λ xs. c ∷ xs)
      (prefix-exact (n - char_units encoding c) front back (omega (arith, sum, h))))

  -- and those before a character whose code units they end in
  pub prefix-inside : (n : ℕ) (front : List ℕ) (c : ℕ) (back : List ℕ)
      → total_units encoding front ≤ n
      → n < total_units encoding front + char_units encoding c
      → prefix_within encoding n (front ++ c ∷ back) ≡ front
  prefix-inside n [] c back low high = grind (arith, common_steps, lt-leb)
  prefix-inside n (d ∷ front) c back low high =
      let sum = sum_by-cons (char_units encoding) d front in
      rw (le-leb (char_units encoding d) n (omega (arith, sum, low)))
      (ap (λ xs. d ∷ xs)
      (prefix-inside (n - char_units encoding d) front c back (omega (arith, sum, low))
      (omega (arith, sum, low, high))))
