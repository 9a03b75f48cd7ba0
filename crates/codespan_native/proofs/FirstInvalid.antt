-- Searches for what is invalid, for the clauses of `first_invalid`.
use Rattle.std.proofs.Common.{◌≡◌, ℕ, zero, suc, ◌+◌, ◌<◌, ◌≤◌, Bool, List}
use Rattle.std.proofs.Common.{[], ◌∷◌, get_or, length, Option, None, Some, inl, inr, arith}
use Rattle.std.proofs.Common.{refl, rules, subst}
use Rattle.std.specs.Prelude.{IsTrue, MatchOption}
use Rattle.std.proofs.lemmas.Bool.{cases_lt}
use Rattle.std.specs.List.{HoldsAt}
use Rattle.codespan_native.specs.declared.error.Argument.{Argument}
use Rattle.codespan_native.specs.declared.error.Argument.TheVariants.{Abi, DisplayStyle, Layout}
use Rattle.codespan_native.specs.declared.error.Argument.TheVariants.{Form, ColorMode, Characters}
use Rattle.codespan_native.specs.declared.error.Argument.TheVariants.{SnippetStart, Character}
use Rattle.codespan_native.specs.declared.error.Argument.TheVariants.{Color, ConfigReserved}
use Rattle.codespan_native.specs.declared.error.Argument.TheVariants.{FileName, FileSource}
use Rattle.codespan_native.specs.declared.error.Argument.TheVariants.{FileLines, FileLocations}
use Rattle.codespan_native.specs.declared.error.Argument.TheVariants.{FileReserved, Severity, Code}
use Rattle.codespan_native.specs.declared.error.Argument.TheVariants.{Message, DiagnosticReserved}
use Rattle.codespan_native.specs.declared.error.Argument.TheVariants.{LabelStyle, LabelMessage}
use Rattle.codespan_native.specs.declared.error.Argument.TheVariants.{LabelFile, LabelReserved}
use Rattle.codespan_native.specs.declared.error.Argument.TheVariants.{Note}
use Rattle.codespan_native.specs.declared.raw.RawConfig.{RawConfig}
use Rattle.codespan_native.specs.declared.raw.RawDiagnostic.{RawDiagnostic}
use Rattle.codespan_native.specs.declared.raw.RawFile.{RawFile}
use Rattle.codespan_native.specs.Validity.{FindsFirstInvalid, FindsFirstWithout, HoldsIfAt}
use Rattle.codespan_native.specs.Validity.{IsFirstInvalid, IsFirstInvalidIndex, IsValidAt}
use Rattle.codespan_native.specs.Validity.{argument_number}

-- what a search among values found, by their indices
pub by_index : {X : Type 0} (P : X → Type 0) (xs : List X) (r : Option ℕ)
    → FindsFirstWithout P xs r → FindsFirstInvalid (HoldsIfAt P xs) r
by_index P xs None all = λ i d below. all i d (omega arith) below
by_index P xs (Some i) found = record {
  invalid = refuted xs found.0 found.1;
  before = λ j lower d below. found.2 j d (omega arith) lower;
}
  where
    refuted : (xs : List _) → i < length xs → HoldsAt (λ x. ¬ P x) xs i
        → ¬ HoldsIfAt P xs i
    refuted [] below wrong = λ holds. absurd (omega (arith, below))
    refuted (x ∷ xs) below wrong = λ holds. wrong x (holds x below)

-- the same under a condition that is met
pub where_chosen : (Chosen : Type 0) (Valid : ℕ → Type 0) (r : Option ℕ) → Chosen
    → FindsFirstInvalid Valid r → FindsFirstInvalid (λ i. Chosen → Valid i) r
where_chosen Chosen Valid None chosen all = λ i _. all i
where_chosen Chosen Valid (Some i) chosen found = record {
  invalid = λ holds. found.invalid (holds chosen);
  before = λ j lower _. found.before j lower;
}

-- what a test that decides a fact found
pub by_test : (test : Bool) (P : Type 0) (r : Option ℕ) → (IsTrue test → P)
    → (P → IsTrue test)
    → MatchOption r (IsTrue test) (λ index. (index ≡ 0) × ¬ IsTrue test)
    → FindsFirstInvalid (λ i. P) r
by_test test P None sound complete valid = λ i. sound valid
by_test test P (Some i) sound complete found = record {
  invalid = λ p. found.1 (complete p);
  before = λ j lower. absurd (omega (arith, found.0, lower));
}

-- ---- the order of the arguments

-- all arguments, by their numbers
abbrev pub in_order : List Argument
in_order =
    Abi ∷ DisplayStyle ∷ Layout ∷ Form ∷ ColorMode
    ∷ Characters ∷ SnippetStart ∷ Character ∷ Color ∷ ConfigReserved
    ∷ FileName ∷ FileSource ∷ FileLines ∷ FileLocations ∷ FileReserved
    ∷ Severity ∷ Code ∷ Message ∷ DiagnosticReserved ∷ LabelStyle
    ∷ LabelMessage ∷ LabelFile ∷ LabelReserved ∷ Note ∷ []

-- the argument of a number
at_number : (b : Argument) (i : ℕ) (d : Argument) → argument_number b ≡ i + 1
    → get_or in_order i d ≡ b
at_number Abi i d e = let at : i ≡ 0 = omega (arith, e) in rw at refl
at_number DisplayStyle i d e = let at : i ≡ 1 = omega (arith, e) in rw at refl
at_number Layout i d e = let at : i ≡ 2 = omega (arith, e) in rw at refl
at_number Form i d e = let at : i ≡ 3 = omega (arith, e) in rw at refl
at_number ColorMode i d e = let at : i ≡ 4 = omega (arith, e) in rw at refl
at_number Characters i d e = let at : i ≡ 5 = omega (arith, e) in rw at refl
at_number SnippetStart i d e = let at : i ≡ 6 = omega (arith, e) in rw at refl
at_number Character i d e = let at : i ≡ 7 = omega (arith, e) in rw at refl
at_number Color i d e = let at : i ≡ 8 = omega (arith, e) in rw at refl
at_number ConfigReserved i d e = let at : i ≡ 9 = omega (arith, e) in rw at refl
at_number FileName i d e = let at : i ≡ 10 = omega (arith, e) in rw at refl
at_number FileSource i d e = let at : i ≡ 11 = omega (arith, e) in rw at refl
at_number FileLines i d e = let at : i ≡ 12 = omega (arith, e) in rw at refl
at_number FileLocations i d e = let at : i ≡ 13 = omega (arith, e) in rw at refl
at_number FileReserved i d e = let at : i ≡ 14 = omega (arith, e) in rw at refl
at_number Severity i d e = let at : i ≡ 15 = omega (arith, e) in rw at refl
at_number Code i d e = let at : i ≡ 16 = omega (arith, e) in rw at refl
at_number Message i d e = let at : i ≡ 17 = omega (arith, e) in rw at refl
at_number DiagnosticReserved i d e = let at : i ≡ 18 = omega (arith, e) in rw at refl
at_number LabelStyle i d e = let at : i ≡ 19 = omega (arith, e) in rw at refl
at_number LabelMessage i d e = let at : i ≡ 20 = omega (arith, e) in rw at refl
at_number LabelFile i d e = let at : i ≡ 21 = omega (arith, e) in rw at refl
at_number LabelReserved i d e = let at : i ≡ 22 = omega (arith, e) in rw at refl
at_number Note i d e = let at : i ≡ 23 = omega (arith, e) in rw at refl

-- the numbers of arguments from this one on
abbrev AreNumbered : ℕ → List Argument → Type 0
AreNumbered n [] = Unit {0}
AreNumbered n (a ∷ more) = (argument_number a ≡ n) × AreNumbered (n + 1) more

number_at : (n : ℕ) (arguments : List Argument) (i : ℕ) (d : Argument)
    → AreNumbered n arguments
    → i < length arguments → argument_number (get_or arguments i d) ≡ n + i
number_at n [] i d h below = absurd (omega (arith, below))
number_at n (a ∷ more) zero d h below = omega (arith, h.0)
number_at n (a ∷ more) (suc i) d h below =
    omega (arith, number_at (n + 1) more i d h.1 (omega (arith, below)))

numbered : AreNumbered 1 in_order
numbered = search rules

module _ (files : List RawFile) (d : RawDiagnostic) (c : RawConfig) (i : ℕ) where
  -- one more argument is valid
  pub next-valid : ((b : Argument) (j : ℕ) → argument_number b ≤ i
      → IsValidAt files d c b j)
      → ((j : ℕ) → IsValidAt files d c (get_or in_order i Abi) j)
      → (b : Argument) (j : ℕ) → argument_number b ≤ i + 1 → IsValidAt files d c b j
  next-valid before here b j low = elim (cases_lt i (argument_number b)) [
    | inl above ↦
        let is : argument_number b ≡ i + 1 = omega (arith, above, low) in
        subst (λ a. IsValidAt files d c a j) (at_number b i Abi is) (here j)
    | inr below ↦ before b j below
  ]

  -- the argument at the index is the first invalid one
  pub first-found : (index : ℕ) → i < 24
      → ((b : Argument) (j : ℕ) → argument_number b ≤ i → IsValidAt files d c b j)
      → IsFirstInvalidIndex (IsValidAt files d c (get_or in_order i Abi)) index
      → IsFirstInvalid files d c (get_or in_order i Abi) index
  first-found index inside before found = record {
    invalid = found.invalid;
    before = found.before;
    arguments_before = λ b j lower.
        let number : argument_number (get_or in_order i Abi) ≡ 1 + i =
        number_at 1 in_order i Abi numbered inside in
        before b j (omega (arith, lower, number));
  }
