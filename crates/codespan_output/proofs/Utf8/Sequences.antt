-- For `outputs_are_utf8`: the elements of items in sequence and of what is between them, and what
-- holds of all of them.
use Rattle.codespan_core.proofs.Std.{◌≡◌, ℕ, ◌+◌, Bool, true, false, cond, ◌==◌}
use Rattle.codespan_core.proofs.Std.{List, [], ◌∷◌, ◌++◌, flat_map, Option, Some, None}
use Rattle.codespan_core.proofs.Std.{refl, ap, ap₂, ◌∙◌, AllByRecursion, cond_both}
use Rattle.std.proofs.lemmas.List.Concat.{flat_map-append}
use Rattle.codespan_output.specs.{break_between, gap_between, in_sequence}
use Rattle.codespan_output.proofs.Utf8.ListElements.{all-append}
use Rattle.codespan_output.specs.Private.{before_line, has_break_between}

module _ {A : Type 0} (P : A → Type 0) where
  -- what holds of all elements of breaks
  pub all-break : (broken : ℕ → List A) → ((d : ℕ) → AllByRecursion P (broken d))
      → (c d : ℕ)
      → AllByRecursion P (break_between broken c d)
  all-break broken each c d =
      cond_both (has_break_between c d) (broken d) [] (AllByRecursion P) (λ _. each d) (λ _. tt)

  -- and of all elements of filled lines
  pub all-gap : (filled broken : ℕ → List A) → ((l : ℕ) → AllByRecursion P (filled l))
      → ((d : ℕ) → AllByRecursion P (broken d))
      → (c d : ℕ) → AllByRecursion P (gap_between filled broken c d)
  all-gap filled broken fills breaks c d =
      cond_both (d == c + 2) (filled (c + 1)) (break_between broken c d) (AllByRecursion P)
      (λ _. fills (c + 1)) (λ _. all-break broken breaks c d)

  -- what holds of all elements between lines holds of those before one
  pub all-before : (between : ℕ → ℕ → List A)
      → ((c d : ℕ) → AllByRecursion P (between c d))
      → (previous : Option ℕ) (d : ℕ) → AllByRecursion P (before_line between previous d)
  all-before between gaps None d = tt
  all-before between gaps (Some c) d = gaps c d

  -- what holds of these and of the elements of the items holds of all
  pub all-sequence : {X : Type 0} (line_of : X → ℕ) (between : ℕ → ℕ → List A)
      (own : X → List A)
      → ((c d : ℕ) → AllByRecursion P (between c d))
      → ((x : X) → AllByRecursion P (own x))
      → (previous : Option ℕ) (xs : List X)
      → AllByRecursion P (in_sequence line_of between own previous xs)
  all-sequence line_of between own gaps each previous [] = tt
  all-sequence line_of between own gaps each previous (x ∷ xs) =
      all-append P (before_line between previous (line_of x) ++ own x)
      (in_sequence line_of between own (Some (line_of x)) xs)
      (all-append P (before_line between previous (line_of x)) (own x)
      (all-before between gaps previous (line_of x)) (each x))
      (all-sequence line_of between own gaps each (Some (line_of x)) xs)

-- the elements of a sequence are those of its items and of what is between them
pub flat_map-sequence : {X A B : Type 0} (expand : A → List B) (line_of : X → ℕ)
    (between : ℕ → ℕ → List A) (own : X → List A) (previous : Option ℕ) (xs : List X)
    → flat_map expand (in_sequence line_of between own previous xs)
    ≡ in_sequence line_of (λ c d. flat_map expand (between c d)) (λ x. flat_map expand (own x))
    previous xs
flat_map-sequence expand line_of between own previous [] = refl
flat_map-sequence {X} {A} {B} expand line_of between own previous (x ∷ xs) =
    flat_map-append expand (before_line between previous (line_of x) ++ own x)
    (in_sequence line_of between own (Some (line_of x)) xs)
    ∙ ap₂ (λ a b. a ++ b)
    (flat_map-append expand (before_line between previous (line_of x)) (own x)
    ∙ ap (λ (first : List B). first ++ flat_map expand (own x)) (before previous))
    (flat_map-sequence expand line_of between own (Some (line_of x)) xs)
  where
    before : (c : Option ℕ)
        → flat_map expand (before_line between c (line_of x)) ≡ before_line
        (λ c d. flat_map expand (between c d)) c (line_of x)
    before None = refl
    before (Some c) = refl

-- the elements of a gap are those of the filled line or of the break in it
pub flat_map-gap : {A B : Type 0} (expand : A → List B) (filled broken : ℕ → List A)
    (c d : ℕ)
    → flat_map expand (gap_between filled broken c d) ≡ gap_between
    (λ l. flat_map expand (filled l)) (λ l. flat_map expand (broken l)) c d
flat_map-gap expand filled broken c d = by_tests (d == c + 2) (has_break_between c d)
  where
    by_tests : (a b : Bool) → flat_map expand (cond a (filled (c + 1)) (cond b (broken d) []))
        ≡ cond a (flat_map expand (filled (c + 1))) (cond b (flat_map expand (broken d)) [])
    by_tests true b = refl
    by_tests false true = refl
    by_tests false false = refl

-- where breaks have no elements, a sequence has those of its items
pub sequence-flat : {X A : Type 0} (line_of : X → ℕ) (own : X → List A)
    (previous : Option ℕ)
    (xs : List X)
    → in_sequence line_of (break_between (λ _. [])) own previous xs ≡ flat_map own xs
sequence-flat line_of own previous [] = refl
sequence-flat {X} {A} line_of own previous (x ∷ xs) =
    ap (λ (first : List A). first ++ own x ++ in_sequence line_of (break_between (λ _. [])) own
    (Some (line_of x)) xs) (nothing previous)
    ∙ ap (λ (rest : List A). own x ++ rest) (sequence-flat line_of own (Some (line_of x)) xs)
  where
    by_test : (b : Bool) → cond {A = List A} b [] [] ≡ []
    by_test true = refl
    by_test false = refl

    nothing : (before : Option ℕ)
        → before_line {A = A} (break_between (λ _. [])) before (line_of x) ≡ []
    nothing None = refl
    nothing (Some c) = by_test (has_break_between c (line_of x))
