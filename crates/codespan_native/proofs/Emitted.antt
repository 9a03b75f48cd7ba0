-- What the call does, for the clause of `emit`: where an argument is invalid, where the output is
-- rendered, and where an allocation fails.
use Rattle.std.proofs.Common.{◌≡◌, ◌≢◌, ◌≤◌, ◌⊎◌, ◌∙◌, ℕ, List, inl}
use Rattle.std.proofs.Common.{inr, refl, sym, ap, subst, arith}
use Rattle.std.proofs.lemmas.Bool.{cases_order}
use Rattle.codespan_native.specs.declared.error.Argument.{Argument}
use Rattle.codespan_native.specs.declared.error.Argument.TheVariants.{Abi, DisplayStyle, Layout}
use Rattle.codespan_native.specs.declared.error.Argument.TheVariants.{Form, ColorMode, Characters}
use Rattle.codespan_native.specs.declared.error.Argument.TheVariants.{SnippetStart, Character}
use Rattle.codespan_native.specs.declared.error.Argument.TheVariants.{Color, ConfigReserved}
use Rattle.codespan_native.specs.declared.error.Argument.TheVariants.{FileName, FileSource}
use Rattle.codespan_native.specs.declared.error.Argument.TheVariants.{FileLines, FileLocations}
use Rattle.codespan_native.specs.declared.error.Argument.TheVariants.{FileReserved, Severity, Code}
use Rattle.codespan_native.specs.declared.error.Argument.TheVariants.{Message, DiagnosticReserved}
use Rattle.codespan_native.specs.declared.error.Argument.TheVariants.{LabelStyle, LabelMessage}
use Rattle.codespan_native.specs.declared.error.Argument.TheVariants.{LabelFile, LabelReserved}
use Rattle.codespan_native.specs.declared.error.Argument.TheVariants.{Note}
use Rattle.codespan_native.specs.declared.raw.RawConfig.{RawConfig}
use Rattle.codespan_native.specs.declared.raw.RawDiagnostic.{RawDiagnostic}
use Rattle.codespan_native.specs.declared.raw.RawFile.{RawFile}
use Rattle.codespan_native.specs.Results.{IsTooSmall, IsWritten}
use Rattle.codespan_native.specs.Statuses.{OK, TOO_SMALL, OUT_OF_MEMORY, FILE_MISSING, INVALID}
use Rattle.codespan_native.specs.Validity.{AreValid, FirstInvalidIs, IsFirstInvalid}
use Rattle.codespan_native.specs.Validity.{argument_number, no_detail, status_for}
use Rattle.codespan_native.specs.EmitCalls.{EmitsToBuffer}
use Rattle.codespan_native.specs.Meaning.{Means, output_bytes}
use Rattle.codespan_native.proofs.LookupsFound.{none_fails}

-- ---- the statuses of invalid arguments

-- an argument other than the file of a label
record IsOther (a : Argument) : Type 0 where
  pub number : argument_number a ≢ argument_number LabelFile
  pub status : status_for a ≡ INVALID

other : (a : Argument) → argument_number a ≢ argument_number LabelFile
    → status_for a ≡ INVALID
    → (a ≡ LabelFile) ⊎ IsOther a
other a number status = inr (record { number = number; status = status })

-- an argument is the file of a label, or another one
kind : (a : Argument) → (a ≡ LabelFile) ⊎ IsOther a
kind Abi = other Abi (λ e. absurd (omega (arith, e))) refl
kind DisplayStyle = other DisplayStyle (λ e. absurd (omega (arith, e))) refl
kind Layout = other Layout (λ e. absurd (omega (arith, e))) refl
kind Form = other Form (λ e. absurd (omega (arith, e))) refl
kind ColorMode = other ColorMode (λ e. absurd (omega (arith, e))) refl
kind Characters = other Characters (λ e. absurd (omega (arith, e))) refl
kind SnippetStart = other SnippetStart (λ e. absurd (omega (arith, e))) refl
kind Character = other Character (λ e. absurd (omega (arith, e))) refl
kind Color = other Color (λ e. absurd (omega (arith, e))) refl
kind ConfigReserved = other ConfigReserved (λ e. absurd (omega (arith, e))) refl
kind FileName = other FileName (λ e. absurd (omega (arith, e))) refl
kind FileSource = other FileSource (λ e. absurd (omega (arith, e))) refl
kind FileLines = other FileLines (λ e. absurd (omega (arith, e))) refl
kind FileLocations = other FileLocations (λ e. absurd (omega (arith, e))) refl
kind FileReserved = other FileReserved (λ e. absurd (omega (arith, e))) refl
kind Severity = other Severity (λ e. absurd (omega (arith, e))) refl
kind Code = other Code (λ e. absurd (omega (arith, e))) refl
kind Message = other Message (λ e. absurd (omega (arith, e))) refl
kind DiagnosticReserved = other DiagnosticReserved (λ e. absurd (omega (arith, e))) refl
kind LabelStyle = other LabelStyle (λ e. absurd (omega (arith, e))) refl
kind LabelMessage = other LabelMessage (λ e. absurd (omega (arith, e))) refl
kind LabelFile = inl refl
kind LabelReserved = other LabelReserved (λ e. absurd (omega (arith, e))) refl
kind Note = other Note (λ e. absurd (omega (arith, e))) refl

-- its status goes by its number
same_status : (a b : Argument) → argument_number a ≡ argument_number b
    → status_for a ≡ status_for b
same_status a b same = elim (kind a) [
  | inl p ↦ elim (kind b) [
    | inl q ↦ ap status_for (p ∙ sym q)
    | inr o ↦ absurd (o.number (sym same ∙ ap argument_number p))
  ]
  | inr o ↦ elim (kind b) [
    | inl q ↦ absurd (o.number (same ∙ ap argument_number q))
    | inr o' ↦ o.status ∙ sym o'.status
  ]
]

-- ---- what the call does

module _ (files : List RawFile) (d : RawDiagnostic) (c : RawConfig) where
  -- the first invalid argument has one status
  first_status : (a b : Argument) (i j : ℕ) → IsFirstInvalid files d c a i
      → IsFirstInvalid files d c b j → status_for a ≡ status_for b
  first_status a b i j x y = elim (cases_order (argument_number a) (argument_number b)) [
    | inl same ↦ same_status a b same
    | inr differ ↦ elim differ [
      | inl lower ↦ absurd (x.invalid (y.arguments_before a i lower))
      | inr lower ↦ absurd (y.invalid (x.arguments_before b j lower))
    ]
  ]

  -- an argument is invalid
  pub invalid-emits : (out : List ℕ) (a : Argument) (i status number : ℕ)
      → IsFirstInvalid files d c a i → status ≡ status_for a → number ≡ argument_number a
      → EmitsToBuffer files d c out out status 0 (record { argument = number; index = i })
  invalid-emits out a i status number first is number_is = record {
    ok = λ e. absurd (omega (arith, e, high));
    too_small = λ e. absurd (omega (arith, e, high));
    unchanged = λ _. record { none = refl; unchanged = refl };
    valid = (
      λ low. absurd (omega (arith, low, high)),
      λ (valid : AreValid files d c). absurd (first.invalid (valid a i)),
    );
    missing = (missing_there, missing_is);
    invalid = (invalid_there, invalid_is);
    named = λ _. record { argument = a; number_is = number_is; first = first };
    none_named = λ low. absurd (omega (arith, low, high));
    found = λ low. absurd (omega (arith, low, high));
    means = λ low. absurd (omega (arith, low, high));
    is_status = top;
  }
    where
      bounds : (FILE_MISSING ≤ status) × (status ≤ INVALID)
      bounds = elim (kind a) [
        | inl p ↦
            let at : status_for a ≡ FILE_MISSING = ap status_for p in
            (omega (arith, is, at), omega (arith, is, at))
        | inr o ↦
            let at = o.status in (omega (arith, is, at), omega (arith, is, at))
      ]

      high : FILE_MISSING ≤ status
      high = bounds.0

      top : status ≤ INVALID
      top = bounds.1

      missing_there : status ≡ FILE_MISSING → FirstInvalidIs files d c (λ a. a ≡ LabelFile)
      missing_there e = elim (kind a) [
        | inl p ↦ (a, i, p, first)
        | inr o ↦ let at = o.status in absurd (omega (arith, e, is, at))
      ]

      missing_is : FirstInvalidIs files d c (λ a. a ≡ LabelFile) → status ≡ FILE_MISSING
      missing_is p = is ∙ first_status a p.0 i p.1 first p.3 ∙ ap status_for p.2

      invalid_there : status ≡ INVALID → FirstInvalidIs files d c (λ a. a ≢ LabelFile)
      invalid_there e = elim (kind a) [
        | inl p ↦
            let at : status_for a ≡ FILE_MISSING = ap status_for p in
            absurd (omega (arith, e, is, at))
        | inr o ↦ (a, i, λ (same : a ≡ LabelFile). o.number (ap argument_number same), first)
      ]

      invalid_is : FirstInvalidIs files d c (λ a. a ≢ LabelFile) → status ≡ INVALID
      invalid_is p = elim (kind p.0) [
        | inl q ↦ absurd (p.2 q)
        | inr o ↦ is ∙ first_status a p.0 i p.1 first p.3 ∙ o.status
      ]

  module _ (valid : AreValid files d c) where
    none_invalid : {Such : Argument → Type 0} → FirstInvalidIs files d c Such → ⊥
    none_invalid p = p.3.invalid (valid p.0 p.1)

    -- the output is copied, if it fits
    pub output-emits : (bytes old new : List ℕ) (status written : ℕ)
        → bytes ≡ output_bytes files d c → (c.display_style ≡ 0 → Means files d c)
        → (status ≡ OK → IsWritten bytes old new written)
        → (status ≡ TOO_SMALL → IsTooSmall bytes old new written) → status ≤ TOO_SMALL
        → EmitsToBuffer files d c old new status written no_detail
    output-emits bytes old new status written are means ok too_small low = record {
      ok = λ e. subst (λ bytes. IsWritten bytes old new written) are (ok e);
      too_small = λ e. subst (λ bytes. IsTooSmall bytes old new written) are (too_small e);
      unchanged = λ high. absurd (omega (arith, high, low));
      valid = (λ _. valid, λ _. omega (arith, low));
      missing = (λ e. absurd (omega (arith, e, low)), λ p. absurd (none_invalid p));
      invalid = (λ e. absurd (omega (arith, e, low)), λ p. absurd (none_invalid p));
      named = λ high. absurd (omega (arith, high, low));
      none_named = λ _. refl;
      found = λ _. none_fails files d c valid;
      means = λ _. means;
      is_status = omega (arith, low);
    }

    -- an allocation fails
    pub out_of_memory-emits : (out : List ℕ)
        → EmitsToBuffer files d c out out OUT_OF_MEMORY 0 no_detail
    out_of_memory-emits out = record {
      ok = λ e. absurd (omega (arith, e));
      too_small = λ e. absurd (omega (arith, e));
      unchanged = λ _. record { none = refl; unchanged = refl };
      valid = (λ _. valid, λ _. omega arith);
      missing = (λ e. absurd (omega (arith, e)), λ p. absurd (none_invalid p));
      invalid = (λ e. absurd (omega (arith, e)), λ p. absurd (none_invalid p));
      named = λ high. absurd (omega (arith, high));
      none_named = λ _. refl;
      found = λ _. none_fails files d c valid;
      means = λ low. absurd (omega (arith, low));
      is_status = omega arith;
    }
