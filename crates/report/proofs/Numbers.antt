-- For the clause of `request::parse_number`: `parse` returns the number of digits alone.
use Rattle.codespan_core.proofs.Std.{◌≡◌, ℕ, ◌<◌, ◌^◌, ◌&&◌, nat_lt, true}
use Rattle.codespan_core.proofs.Std.{false, List, [], ◌∷◌, length, get_or, decimal, Option}
use Rattle.codespan_core.proofs.Std.{Some, None, Result, Ok, Err, refl, ap, sym, ◌∙◌}
use Rattle.codespan_core.proofs.Std.{if◌then◌else◌, arith, nat_tests}
use Rattle.std.specs.Char.{is_ascii_digit}
use Rattle.std.specs.Int.{IsInRange}
use Rattle.std.specs.List.{list_all}
use Rattle.std.specs.Result.{OkIff, result_ok}
use Rattle.std.specs.Str.{all_ascii_digits}
use Rattle.std.specs.Str.Parse.{ParsesUnsigned, digits_value}
use Rattle.std.proofs.lemmas.Fmt.{decimal_is_IsNumeral, digits_decimal}
use Rattle.std.proofs.lemmas.List.Recursion.{same_from_clauses}
use Rattle.std.proofs.lemmas.Str.Parse.{IsNumeralModel, numerals_by_value, tells_all_ascii_digits}
use Rattle.std.proofs.lemmas.Str.Parse.{tells_by_index, parse_digits}
use Rattle.report.specs.Requests.{number_of}

-- `all` finds digits as the definition does
pub digits_are : (bs : List ℕ) → list_all is_ascii_digit bs ≡ all_ascii_digits bs
digits_are bs =
    same_from_clauses (list_all is_ascii_digit) all_ascii_digits
    (λ c rest. is_ascii_digit c && rest) refl (λ _ _. refl) (λ _ _. refl) bs

-- a text with another character is not a number
pub number_of-others : (bs : List ℕ) → all_ascii_digits bs ≡ false → None ≡ number_of bs
unfolding number_of
number_of-others [] others = refl
number_of-others (d ∷ ds) others =
    ap (λ b. if b && nat_lt (digits_value 10 (d ∷ ds)) (2 ^ 64) then Some
    (digits_value 10 (d ∷ ds))
    else None) (sym others)

-- what std's lemmas call digits and their value
decimals : IsNumeralModel (λ ds. all_ascii_digits ds ≡ true) (digits_value 10)
decimals = numerals_by_value (λ ds. all_ascii_digits ds ≡ true) tells_all_ascii_digits

-- the number, where it fits
fitting : (v n : ℕ) → v < 2 ^ 64 → n ≡ v
    → Some n ≡ (if nat_lt v (2 ^ 64) then Some v else None)
fitting v n fits is = grind (arith, nat_tests)

-- none, where it does not
too_large : (v : ℕ) → (v < 2 ^ 64 → ⊥)
    → ◌≡◌ {A = Option ℕ} None (if nat_lt v (2 ^ 64) then Some v else None)
too_large v large = grind (arith, nat_tests)

-- what was parsed of one or more digits
of_digits : {E : Type 0} (d : ℕ) (ds : List ℕ) (r : Result ℕ E)
    → OkIff r ((0 < length (d ∷ ds)) × (digits_value 10 (d ∷ ds) < 2 ^ 64))
    (digits_value 10 (d ∷ ds))
    → result_ok
    r
    ≡ (if nat_lt (digits_value 10 (d ∷ ds)) (2 ^ 64) then Some (digits_value 10 (d ∷ ds))
    else None)
of_digits d ds (Ok n) read = fitting (digits_value 10 (d ∷ ds)) n read.0.1 read.1
of_digits d ds (Err e) unread =
    too_large (digits_value 10 (d ∷ ds)) (λ fits. unread (omega arith, fits))

-- what was parsed of no digits
of_nothing : {E : Type 0} (r : Result ℕ E)
    → OkIff r ((0 < length {A = ℕ} []) × (digits_value 10 [] < 2 ^ 64)) (digits_value 10 [])
    → result_ok r ≡ None
of_nothing (Ok n) read = absurd (omega arith)
of_nothing (Err e) unread = refl

-- what is parsed of digits alone
pub number_of-parsed : {E : Type 0} (bs : List ℕ) (r : Result ℕ E)
    → all_ascii_digits bs ≡ true
    → ParsesUnsigned 64 10 bs r
    → result_ok r ≡ number_of bs
unfolding number_of
number_of-parsed [] r digits parsed = of_nothing r (parse_digits decimals 64 [] r parsed digits)
number_of-parsed (d ∷ ds) r digits parsed =
    of_digits d ds r (parse_digits decimals 64 (d ∷ ds) r parsed digits)
    ∙ ap
    (λ b. if b && nat_lt (digits_value 10 (d ∷ ds)) (2 ^ 64) then Some
    (digits_value 10 (d ∷ ds))
    else None)
    (sym digits)

-- ---- decimal digits

-- the number of one or more digits, where it fits
number_of-digits : (ds : List ℕ) → 0 < length ds → all_ascii_digits ds ≡ true
    → digits_value 10 ds < 2 ^ 64 → number_of ds ≡ Some (digits_value 10 ds)
unfolding number_of
number_of-digits [] some digits fits = absurd (omega arith)
number_of-digits (d ∷ ds) some digits fits =
    ap (λ b. if b && nat_lt (digits_value 10 (d ∷ ds)) (2 ^ 64) then Some
    (digits_value 10 (d ∷ ds))
    else None) digits
    ∙ sym (fitting (digits_value 10 (d ∷ ds)) (digits_value 10 (d ∷ ds)) fits refl)

-- the decimal digits of a number are that number
pub number_of-decimal : (n : ℕ) → n < 2 ^ 64 → number_of (decimal n) ≡ Some n
number_of-decimal n fits =
    let is = decimal_is_IsNumeral n fits in
    number_of-digits (decimal n) is.0.0 (digits_decimal decimals n fits) (rw is.1 fits)
    ∙ ap Some is.1

-- and are digits
pub digits_of_decimal : (n : ℕ) → n < 2 ^ 64 → (i : ℕ) → i < length (decimal n)
    → IsInRange 48 57 (get_or (decimal n) i 0)
digits_of_decimal n fits =
    digits_decimal
    (numerals_by_value (λ ds. (i : ℕ) → i < length ds → IsInRange 48 57 (get_or ds i 0))
    tells_by_index)
    n fits
