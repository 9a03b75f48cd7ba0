-- For the clauses of `escapes::after_bad_escape`, `unescape` and the functions that they call: what
-- is parsed of escapes, and of escaped texts.
use Rattle.codespan_core.proofs.Std.{◌≡◌, ◌≢◌, ◌<◌, ◌≤◌, ◌+◌, ◌^◌}
use Rattle.codespan_core.proofs.Std.{ℕ, zero, suc, Bool, true, false, nat_lt}
use Rattle.codespan_core.proofs.Std.{◌&&◌, ◌==◌, if◌then◌else◌, List, length, []}
use Rattle.codespan_core.proofs.Std.{◌∷◌, ◌++◌, get_or, drop, take}
use Rattle.codespan_core.proofs.Std.{Option, Some, None, Result, Ok, Err, refl, sym, ◌∙◌, ap}
use Rattle.codespan_core.proofs.Std.{subst, arith}
use Rattle.codespan_core.proofs.Std.{append-nil, append_assoc, eqb-true, ne_eqb, lt-ltb, le-ltb}
use Rattle.codespan_core.proofs.Std.{ltb-true, and_parts}
use Rattle.codespan_core.proofs.Std.{length-take-le, position_or_len}
use Rattle.std.specs.Borrow.{Bor}
use Rattle.std.specs.Prelude.{encode_utf8, MatchOption}
use Rattle.std.specs.Char.{IsScalar, is_digit, digit_value}
use Rattle.std.specs.List.{after_first, before_first, list_all}
use Rattle.std.specs.Option.{option_map, option_map_or, SomeIff}
use Rattle.std.specs.Result.{result_err}
use Rattle.std.specs.Str.Parse.{AllDigits, IsNumeral, digits_value}
use Rattle.std.specs.Str.Parse.{without_leading_plus}
use Rattle.std.proofs.lemmas.Bool.Decides.{nat_tests}
use Rattle.std.proofs.lemmas.Str.{char_from_byte}
use Rattle.std.proofs.lemmas.Str.Pattern.{IsSplitOnceResult, split_once_first, split_parts}
use lib.Utf8.{scalar, scalar_fits}
use Rattle.program_io.specs.Escapes.{braced_character, closed_character, escape_of, hex_character}
use Rattle.program_io.specs.Escapes.{is_closing, is_hex_numeral, letter_character, part_at}
use Rattle.program_io.specs.Escapes.{past_escape, unescaped, unescaped_past, with_prefix}

-- ---- hexadecimal digits

digits_of : (ds : List ℕ) → list_all (λ d. is_digit d 16) ds ≡ true → AllDigits 16 ds
digits_of [] is = tt
digits_of (d ∷ ds) is =
    let both = and_parts (is_digit d 16) (list_all (λ d. is_digit d 16) ds) is in
    (ltb-true (digit_value d) 16 both.0, digits_of ds both.1)

of_digits : (ds : List ℕ) → AllDigits 16 ds → list_all (λ d. is_digit d 16) ds ≡ true
of_digits [] all = refl
of_digits (d ∷ ds) all = rw (lt-ltb (digit_value d) 16 all.0, of_digits ds all.1) refl

numeral_of : (ds : List ℕ) → is_hex_numeral ds ≡ true → IsNumeral 16 ds
numeral_of ds is =
    let both = and_parts (nat_lt 0 (length ds)) (list_all (λ d. is_digit d 16) ds) is in
    (ltb-true 0 (length ds) both.0, digits_of ds both.1)

of_numeral : (ds : List ℕ) → IsNumeral 16 ds → is_hex_numeral ds ≡ true
of_numeral ds is = rw (lt-ltb 0 (length ds) is.0, of_digits ds is.1) refl

-- a number that was parsed is that of a character, or of none
pub hex_of_number : (text : List ℕ) (n : ℕ) (o : Option ℕ)
    → (IsNumeral 16 (without_leading_plus text)
    × (digits_value 16 (without_leading_plus text) < 2 ^ 32))
    × (n ≡ digits_value 16 (without_leading_plus text))
    → SomeIff o (IsScalar n) n → o ≡ hex_character text
unfolding hex_character
hex_of_number text n o read found =
    by o found (scalar (digits_value 16 (without_leading_plus text))) refl
  where
    by : (o : Option ℕ) → SomeIff o (IsScalar n) n → (b : Bool)
        → scalar (digits_value 16 (without_leading_plus text)) ≡ b
        → o ≡ (if is_hex_numeral (without_leading_plus text) && b
        then Some (digits_value 16 (without_leading_plus text)) else None)
    by (Some c) found true is =
        rw (of_numeral (without_leading_plus text) read.0.0) (ap Some (found.1 ∙ read.1))
    by (Some c) found false is =
        absurd (cc (is, subst IsScalar read.1 found.0))
    by None none true is = absurd (none (subst IsScalar (sym read.1) is))
    by None none false is = rw (of_numeral (without_leading_plus text) read.0.0) refl

-- a text that is not parsed as a number is no character's
pub no_hex : (text : List ℕ)
    → ¬ (IsNumeral 16 (without_leading_plus text)
    × (digits_value 16 (without_leading_plus text) < 2 ^ 32))
    → None ≡ hex_character text
unfolding hex_character
no_hex text unread =
    by (is_hex_numeral (without_leading_plus text)) refl
    (scalar (digits_value 16 (without_leading_plus text))) refl
  where
    by : (a : Bool) → is_hex_numeral (without_leading_plus text) ≡ a → (b : Bool)
        → scalar (digits_value 16 (without_leading_plus text)) ≡ b
        → None ≡ (if a && b then Some (digits_value 16 (without_leading_plus text)) else None)
    by true numeral true is =
        absurd (unread (
          numeral_of (without_leading_plus text) numeral,
          scalar_fits (digits_value 16 (without_leading_plus text)) is,
        ))
    by true numeral false is = refl
    by false numeral b is = refl

-- ---- numbers in braces

-- a text that does not begin with a brace has no number in braces
pub unopened : (text : List ℕ) → ((left : List ℕ) → text ≢ 123 ∷ left)
    → braced_character text ≡ None
unopened [] not_open = refl
unopened (b ∷ bs) not_open =
    rw (ne_eqb b 123 (λ is. not_open bs (ap (λ c. c ∷ bs) is))) refl

-- what is parsed, its text as bytes
abbrev pub read_bytes : Option (ℕ × Bor (List ℕ)) → Option (ℕ × List ℕ)
read_bytes read = option_map (λ r. (r.0, r.1.now)) read

-- ---- letters

-- no escape begins with another letter
no_letter : (b : ℕ) → (b ≡ 110 → ⊥) → (b ≡ 114 → ⊥) → (b ≡ 116 → ⊥)
    → (b ≡ 48 → ⊥) → (b ≡ 92 → ⊥) → letter_character b ≡ None
no_letter b newline return tab null backslash = grind (arith, nat_tests)

-- a text that begins with another character than those of escapes begins with no escape
pub no_escape : (text left : List ℕ) (letter : ℕ) → text ≡ encode_utf8 letter ++ left
    → (letter ≡ 110 → ⊥) → (letter ≡ 114 → ⊥) → (letter ≡ 116 → ⊥)
    → (letter ≡ 48 → ⊥)
    → (letter ≡ 92 → ⊥) → (letter ≡ 117 → ⊥) → escape_of text ≡ None
no_escape [] left letter is newline return tab null backslash number = refl
no_escape (b ∷ bs) left letter is newline return tab null backslash number =
    let same : b < 128 → letter ≡ b =
    λ small. char_from_byte (b ∷ bs) left letter is small (omega arith) in
    let nothing : letter_character b ≡ None = no_letter b
    (λ e. newline (same (omega arith) ∙ e)) (λ e. return (same (omega arith) ∙ e))
    (λ e. tab (same (omega arith) ∙ e)) (λ e. null (same (omega arith) ∙ e))
    (λ e. backslash (same (omega arith) ∙ e)) in
    rw (ne_eqb b 117 (λ e. number (same (omega arith) ∙ e)), nothing) refl

-- ---- escaped texts

-- nothing before it changes nothing
prefix_none : (r : Result (List ℕ) (List ℕ)) → with_prefix [] r ≡ r
prefix_none (Ok bytes) = refl
prefix_none (Err after) = refl

-- one prefix after another
pub prefix_more : (xs ys : List ℕ) (r : Result (List ℕ) (List ℕ))
    → with_prefix xs (with_prefix ys r) ≡ with_prefix (xs ++ ys) r
prefix_more xs ys (Ok bytes) = ap Ok (sym (append_assoc xs ys bytes))
prefix_more xs ys (Err after) = refl

-- the bytes of an escape are left out
past_bytes : (text : List ℕ) (n : ℕ) → unescaped_past text n ≡ unescaped (drop n text)
past_bytes [] zero = refl
past_bytes [] (suc n) = refl
past_bytes (b ∷ bs) zero = refl
past_bytes (b ∷ bs) (suc n) = past_bytes bs n

-- a text without a backslash stands for itself
pub plain_kept : (plain rest : List ℕ)
    → ((k : ℕ) → k < length plain → get_or plain k 0 ≢ 92)
    → unescaped (plain ++ rest) ≡ with_prefix plain (unescaped rest)
plain_kept [] rest lacks = sym (prefix_none (unescaped rest))
plain_kept (b ∷ bs) rest lacks =
    rw (
      ne_eqb b 92 (lacks 0 (omega arith)),
      plain_kept bs rest (λ k below. lacks (suc k) (omega arith)),
    )
    (prefix_more (b ∷ []) bs (unescaped rest))

-- what a backslash begins stands for its character
pub escape_read : (escape left : List ℕ) (c : ℕ)
    → Some (c, left) ≡ past_escape escape (escape_of escape)
    → unescaped (92 ∷ escape) ≡ with_prefix (encode_utf8 c) (unescaped left)
escape_read escape left c is = by (escape_of escape) is
  where
    by : (o : Option (ℕ × ℕ)) → Some (c, left) ≡ past_escape escape o
        → option_map_or
        (λ (part : List ℕ × ℕ). with_prefix part.0 (unescaped_past escape part.1))
        (option_map (λ e. (encode_utf8 e.0, e.1)) o) (Err escape)
        ≡ with_prefix (encode_utf8 c) (unescaped left)
    by None is = absurd (cc is)
    by (Some e) is =
        let pair : (c, left) ≡ (e.0, drop e.1 escape) = cc in
        let character : c ≡ e.0 = ap (λ (x : ℕ × List ℕ). x.0) pair in
        let rest : left ≡ drop e.1 escape = ap (λ (x : ℕ × List ℕ). x.1) pair in
        ap (with_prefix (encode_utf8 e.0)) (past_bytes escape e.1)
        ∙ rw (character, rest) refl

-- or no escape
pub escape_unread : (escape : List ℕ) → None ≡ past_escape escape (escape_of escape)
    → unescaped (92 ∷ escape) ≡ Err escape
escape_unread escape is = by (escape_of escape) is
  where
    by : (o : Option (ℕ × ℕ)) → None ≡ past_escape escape o
        → option_map_or
        (λ (part : List ℕ × ℕ). with_prefix part.0 (unescaped_past escape part.1))
        (option_map (λ e. (encode_utf8 e.0, e.1)) o) (Err escape) ≡ Err escape
    by None is = refl
    by (Some e) is = absurd (cc is)

-- what a text stands for that is cut at its first backslash
pub one_more : (rest left : List ℕ) (c : ℕ) (x : Bor (List ℕ) × Bor (List ℕ))
    → IsSplitOnceResult 92 rest (Some x)
    → Some (c, left) ≡ past_escape x.1.now (escape_of x.1.now)
    → unescaped rest ≡ with_prefix (x.0.now ++ encode_utf8 c) (unescaped left)
one_more rest left c x split read =
    let parts = split_parts 92 rest (Some x) split (omega arith) in
    ap unescaped parts.0 ∙ plain_kept x.0.now (92 ∷ x.1.now) parts.1
    ∙ ap (with_prefix x.0.now) (escape_read x.1.now left c read)
    ∙ prefix_more x.0.now (encode_utf8 c) (unescaped left)

pub one_bad : (rest : List ℕ) (x : Bor (List ℕ) × Bor (List ℕ))
    → IsSplitOnceResult 92 rest (Some x)
    → None ≡ past_escape x.1.now (escape_of x.1.now)
    → unescaped rest ≡ Err x.1.now
one_bad rest x split unread =
    let parts = split_parts 92 rest (Some x) split (omega arith) in
    ap unescaped parts.0 ∙ plain_kept x.0.now (92 ∷ x.1.now) parts.1
    ∙ ap (with_prefix x.0.now) (escape_unread x.1.now unread)

pub all_plain : (rest : List ℕ) → IsSplitOnceResult 92 rest None → unescaped rest ≡ Ok rest
all_plain rest split =
    ap unescaped (sym (append-nil rest)) ∙ plain_kept rest []
    (split_parts 92 rest None split (omega arith))
    ∙ ap Ok (append-nil rest)

-- a prefix changes no error
pub error_kept : (prefix : List ℕ) (r : Result (List ℕ) (List ℕ))
    → result_err (with_prefix prefix r) ≡ result_err r
error_kept prefix (Ok bytes) = refl
error_kept prefix (Err after) = refl

-- a prefix that has been appended to twice
pub prefix_appended : (text plain character new : List ℕ) (r : Result (List ℕ) (List ℕ))
    → new ≡ (text ++ plain) ++ character
    → with_prefix new r ≡ with_prefix text (with_prefix (plain ++ character) r)
prefix_appended text plain character new r is =
    ap (λ front. with_prefix front r) (is ∙ append_assoc text plain character)
    ∙ sym (prefix_more text (plain ++ character) r)

-- a text with a prefix has an error where it has one without
prefix_error : (prefix : List ℕ) (r : Result (List ℕ) (List ℕ)) (after : List ℕ)
    → with_prefix prefix r ≡ Err after → r ≡ Err after
prefix_error prefix (Ok bytes) after is = absurd (cc is)
prefix_error prefix (Err other) after is = is

-- what follows the first backslash that begins no escape does follow a backslash
pub after_backslash : (text after : List ℕ) (n : ℕ) → unescaped_past text n ≡ Err after
    → (plain : List ℕ) × (text ≡ plain ++ 92 ∷ after)
after_backslash [] after n is = absurd (cc is)
after_backslash (b ∷ bs) after (suc n) is =
    let later = after_backslash bs after n is in
    (b ∷ later.0, ap (λ rest. b ∷ rest) later.1)
after_backslash (b ∷ bs) after zero is =
    by (b == 92) (eqb-true b 92) (escape_of bs) (λ n. after_backslash bs after n) is
  where
    by : (x : Bool) → (x ≡ true → b ≡ 92) → (escape : Option (ℕ × ℕ))
        → ((n : ℕ) → unescaped_past bs n ≡ Err after
        → (plain : List ℕ) × (bs ≡ plain ++ 92 ∷ after))
        → option_map_or
        (λ (part : List ℕ × ℕ). with_prefix part.0 (unescaped_past bs part.1))
        (if x then option_map (λ e. (encode_utf8 e.0, e.1)) escape else Some (b ∷ [], 0))
        (Err bs) ≡ Err after
        → (plain : List ℕ) × (b ∷ bs ≡ plain ++ 92 ∷ after)
    by true backslash None more is =
        let rest : bs ≡ after = cc in
        ([], ap (λ c. c ∷ bs) (backslash refl) ∙ ap (λ xs. 92 ∷ xs) rest)
    by true backslash (Some e) more is =
        let later = more e.1
        (prefix_error (encode_utf8 e.0) (unescaped_past bs e.1) after is) in
        (b ∷ later.0, ap (λ rest. b ∷ rest) later.1)
    by false backslash escape more is =
        let later = more 0
        (prefix_error (b ∷ []) (unescaped_past bs 0) after is) in
        (b ∷ later.0, ap (λ rest. b ∷ rest) later.1)
