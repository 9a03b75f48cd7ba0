-- What is shown for a character is safe and a character, and what is shown for a text: for the
-- clauses of `terminal::laws`, and for the clauses `text` and `columns` of `to_html` and `text` of
-- `to_svg`.
use Rattle.std.proofs.Common.{◌≡◌, ℕ, true, List, [], ◌∷◌, ◌++◌, Option}
use Rattle.std.proofs.Common.{None}
use Rattle.std.proofs.Common.{Some, map, refl, ap, ◌∙◌}
use Rattle.std.specs.Prelude.{All, ◌&&◌, if◌then◌else◌}
use Rattle.std.specs.List.{AllByRecursion, cons_option}
use Rattle.std.specs.Str.{IsUtf8, chars, encode_utf8_all}
use Rattle.std.proofs.Math.Utf8.{scalar, scalars}
use Rattle.std.proofs.lemmas.Bool.{and_parts, cond_both}
use Rattle.std.proofs.lemmas.List.Elements.{All-from_recursion, filter_map-append}
use Rattle.std.proofs.lemmas.Str.{IsUtf8-append, IsUtf8-nil, IsUtf8-string_bytes, chars-append}
use Rattle.std.proofs.lemmas.Str.{chars-encodes, chars-nil, encodes-append, scalars-chars}
use Rattle.codespan_styled.specs.declared.text.Run.{Run}
use Rattle.codespan_styled.specs.Runs.{joined, run_characters, run_view}
use Rattle.codespan_styled.specs.SafeText.{is_left_out, is_replaced, is_safe, safe_characters}
use Rattle.codespan_styled.specs.SafeText.{safe_text, shown_character}

-- ---- a character

-- the property holds of the character, if there is one
abbrev pub Holds : (ℕ → Type 0) → Option ℕ → Type 0
Holds P None = Unit {0}
Holds P (Some c) = P c

-- what holds of U+FFFD, and of the character where it is safe, holds of what is shown for it
pub shown_by_cases : (P : ℕ → Type 0) (c : ℕ) → P 0xFFFD → (is_safe c ≡ true → P c)
    → Holds P (shown_character c)
shown_by_cases P c replacement same =
    cond_both (is_left_out c) None (if is_replaced c then Some 0xFFFD else Some c) (Holds P)
    (λ _. tt)
    (λ kept. cond_both (is_replaced c) (Some 0xFFFD) (Some c) (Holds P) (λ _. replacement)
    (λ as_it_is. same (rw (kept, as_it_is) refl)))

-- it is safe
shown_safe : (c : ℕ) → Holds (λ s. is_safe s ≡ true) (shown_character c)
shown_safe c = shown_by_cases (λ s. is_safe s ≡ true) c refl (λ safe. safe)

-- ---- characters

-- each number is safe
abbrev pub AllSafe : List ℕ → Type 0
AllSafe cs = AllByRecursion (λ c. is_safe c ≡ true) cs

safe_step : (o : Option ℕ) (cs : List ℕ) → Holds (λ s. is_safe s ≡ true) o → AllSafe cs
    → AllSafe (cons_option o cs)
safe_step None cs h rest = rest
safe_step (Some s) cs h rest = (h, rest)

-- what is shown is safe
pub all_safe : (cs : List ℕ) → AllSafe (safe_characters cs)
all_safe [] = tt
all_safe (c ∷ cs) =
    safe_step (shown_character c) (safe_characters cs) (shown_safe c) (all_safe cs)

pub shown_are_safe : (cs : List ℕ) → All (λ c. is_safe c ≡ true) (safe_characters cs)
shown_are_safe cs =
    All-from_recursion (λ c. is_safe c ≡ true) (safe_characters cs) (all_safe cs)

scalars_step : (o : Option ℕ) (cs : List ℕ) → Holds (λ s. scalar s ≡ true) o
    → scalars cs ≡ true
    → scalars (cons_option o cs) ≡ true
scalars_step None cs h rest = rest
scalars_step (Some s) cs h rest = ap (λ b. b && scalars cs) h ∙ rest

-- what is shown for Unicode scalar values is such values
pub scalars_safe : (cs : List ℕ) → scalars cs ≡ true → scalars (safe_characters cs) ≡ true
scalars_safe [] h = refl
scalars_safe (c ∷ cs) h =
    let parts = and_parts (scalar c) (scalars cs) h in
    scalars_step (shown_character c) (safe_characters cs)
    (shown_by_cases (λ s. scalar s ≡ true) c refl (λ _. parts.0)) (scalars_safe cs parts.1)

-- ---- texts

-- the characters of a safe text
pub chars_of_safe_text : (text : List ℕ) → IsUtf8 text
    → chars (safe_text text) ≡ safe_characters (chars text)
chars_of_safe_text text utf8 =
    chars-encodes (safe_characters (chars text))
    (scalars_safe (chars text) (scalars-chars text utf8))

pub safe_text-nil : safe_text [] ≡ []
safe_text-nil = ap (λ cs. encode_utf8_all (safe_characters cs)) chars-nil

-- what is shown for two texts
pub safe_text-append : (a b : List ℕ) → IsUtf8 a
    → safe_text (a ++ b) ≡ safe_text a ++ safe_text b
safe_text-append a b utf8 =
    ap (λ cs. encode_utf8_all (safe_characters cs)) (chars-append a b utf8)
    ∙ ap encode_utf8_all (filter_map-append shown_character (chars a) (chars b))
    ∙ encodes-append (safe_characters (chars a)) (safe_characters (chars b))

-- ---- runs

-- the texts of runs are UTF-8
pub joined-utf8 : (runs : List Run) → IsUtf8 (joined (map run_view runs))
joined-utf8 [] = IsUtf8-nil
joined-utf8 (run ∷ runs) =
    IsUtf8-append _ (joined (map run_view runs)) (IsUtf8-string_bytes run.text)
    (joined-utf8 runs)

-- their characters are those of the texts
pub joined-characters : (runs : List Run)
    → chars (joined (map run_view runs)) ≡ run_characters (map run_view runs)
joined-characters [] = chars-nil
joined-characters (run ∷ runs) =
    chars-append _ (joined (map run_view runs)) (IsUtf8-string_bytes run.text)
    ∙ ap (λ (cs : List ℕ). chars (run_view run).text ++ cs) (joined-characters runs)
