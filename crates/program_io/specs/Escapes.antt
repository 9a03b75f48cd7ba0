-- Texts with escapes.
use Rattle.std.specs.Prelude.{ℕ, zero, suc, ◌+◌, ◌==◌, ◌&&◌, nat_lt, Bool}
use Rattle.std.specs.Prelude.{if◌then◌else◌}
use Rattle.std.specs.Prelude.{List, [], ◌∷◌, ◌++◌, length, drop, Option, Some, None}
use Rattle.std.specs.Prelude.{Result, Ok, Err}
use Rattle.std.specs.Prelude.{encode_utf8}
use Rattle.std.specs.Char.{is_digit}
use Rattle.std.specs.List.{after_first, before_first, list_all}
use Rattle.std.specs.Option.{option_map, option_map_or}
use Rattle.std.specs.Str.Parse.{digits_value, without_leading_plus}
use lib.Utf8.{scalar}

-- the character of an escape of one letter: for `n` the newline, and for `r`, `t`, `0` and the
-- backslash the carriage return, the tab, the null character and the backslash
abbrev pub letter_character : ℕ → Option ℕ
letter_character letter =
    if letter == 110 then Some 10
    else if letter == 114 then Some 13
    else if letter == 116 then Some 9
    else if letter == 48 then Some 0
    else if letter == 92 then Some 92
    else None

-- whether a text is one hexadecimal digit or more
abbrev pub is_hex_numeral : List ℕ → Bool
is_hex_numeral digits =
    nat_lt 0 (length digits) && list_all (λ digit. is_digit digit 16) digits

-- the character with the number that hexadecimal digits write, if there is one
abbrev pub hex_character_of : List ℕ → Option ℕ
hex_character_of digits =
    if is_hex_numeral digits && scalar (digits_value 16 digits)
    then Some (digits_value 16 digits) else None

-- the same of digits that may follow a plus sign
unfoldable pub hex_character : List ℕ → Option ℕ
hex_character text = hex_character_of (without_leading_plus text)

-- whether a byte is the brace that closes
abbrev pub is_closing : ℕ → Bool
is_closing b = b == 125

-- the character of the number that is written before the first closing brace, if there is one, and
-- the number of bytes up to that brace
abbrev pub closed_character : List ℕ → Option (ℕ × ℕ)
closed_character text =
    let digits = before_first is_closing text in
    if nat_lt (length digits) (length text)
    then option_map (λ c. (c, length digits + 1)) (hex_character digits) else None

-- the character of the number in braces with which a text begins, and the number of its bytes
abbrev pub braced_character : List ℕ → Option (ℕ × ℕ)
braced_character [] = None
braced_character (b ∷ bs) =
    if b == 123 then option_map (λ e. (e.0, e.1 + 1)) (closed_character bs) else None

-- the escape with which a text begins after its backslash: its character, and the number of its
-- bytes after the backslash
abbrev pub escape_of : List ℕ → Option (ℕ × ℕ)
escape_of [] = None
escape_of (letter ∷ left) =
    if letter == 117 then option_map (λ e. (e.0, e.1 + 1)) (braced_character left)
    else option_map (λ c. (c, 1)) (letter_character letter)

-- an escape as its character and what is left of the text after its bytes
abbrev pub past_escape : List ℕ → Option (ℕ × ℕ) → Option (ℕ × List ℕ)
past_escape text escape = option_map (λ e. (e.0, drop e.1 text)) escape

-- what a byte of an escaped text begins, by the text after it: the bytes that this stands for, and
-- the number of its further bytes; none if the byte is a backslash that begins no escape
abbrev pub part_at : ℕ → List ℕ → Option (List ℕ × ℕ)
part_at b bs =
    if b == 92 then option_map (λ e. (encode_utf8 e.0, e.1)) (escape_of bs)
    else Some ((b ∷ []), 0)

-- what a text stands for, with these bytes before it
abbrev pub with_prefix : List ℕ → Result (List ℕ) (List ℕ) → Result (List ℕ) (List ℕ)
with_prefix prefix (Ok bytes) = Ok (prefix ++ bytes)
with_prefix prefix (Err after) = Err after

-- what an escaped text stands for without its first bytes, so many; or, as an error, what follows
-- its first backslash that does not begin an escape
abbrev pub unescaped_past : List ℕ → ℕ → Result (List ℕ) (List ℕ)
unescaped_past [] n = Ok []
unescaped_past (b ∷ bs) (suc n) = unescaped_past bs n
unescaped_past (b ∷ bs) zero =
    option_map_or (λ part. with_prefix part.0 (unescaped_past bs part.1)) (part_at b bs) (Err bs)

-- what an escaped text stands for; or, as an error, what follows its first backslash that does not
-- begin an escape
abbrev pub unescaped : List ℕ → Result (List ℕ) (List ℕ)
unescaped text = unescaped_past text 0
