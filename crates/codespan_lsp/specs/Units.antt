-- The code units of texts.
use Rattle.std.specs.Prelude.{ℕ, ◌-◌, nat_le, if◌then◌else◌, List, [], ◌∷◌}
use Rattle.std.specs.Prelude.{length, sum_by}
use Rattle.std.specs.Char.{len_utf8}
use Rattle.std.specs.Char.Escape.{encode_utf16}
use Rattle.std.specs.Str.{chars}
use Rattle.codespan_lsp.specs.declared.encoding.PositionEncoding.{PositionEncoding}
use Rattle.codespan_lsp.specs.declared.encoding.PositionEncoding.TheVariants.{Utf8, Utf16, Utf32}

-- how many code units a character has
abbrev pub char_units : PositionEncoding → ℕ → ℕ
char_units Utf8 c = len_utf8 c
char_units Utf16 c = length (encode_utf16 c)
char_units Utf32 c = 1

-- how many some characters have
abbrev pub total_units : PositionEncoding → List ℕ → ℕ
total_units encoding cs = sum_by (char_units encoding) cs

-- how many a text has
abbrev pub code_units : PositionEncoding → List ℕ → ℕ
code_units encoding text = total_units encoding (chars text)

-- the longest prefix of the characters with at most n code units
abbrev pub prefix_within : PositionEncoding → ℕ → List ℕ → List ℕ
prefix_within encoding n [] = []
prefix_within encoding n (c ∷ cs) =
    if nat_le (char_units encoding c) n
    then c ∷ prefix_within encoding (n - char_units encoding c) cs else []
