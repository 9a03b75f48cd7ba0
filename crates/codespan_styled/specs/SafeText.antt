-- Which characters are shown: one rule for text on a terminal, HTML and SVG.
use Rattle.std.specs.Prelude.{◌≡◌, ℕ, ◌+◌, ◌%◌, ◌==◌, Bool, not, nat_le}
use Rattle.std.specs.Prelude.{◌&&◌, ◌||◌}
use Rattle.std.specs.Prelude.{List, [], ◌∷◌, Option, None, Some, if◌then◌else◌}
use Rattle.std.specs.Int.{is_in_range}
use Rattle.std.specs.List.{filter_map}
use Rattle.std.specs.Option.{option_map}
use Rattle.std.specs.Str.{chars, encode_utf8_all}
use Rattle.codespan_output.specs.CharMetrics.{width_at}

-- ---- characters that are left out: each takes no cell

-- the control characters (C0, DEL and C1) but tab and newline
abbrev pub is_unsafe_control : ℕ → Bool
is_unsafe_control c =
    is_in_range 0x00 0x08 c || is_in_range 0x0B 0x1F c || is_in_range 0x7F 0x9F c

-- the characters of Unicode's property `Bidi_Control`: the Arabic letter mark; the marks of the two
-- directions; embeddings, overrides and what ends them; isolates and what ends them
abbrev pub is_directional_control : ℕ → Bool
is_directional_control c =
    is_in_range 0x061C 0x061C c || is_in_range 0x200E 0x200F c
    || is_in_range 0x202A 0x202E c || is_in_range 0x2066 0x2069 c

-- characters that rows count as no cell and that others show in some, or use to show two characters
-- as one: the soft hyphen, the zero width joiner, the two Hangul fillers, and the zero width
-- no-break space, which is also the byte order mark
abbrev pub is_invisible : ℕ → Bool
is_invisible c =
    (c == 0x00AD) || (c == 0x200D) || (c == 0x3164) || (c == 0xFEFF) || (c == 0xFFA0)

-- the character is left out
abbrev pub is_left_out : ℕ → Bool
is_left_out c = is_unsafe_control c || is_directional_control c || is_invisible c

-- ---- characters that are replaced: each takes one cell, as what is shown for it does

-- the noncharacters: U+FDD0 to U+FDEF, and the last two of each of the 17 planes
abbrev pub is_noncharacter : ℕ → Bool
is_noncharacter c =
    is_in_range 0xFDD0 0xFDEF c || (nat_le c 0x10FFFF && nat_le 0xFFFE (c % 0x10000))

-- characters that rows count as one cell and that others show in none, or end a row at: the line
-- separator and the paragraph separator, and those of interlinear annotations
abbrev pub is_separator : ℕ → Bool
is_separator c = is_in_range 0x2028 0x2029 c || is_in_range 0xFFF9 0xFFFB c

-- the character is replaced
abbrev pub is_replaced : ℕ → Bool
is_replaced c = is_noncharacter c || is_separator c

-- ---- what is shown

-- the character is shown as itself
abbrev pub is_safe : ℕ → Bool
is_safe c = not (is_left_out c || is_replaced c)

-- the character that is shown for a character, if any is: U+FFFD for one that is replaced
abbrev pub shown_character : ℕ → Option ℕ
shown_character c =
    if is_left_out c then None else if is_replaced c then Some 0xFFFD else Some c

-- the characters that are shown for characters
abbrev pub safe_characters : List ℕ → List ℕ
safe_characters cs = filter_map shown_character cs

-- the text that is shown for a text
abbrev pub safe_text : List ℕ → List ℕ
safe_text text = encode_utf8_all (safe_characters (chars text))

-- ---- columns

-- a character, and the column where its cells begin
abbrev pub CharacterInColumn : Type 0
CharacterInColumn = ℕ × ℕ

-- the column after a character: a newline ends the row
abbrev pub column_after : ℕ → ℕ → ℕ → ℕ
column_after tab_width column c = if c == 10 then 0 else column + width_at tab_width column c

-- the characters with their columns, the first one at this column
abbrev pub columns : ℕ → ℕ → List ℕ → List CharacterInColumn
columns tab_width column [] = []
columns tab_width column (c ∷ cs) =
    (c, column) ∷ columns tab_width (column_after tab_width column c) cs

-- what is shown for a character, in the character's column
abbrev pub shown_in_column : CharacterInColumn → Option CharacterInColumn
shown_in_column p = option_map (λ (shown : ℕ). (shown, p.1)) (shown_character p.0)

-- what is shown for the characters, each in the column that its character has among all of them
abbrev pub shown_columns : ℕ → ℕ → List ℕ → List CharacterInColumn
shown_columns tab_width column cs = filter_map shown_in_column (columns tab_width column cs)

-- the characters `shown` are what is shown for the characters `cs`, each in the column that its
-- character has among all of these, at any tab width
abbrev pub AreInColumns : List ℕ → List ℕ → Type 0
AreInColumns shown cs =
    (tab_width : ℕ) → columns tab_width 0 shown ≡ shown_columns tab_width 0 cs
