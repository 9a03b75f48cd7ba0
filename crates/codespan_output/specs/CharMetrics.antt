-- The characters of a drawn line and the cells that they occupy.
use Rattle.std.specs.Prelude.{ℕ, ◌+◌, ◌-◌, ◌%◌, Bool, false, ◌||◌, ◌==◌}
use Rattle.std.specs.Prelude.{if◌then◌else◌, unwrap_or, List, ◌∷◌, length, sum_by, take}
use Rattle.std.specs.Prelude.{take_while, []}
use Rattle.std.specs.List.{suffix_len}
use Rattle.std.specs.Str.{byte, chars}
use Rattle.std.specs.Char.{len_utf8, is_whitespace}
use Rattle.codespan_output.specs.declared.char_metrics.Metrics.{Metrics}
use Rattle.unicode_width.specs.Width.{char_width}

-- the byte is a line feed, a carriage return or NUL, which are not rendered at a line's end
abbrev pub is_line_end : ℕ → Bool
is_line_end b = (b == byte "\n") || (b == byte "\r") || (b == 0)

-- the text of a line as it is rendered: without such bytes at its end
abbrev pub text_without_line_end : List ℕ → List ℕ
text_without_line_end text = take (length text - suffix_len is_line_end text) text

-- the cells of a character at a column: of a tab those up to its next stop, none at tab width 0; of
-- any other what `unicode_width` returns (`false`: not the CJK width), none where it returns none
abbrev pub width_at : ℕ → ℕ → ℕ → ℕ
width_at tab column c =
    if c == byte "\t" then (if tab == 0 then 0 else tab - column % tab)
    else unwrap_or (char_width false c) 0

-- these characters with their cells, the first at this byte index and column, and then the list
-- that `after` has for the byte index and the column at which they end
abbrev pub metrics_then : (ℕ → ℕ → List Metrics) → ℕ → ℕ → ℕ → List ℕ
    → List Metrics
metrics_then after tab byte_index column [] = after byte_index column
metrics_then after tab byte_index column (c ∷ cs) =
    record {
      ch = c;
      byte_index = byte_index;
      bytes = len_utf8 c;
      column = column;
      unicode_width = width_at tab column c;
    }
    ∷ metrics_then after tab (byte_index + len_utf8 c) (column + width_at tab column c) cs

-- the characters of a line with their cells
abbrev pub char_metrics : ℕ → List ℕ → List Metrics
char_metrics tab line = metrics_then (λ _ _. []) tab 0 0 (chars line)

-- the placeholder after the last character: a space, of one byte and one cell
abbrev pub placeholder : ℕ → ℕ → List Metrics
placeholder byte_index column =
    record { ch = byte " "; byte_index = byte_index; bytes = 1; column = column; unicode_width = 1 }
    ∷ []

-- the characters of a line with their cells, and the placeholder after the last one
abbrev pub char_metrics_to_end : ℕ → List ℕ → List Metrics
char_metrics_to_end tab line = metrics_then placeholder tab 0 0 (chars line)

-- the widths of these characters together
abbrev pub width_of : List Metrics → ℕ
width_of cs = sum_by (λ (c : Metrics). c.unicode_width) cs

-- how many bytes of white space the line begins with
abbrev pub leading_whitespace : List ℕ → ℕ
leading_whitespace line = sum_by len_utf8 (take_while is_whitespace (chars line))
