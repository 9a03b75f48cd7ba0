-- The text and the end of a line as rows show them, and where a byte of a text is.
use Rattle.std.specs.Prelude.{ℕ, ◌+◌, ◌-◌, ◌==◌, if◌then◌else◌, List, []}
use Rattle.std.specs.Prelude.{◌∷◌, ◌++◌, drop, take, length, replicate, flat_map, codes}
use Rattle.std.specs.List.{suffix_len}
use Rattle.std.specs.Char.{encode_utf8}
use Rattle.std.specs.Str.{byte}
use Rattle.codespan_core.specs.Lines.{begins_char}
use Rattle.codespan_core.specs.declared.files.Location.{Location}
use Rattle.codespan_output.specs.CharMetrics.{is_line_end, text_without_line_end, char_metrics}
use Rattle.codespan_output.specs.declared.char_metrics.Metrics.{Metrics}
use Rattle.codespan_edits.specs.Diffs.{lines}

-- a character as a row shows it: a tab as spaces up to its next stop
abbrev pub shown_char : Metrics → List ℕ
shown_char c = if c.ch == byte "\t" then replicate c.unicode_width (byte " ") else encode_utf8 c.ch

-- the text of a line as a row shows it, without the line's end
abbrev pub shown_text : ℕ → List ℕ → List ℕ
shown_text tab_width line =
    flat_map shown_char (char_metrics tab_width (text_without_line_end line))

-- the end of a line: the newlines, carriage returns and null characters at its end
abbrev pub line_end : List ℕ → List ℕ
line_end line = drop (length line - suffix_len is_line_end line) line

-- the first of some lines, or no text
abbrev pub first_line : List (List ℕ) → List ℕ
first_line [] = []
first_line (l ∷ ls) = l

-- the usual end of a text's lines: that of the first one, or a newline where it has none
abbrev pub usual_end : List ℕ → List ℕ
usual_end text = if length text == 0 then byte "\n" ∷ [] else line_end (first_line (lines text))

-- a byte of a line's end by its escape
abbrev pub escaped : ℕ → List ℕ
escaped b =
    if b == byte "\n" then codes "\\n" else if b == byte "\r" then codes "\\r" else codes "\\0"

-- what is stated of an end
abbrev pub end_text : List ℕ → List ℕ
end_text [] = codes "no newline at end of file"
end_text (b ∷ bs) = codes "ends with " ++ flat_map escaped (b ∷ bs)

-- the location after one more byte: a newline ends a line, and any other byte that begins a
-- character is a column
abbrev pub location_after : Location → ℕ → Location
location_after at b =
    if b == byte "\n" then record { line_number = at.line_number + 1; column_number = 1 }
    else if begins_char b then record at { column_number = at.column_number + 1 }
    else at

-- the location after these bytes
abbrev pub location_past : Location → List ℕ → Location
location_past at [] = at
location_past at (b ∷ bs) = location_past (location_after at b) bs

-- the location of a byte of a text, both numbers from 1
abbrev pub location_in : List ℕ → ℕ → Location
location_in text byte =
    location_past (record { line_number = 1; column_number = 1 }) (take byte text)
