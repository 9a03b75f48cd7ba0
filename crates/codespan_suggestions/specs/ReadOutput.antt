-- How the rows of a diff are read from the text of an output in rich style.
use Rattle.std.specs.Prelude.{ℕ, ◌==◌, nat_le, Bool, ◌&&◌, ◌||◌}
use Rattle.std.specs.Prelude.{if◌then◌else◌, List, [], ◌∷◌, ◌++◌, map, filter, take, drop}
use Rattle.std.specs.Prelude.{length, ◌/◌, Option, Some, None, codes}
use Rattle.std.specs.Option.{option_map_or, is_some}
use Rattle.std.specs.List.{prefix_len}
use Rattle.std.specs.Str.Parse.{digits_value}
use Rattle.std.specs.Char.{encode_utf8}
use Rattle.std.specs.Str.{byte}
use Rattle.codespan_core.specs.SnippetStarts.{start_text}
use Rattle.codespan_output.specs.Types.{Chars}
use Rattle.codespan_edits.specs.Diffs.{byte_before}
use Rattle.codespan_edits.specs.Numbers.{NumberedRow}
use Rattle.codespan_edits.specs.declared.rows.RowSign.{RowSign}
use Rattle.codespan_edits.specs.declared.rows.RowSign.TheVariants.{Kept, Removed, Added}

-- ---- texts

-- the rows of a text: what is before each newline, and what is after the last one
abbrev pub text_rows : List ℕ → List (List ℕ)
text_rows [] = []
text_rows (b ∷ bs) = if b == byte "\n" then [] ∷ text_rows bs else byte_before b (text_rows bs)

-- what follows these bytes in a text that begins with them
abbrev pub after_bytes : List ℕ → List ℕ → Option (List ℕ)
after_bytes [] text = Some text
after_bytes (b ∷ bs) [] = None
after_bytes (b ∷ bs) (c ∷ cs) = if b == c then after_bytes bs cs else None

-- whether a byte is a digit, and whether it may be left of a border: a digit or a space
abbrev pub is_digit : ℕ → Bool
is_digit b = nat_le 48 b && nat_le b 57

abbrev pub is_gutter : ℕ → Bool
is_gutter b = is_digit b || b == byte " "

-- the digits and spaces that a row begins with, and what follows them
abbrev pub gutter_of : List ℕ → List ℕ
gutter_of row = take (prefix_len is_gutter row) row

abbrev pub after_gutter : List ℕ → List ℕ
after_gutter row = drop (prefix_len is_gutter row) row

-- the number of these digits, if there are any
abbrev pub number_of_digits : List ℕ → Option ℕ
number_of_digits [] = None
number_of_digits (d ∷ ds) = Some (digits_value 10 (d ∷ ds))

-- the number among spaces
abbrev pub number_among : List ℕ → Option ℕ
number_among cells = number_of_digits (filter is_digit cells)

-- ---- one row

-- a line of a diff as its row shows it: its text is that before the line's end
pub record ShownLine : Type 0 where
  pub sign : RowSign
  pub old_number : Option ℕ
  pub new_number : Option ℕ
  pub text : List ℕ

-- what a row is: the start of a file, a line, the end of the line before it, or another row
pub data RowRead : Type 0 where
  FileStart : RowRead
  LineShown : ShownLine → RowRead
  EndStated : List ℕ → RowRead
  OtherRow : RowRead

-- the sign of a byte
abbrev pub sign_of_byte : ℕ → RowSign
sign_of_byte b = if b == byte "-" then Removed else if b == byte "+" then Added else Kept

-- the byte of an escape, after its backslash
abbrev pub escaped_by : ℕ → ℕ
escaped_by b = if b == byte "n" then byte "\n" else if b == byte "r" then byte "\r" else 0

-- the bytes of escapes
abbrev pub unescaped : List ℕ → List ℕ
unescaped [] = []
unescaped (b ∷ []) = []
unescaped (b ∷ (c ∷ rest)) = escaped_by c ∷ unescaped rest

-- the end of a line that is stated: that of the escapes after these words, or else none
abbrev pub end_stated : List ℕ → List ℕ
end_stated text = option_map_or unescaped (after_bytes (codes "ends with ") text) []

-- a row with this gutter and this sign: a backslash is before an end; else the old number is in the
-- left half of the gutter, and the new one in the right half
abbrev pub signed_read : List ℕ → ℕ → List ℕ → RowRead
signed_read gutter sign text =
    if sign == byte "\\" then EndStated (end_stated text)
    else
    LineShown
    (record {
      sign = sign_of_byte sign;
      old_number = number_among (take (length gutter / 2) gutter);
      new_number = number_among (drop (length gutter / 2) gutter);
      text = text;
    })

-- a row with this gutter and this text after the border: a sign between two spaces, and a text
abbrev pub bordered_read : List ℕ → List ℕ → RowRead
bordered_read gutter [] = OtherRow
bordered_read gutter (a ∷ []) = OtherRow
bordered_read gutter (a ∷ (b ∷ [])) = OtherRow
bordered_read gutter (a ∷ (b ∷ (c ∷ text))) = signed_read gutter b text

-- a row: after the gutter a file has its start, and a line or an end has the border
abbrev pub row_read : Chars → List ℕ → RowRead
row_read chars row =
    if is_some (after_bytes (start_text chars.snippet_start) (after_gutter row))
    then FileStart
    else
    option_map_or (bordered_read (gutter_of row))
    (after_bytes (encode_utf8 chars.source_border_left) (after_gutter row)) OtherRow

-- ---- all rows

-- the rows before the next start of a file
abbrev pub until_start : List RowRead → List RowRead
until_start [] = []
until_start (FileStart ∷ xs) = []
until_start (LineShown line ∷ xs) = LineShown line ∷ until_start xs
until_start (EndStated end ∷ xs) = EndStated end ∷ until_start xs
until_start (OtherRow ∷ xs) = OtherRow ∷ until_start xs

-- the rows of each file: those after its start
abbrev pub files_read : List RowRead → List (List RowRead)
files_read [] = []
files_read (FileStart ∷ xs) = until_start xs ∷ files_read xs
files_read (_ ∷ xs) = files_read xs

-- the files of an output, whose first row is the header
abbrev pub output_read : Chars → List ℕ → List (List RowRead)
output_read chars text = files_read (map (row_read chars) (drop 1 (text_rows text)))

-- the end of a line: the one that is stated in the next row, or else the usual one of its file
abbrev pub end_before : List ℕ → List RowRead → List ℕ
end_before usual (EndStated end ∷ xs) = end
end_before usual _ = usual

-- the rows of a diff that the rows of a file show, each with the text of its line and the end of it
abbrev pub diff_read : List ℕ → List RowRead → List NumberedRow
diff_read usual [] = []
diff_read usual (LineShown line ∷ xs) =
    record {
      row = record { sign = line.sign; line = line.text ++ end_before usual xs };
      old_number = line.old_number;
      new_number = line.new_number;
    }
    ∷ diff_read usual xs
diff_read usual (_ ∷ xs) = diff_read usual xs
