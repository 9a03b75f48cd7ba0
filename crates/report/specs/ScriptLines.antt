-- The lines of a script, and the fields of a line.
use Rattle.std.specs.Prelude.{ℕ, ◌+◌, ◌-◌, Bool, ◌==◌, List, [], ◌∷◌, length}
use Rattle.std.specs.Prelude.{drop, Option, Some, None, codes, if◌then◌else◌}
use Rattle.std.specs.List.{slice_split}
use Rattle.std.specs.Str.{bytes_eq}
use Rattle.std.specs.Str.Lines.{strip_carriage_return}
use Rattle.std.specs.declared.ops.Range.{Range}
use Rattle.program_io.specs.Fields.{field_of, is_ignored_text, past_space}
use Rattle.report.specs.declared.script.line.Line.{Line}

-- a line: the byte at which it starts, its text without its newline and a carriage return before
-- that, and the byte at which the next line starts
pub record ScriptLineView : Type 0 where
  pub start : ℕ
  pub text : List ℕ
  pub next : ℕ

-- a line by its text's bytes
abbrev pub script_line_view : Line → ScriptLineView
script_line_view line = record { start = line.start; text = line.text.now; next = line.next }

-- whether a byte is the newline, at which lines are cut
abbrev pub is_newline : ℕ → Bool
is_newline b = b == 10

-- the lines of pieces that are cut at each newline, of which the first starts at this byte; a `\r`
-- right before a newline is dropped
abbrev pub script_lines_from : ℕ → List (List ℕ) → List ScriptLineView
script_lines_from start [] = []
script_lines_from start (piece ∷ []) =
    record { start = start; text = piece; next = start + length piece } ∷ []
script_lines_from start (piece ∷ other ∷ more) =
    record { start = start; text = strip_carriage_return piece; next = start + length piece + 1 }
    ∷ script_lines_from (start + length piece + 1) (other ∷ more)

-- the lines of an input
unfoldable pub script_lines : List ℕ → List ScriptLineView
script_lines input = script_lines_from 0 (slice_split is_newline input)

-- whether a line is `---`, which ends the script
abbrev pub is_end : ScriptLineView → Bool
is_end line = bytes_eq line.text (codes "---")

-- the lines of the script: those before the first end
abbrev pub body : List ScriptLineView → List ScriptLineView
body [] = []
body (line ∷ lines) = if is_end line then [] else line ∷ body lines

-- the source: what follows the newline of the first end; none without an end
abbrev pub script_source : List ℕ → List ScriptLineView → Option (List ℕ)
script_source input [] = None
script_source input (line ∷ lines) =
    if is_end line then Some (drop line.next input) else script_source input lines

-- the lines of the suffix that is left of an input of this many bytes; none if none is left
abbrev pub lines_left : ℕ → Option (List ℕ) → List ScriptLineView
lines_left size None = []
lines_left size (Some text) = script_lines_from (size - length text) (slice_split is_newline text)

-- whether a line is ignored
abbrev pub is_ignored : ScriptLineView → Bool
is_ignored line = is_ignored_text line.text

-- the word of a line
abbrev pub word_of : ScriptLineView → List ℕ
word_of line = field_of line.text

-- the rest of a line
abbrev pub rest_of : ScriptLineView → List ℕ
rest_of line = past_space line.text

-- the range in the input of a field with which a suffix of the line begins; a field that is not
-- there is empty, at the line's end
abbrev pub range_at : ScriptLineView → List ℕ → List ℕ → Range ℕ
range_at line from field = record {
  start = line.start + length line.text - length from;
  end = line.start + length line.text - length from + length field;
}

-- the range of the word
abbrev pub word_range : ScriptLineView → Range ℕ
word_range line = range_at line line.text (word_of line)

-- the escaped text of a `replace` line: what follows the second space of the rest
abbrev pub replacement_of : ScriptLineView → List ℕ
replacement_of line = past_space (past_space (rest_of line))

-- the range in the input of the byte before a suffix of the line
abbrev pub byte_before : ScriptLineView → List ℕ → Range ℕ
byte_before line after = record {
  start = line.start + length line.text - length after - 1;
  end = line.start + length line.text - length after;
}

-- the range in the input from the start of the rest's first field to the end of its second one
abbrev pub ends_range : ScriptLineView → Range ℕ
ends_range line =
    let rest = rest_of line in
    let after = past_space rest in
    record {
      start = (range_at line rest (field_of rest)).start;
      end = (range_at line after (field_of after)).end;
    }
