-- The first error of a script.
use Rattle.std.specs.Prelude.{◌≡◌, ℕ, List, [], ◌∷◌, ◌++◌, length, Option, Some}
use Rattle.std.specs.Prelude.{None, Result, Err, codes, if◌then◌else◌, is_some}
use Rattle.std.specs.Option.{option_map}
use Rattle.std.specs.Result.{result_err}
use Rattle.std.specs.Str.{bytes_eq}
use Rattle.std.specs.declared.ops.Range.{Range}
use Rattle.program_io.specs.Escapes.{unescaped}
use Rattle.program_io.specs.Fields.{field_of, past_space}
use Rattle.program_io.specs.Names.{severity_named}
use Rattle.report.specs.declared.script.Fault.{Fault}
use Rattle.report.specs.declared.script.FaultKind.{FaultKind}
use Rattle.report.specs.declared.script.FaultKind.TheVariants.{UnknownWord, UnknownSeverity}
use Rattle.report.specs.declared.script.FaultKind.TheVariants.{BadNumber, RepeatedWord, MissingEnd}
use Rattle.report.specs.declared.script.FaultKind.TheVariants.{NoSuggestion, BadEscape}
use Rattle.report.specs.declared.script.ScriptError.{ScriptError}
use Rattle.report.specs.declared.script.ScriptError.TheVariants as errors
use Rattle.report.specs.declared.script.words.Word.{Word}
use Rattle.report.specs.declared.script.words.Word.TheVariants.{Severity, Code, Message, Primary}
use Rattle.report.specs.declared.script.words.Word.TheVariants.{Secondary, Note, Suggestion}
use Rattle.report.specs.declared.script.words.Word.TheVariants.{Replace, Width}
use Rattle.report.specs.Requests.{number_of}
use Rattle.report.specs.ScriptLines.{ScriptLineView, is_ignored, word_of, rest_of, range_at}
use Rattle.report.specs.ScriptLines.{word_range, replacement_of, byte_before}
use Rattle.report.specs.ScriptWords.{script_word_named}

-- an error with one range
abbrev pub fault_at : FaultKind → Range ℕ → Fault
fault_at kind range = record { kind = kind; range = range; first = None }

-- the first of two errors, if there is one
abbrev pub or_fault : Option Fault → Option Fault → Option Fault
or_fault (Some fault) other = Some fault
or_fault None other = other

-- the first line that begins with the word
abbrev pub line_of_word : List ℕ → List ScriptLineView → Option ScriptLineView
line_of_word word [] = None
line_of_word word (line ∷ lines) =
    if bytes_eq (word_of line) word then Some line else line_of_word word lines

-- the error of a line whose word is that of an earlier line: it is at the later word, and has the
-- range of the first
unfoldable pub repetition : List ScriptLineView → ScriptLineView → Option Fault
repetition before line =
    option_map
    (λ first. record {
      kind = RepeatedWord;
      range = word_range line;
      first = Some (word_range first);
    })
    (line_of_word (word_of line) before)

-- the error of a `severity` line whose rest is not the name of a severity
unfoldable pub severity_fault : ScriptLineView → Option Fault
severity_fault line =
    if is_some (severity_named (rest_of line))
    then None
    else Some (fault_at UnknownSeverity (range_at line (rest_of line) (rest_of line)))

-- the error of a `width` line whose rest is not a number
unfoldable pub width_fault : ScriptLineView → Option Fault
width_fault line =
    if is_some (number_of (rest_of line))
    then None
    else Some (fault_at BadNumber (range_at line (rest_of line) (rest_of line)))

-- the error of a label's line whose start or end is not a number
unfoldable pub number_fault : ScriptLineView → Option Fault
number_fault line =
    let rest = rest_of line in
    let after = past_space rest in
    if is_some (number_of (field_of rest))
    then (if is_some (number_of (field_of after))
    then None
    else Some (fault_at BadNumber (range_at line after (field_of after))))
    else Some (fault_at BadNumber (range_at line rest (field_of rest)))

-- the error of a `replace` line whose text has a backslash that does not begin an escape: it is at
-- the backslash
unfoldable pub escape_fault : ScriptLineView → Option Fault
escape_fault line =
    option_map (λ after. fault_at BadEscape (byte_before line after))
    (result_err (unescaped (replacement_of line)))

-- the error of a `replace` line: that no line before it begins with `suggestion`, then that of its
-- numbers, then that of its text
unfoldable pub replace_fault : List ScriptLineView → ScriptLineView → Option Fault
replace_fault before line =
    if is_some (line_of_word (codes "suggestion") before)
    then or_fault (number_fault line) (escape_fault line)
    else Some (fault_at NoSuggestion (word_range line))

-- the error of a line by its word: the word itself, then its repetition, then the fields that it
-- needs
abbrev pub word_fault : List ScriptLineView → ScriptLineView → Option Word → Option Fault
word_fault before line None = Some (fault_at UnknownWord (word_range line))
word_fault before line (Some Severity) = or_fault (repetition before line) (severity_fault line)
word_fault before line (Some Code) = repetition before line
word_fault before line (Some Message) = repetition before line
word_fault before line (Some Width) = or_fault (repetition before line) (width_fault line)
word_fault before line (Some Primary) = number_fault line
word_fault before line (Some Secondary) = number_fault line
word_fault before line (Some Note) = None
word_fault before line (Some Suggestion) = None
word_fault before line (Some Replace) = replace_fault before line

-- the first error of a line, by the lines before it; an ignored line has none
abbrev pub line_fault : List ScriptLineView → ScriptLineView → Option Fault
line_fault before line =
    if is_ignored line then None else word_fault before line (script_word_named (word_of line))

-- the first error of lines, by the lines before them
abbrev pub fault_from : List ScriptLineView → List ScriptLineView → Option Fault
fault_from before [] = None
fault_from before (line ∷ lines) =
    or_fault (line_fault before line) (fault_from (before ++ line ∷ []) lines)

-- the error of a script without an end, at the input's end
abbrev pub missing_end : List ℕ → Fault
missing_end input = fault_at MissingEnd (record { start = length input; end = length input })

-- the error that is returned is the script's, unless an allocation failed
abbrev pub IsScriptError : {T : Type 0} → Result T Fault → ScriptError → Type 0
IsScriptError parsed (errors.Fault fault) = parsed ≡ Err fault
IsScriptError parsed errors.OutOfMemory = Unit {0}
