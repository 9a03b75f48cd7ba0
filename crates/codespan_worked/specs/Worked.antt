-- How worked outputs are written down: texts by their characters, outputs row by row.
use Rattle.std.specs.Prelude.{ℕ, ◌+◌, ◌*◌, ◌/◌, ◌%◌, ◌==◌}
use Rattle.std.specs.Prelude.{if◌then◌else◌, List, [], ◌∷◌, ◌++◌, map, flat_map}
use Rattle.std.specs.Prelude.{codes, decimal, encode_utf8_all, slice_get, Option, Some, None}
use Rattle.std.specs.List.{range_with_len}
use Rattle.std.specs.Fmt.{digits}
use Rattle.std.specs.Option.{option_map_or}
use Rattle.unicode_width.proofs.Computing.{unicode_width}
use Rattle.codespan_output.specs.Types.{Config, DisplayStyle, Rich, Medium, Short, Severity}
use Rattle.codespan_output.specs.Types.{LabelStyle, Primary, Secondary}
use Rattle.codespan_base.specs.declared.diagnostic.Severity.TheVariants.{Error}
use Rattle.codespan_base.specs.FileModel.{FileModel, line_of}
use Rattle.codespan_base.specs.SimpleModel.{simple_file, missing_file}
use Rattle.codespan_base.specs.MappedModel.{mapped_file}
use Rattle.codespan_base.specs.Streams.{Stream, Spelling, byte_stream}
use Rattle.codespan_base.specs.StyleSpellings.{ansi_spelling, default_styles}
use Rattle.codespan_base.specs.Ansi.{ansi_reset, escape, ansi_bold, ansi_color, ansi_style}
use Rattle.codespan_output.specs.declared.arguments.MultiLabel.TheVariants as rust_variant
use Rattle.codespan_output.specs.Arguments.{LaneMarkTuple}
use Rattle.codespan_output.specs.Rows.{Line}
use Rattle.codespan_output.specs.RowDefinitions.{row_definitions}
use Rattle.codespan_output.specs.Snippets.{LabelInFile, labeled_file_models}
use Rattle.codespan_output.specs.OutputStreams.{rendered, locus_bytes}
use Rattle.codespan_output.specs.Picture.{stated_locus}

-- opens all definitions of an output, so that it computes
unfoldable pub worked_definitions : Unit {0}
unfolding unicode_width digits line_of row_definitions escape ansi_reset ansi_bold ansi_color
    ansi_style
worked_definitions = tt

-- a file of a name and a text
abbrev pub text_file : List ℕ → List ℕ → FileModel
text_file name text = simple_file (Some (encode_utf8_all name)) (encode_utf8_all text)

-- a label of these bytes in the file with this id
abbrev pub label : LabelStyle → ℕ → ℕ → ℕ → List ℕ → LabelInFile ℕ
label style id start end message = record {
  file_id = id;
  label = record {
    style = style;
    start = start;
    end = end;
    message = byte_stream (encode_utf8_all message);
  };
}

-- a file of a name and a text, with set line numbers
abbrev pub mapped_text_file : List ℕ → List ℕ → List (ℕ × ℕ) → FileModel
mapped_text_file name text set_numbers =
    mapped_file (Some (encode_utf8_all name)) (encode_utf8_all text) set_numbers

-- the file with lines that are numbered by their indices
abbrev pub from_zero : FileModel → FileModel
from_zero f = record f {
  line_number = λ i. i;
  location = λ byte. record {
    line_number = line_of f.starts byte;
    column_number = f.column_number (line_of f.starts byte) byte;
  };
}

-- a diagnostic without its labels
pub record DiagnosticText : Type 0 where
  pub severity : Severity
  pub code : Option (List ℕ)
  pub message : List ℕ
  pub notes : List (List ℕ)

-- a message alone
abbrev pub message_only : Severity → List ℕ → DiagnosticText
message_only severity message = record {
  severity = severity;
  code = None;
  message = encode_utf8_all message;
  notes = [];
}

-- the same with a code
abbrev pub with_code : List ℕ → DiagnosticText → DiagnosticText
with_code code diagnostic = record diagnostic { code = Some (encode_utf8_all code) }

-- the same with one note
abbrev pub with_note : List ℕ → DiagnosticText → DiagnosticText
with_note note diagnostic = record diagnostic { notes = encode_utf8_all note ∷ [] }

-- the file with this id
abbrev pub file_by_id : List FileModel → ℕ → FileModel
file_by_id files id = option_map_or (λ f. f) (slice_get files id) missing_file

-- what is rendered in a style, with the names that the files state
abbrev pub worked_output_of : DisplayStyle → Config → DiagnosticText → List FileModel
    → List (LabelInFile ℕ) → Stream
worked_output_of display_style config diagnostic files labels =
    rendered display_style config config diagnostic.severity
    (record { code = diagnostic.code; message = diagnostic.message })
    (map stated_locus (locus_bytes ◌==◌ (file_by_id files) labels display_style))
    (labeled_file_models ◌==◌ (file_by_id files) labels) diagnostic.notes

-- in rich style
abbrev pub rich : Config → DiagnosticText → List FileModel → List (LabelInFile ℕ) → Stream
rich config diagnostic files labels = worked_output_of Rich config diagnostic files labels

-- in medium style
abbrev pub medium : Config → DiagnosticText → List FileModel → List (LabelInFile ℕ)
    → Stream
medium config diagnostic files labels = worked_output_of Medium config diagnostic files labels

-- in short style
abbrev pub short : Config → DiagnosticText → List FileModel → List (LabelInFile ℕ)
    → Stream
short config diagnostic files labels = worked_output_of Short config diagnostic files labels

-- ---- texts of several worked outputs

-- an example of the Rust crate: two files
abbrev pub nat_files : List FileModel
nat_files =
    text_file (codes "Data/Nat.fun") (codes "module Data.Nat where\n\n"
    ++ codes "data Nat : Type where\n    zero : Nat\n    succ : Nat → Nat\n\n"
    ++ codes "{-# BUILTIN NATRAL Nat #-}\n\ninfixl 6 _+_ _-_\n\n_+_ : Nat → Nat → Nat\n")
    ∷ text_file (codes "Test.fun") (codes "module Test where\n\n"
    ++ codes "_ : Nat\n_ = 123 + \"hello\"\n")
    ∷ []

-- the diagnostic over them, without its labels
abbrev pub nat_error : DiagnosticText
nat_error =
    with_note (codes "expected type `Nat`\n   found type `String`\n")
    (with_code (codes "E0001")
    (message_only Error (codes "unexpected type in application of `_+_`")))

-- a file whose lines are indented by tabs
abbrev pub tabbed_file : FileModel
tabbed_file = text_file (codes "tabbed") (codes "Entity:\n\tArmament:\n\t\tWeapon: DogJaw\n"
    ++ codes "\t\tReloadingCondition:\tattack-cooldown\n\tFoo: Bar")

-- ---- rows of direct calls

-- a line with single-line labels alone, and no lanes
abbrev pub line_of_labels : ℕ → List ℕ → List (LabelInFile ℕ) → Line
line_of_labels number text labels = record {
  number = number;
  text = encode_utf8_all text;
  labels = map (λ (x : LabelInFile ℕ). x.label) labels;
  lanes = record { count = 0; lane_marks = [] };
}

-- a bar in each of these lanes
abbrev pub bars_in : List ℕ → List LaneMarkTuple
bars_in lanes = map (λ lane. (lane, Primary, rust_variant.Left)) lanes

-- ---- many labels

-- fifty lines of eight characters
abbrev pub many_lines : FileModel
many_lines = text_file (codes "f") (flat_map (λ _. codes "abcdefgh\n") (range_with_len 0 50))

-- a label on one of them, two bytes long; the number is its index in the list
abbrev pub one_of_many : ℕ → LabelInFile ℕ
one_of_many i =
    let start = 9 * (i % 50) + i / 50 in
    label (if i % 2 == 0 then Primary else Secondary) 0 start (start + 2)
    (codes "m" ++ decimal i)

-- two hundred of them
abbrev pub many_labels : List (LabelInFile ℕ)
many_labels = map one_of_many (range_with_len 0 200)

-- those at even indices
abbrev pub evens : List (LabelInFile ℕ)
evens = map (λ k. one_of_many (2 * k)) (range_with_len 0 100)

-- those at odd indices
abbrev pub odds : List (LabelInFile ℕ)
odds = map (λ k. one_of_many (2 * k + 1)) (range_with_len 0 100)

-- ---- texts

-- rows of characters, each with its newline
abbrev pub rows : List (List ℕ) → List ℕ
rows rs = flat_map (λ r. encode_utf8_all r ++ 10 ∷ []) rs

-- how a writer of escape sequences in the default styles spells style marks
abbrev pub ansi : Spelling
ansi = ansi_spelling default_styles
