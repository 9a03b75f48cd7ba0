-- The output of a diagnostic as a stream, in each style, by the loci in it.
use Rattle.std.specs.Prelude.{◌≡◌, ℕ, Bool, List, ◌++◌, map, string_bytes, IfSome, Option}
use Rattle.std.specs.List.{AllByRecursion, AllZip}
use Rattle.std.specs.Option.{option_map}
use Rattle.std.specs.Str.{IsUtf8}
use Rattle.std.specs.declared.ops.Range.{Range}
use Rattle.codespan_output.specs.Types.{Config, DisplayStyle, Rich, Medium, Short, Diagnostic}
use Rattle.codespan_output.specs.Types.{Label, LabelStyle, Severity}
use Rattle.codespan_core.specs.FileModel.{FileDatabase, FileModel}
use Rattle.codespan_core.specs.Labels.{LabelModel}
use Rattle.codespan_core.specs.Streams.{Stream, byte_stream}
use Rattle.codespan_output.specs.Padding.{padding_of}
use Rattle.codespan_output.specs.FittedLines.{fitted_row}
use Rattle.codespan_output.specs.Rows.{HeaderText, Locus, Row, RowContext}
use Rattle.codespan_output.specs.RowStreams.{stream_of_rows}
use Rattle.codespan_output.specs.Snippets.{LabelInFile, LabeledFileModel, header_rows}
use Rattle.codespan_output.specs.Snippets.{labeled_file_models, locus_byte_of, note_rows}
use Rattle.codespan_output.specs.Snippets.{primary_of, rich_rows}

-- ---- a diagnostic, as its output reads it

-- a label by its style, its range and the text of its message
abbrev pub label_model : LabelStyle → Range ℕ → List ℕ → LabelModel
label_model style range message =
    record { style = style; start = range.start; end = range.end; message = byte_stream message }

-- a label of the diagnostic
abbrev pub label_of : {Id : Type 0} → Label Id → LabelInFile Id
label_of x =
    record { file_id = x.file_id; label = label_model x.style x.range (string_bytes x.message) }

-- the labels in the order given
abbrev pub labels_of : {Id : Type 0} → Diagnostic Id → List (LabelInFile Id)
labels_of d = map label_of d.labels.items

-- its files with their labels
abbrev pub files_of : {Id : Type 0} → FileDatabase Id → Diagnostic Id → List LabeledFileModel
files_of files d = labeled_file_models files.same files.file (labels_of d)

-- its code and message
abbrev pub header_text_of : {Id : Type 0} → Diagnostic Id → HeaderText
header_text_of d = record {
  code = option_map string_bytes d.code;
  message = string_bytes d.message;
}

-- its notes
abbrev pub notes_of : {Id : Type 0} → Diagnostic Id → List (List ℕ)
notes_of d = map string_bytes d.notes.items

-- ---- loci

-- the locus at a file and a byte index in it: the location that the file has there, and a name: the
-- one that the file states, or any where it states none
pub record IsLocus (at : FileModel × ℕ) (locus : Locus) : Type 0 where
  pub location : locus.location ≡ at.0.location at.1
  pub name : IfSome at.0.name (λ name. locus.name ≡ name)

module _ {Id : Type 0} (same : Id → Id → Bool) (file : Id → FileModel)
    (xs : List (LabelInFile Id)) where
  -- the files, with byte indices in them, whose loci the output shows: in rich style that of each
  -- file's snippet, in medium and short style the start of each primary label
  abbrev pub locus_bytes : DisplayStyle → List (FileModel × ℕ)
  locus_bytes Rich =
      map (λ (s : LabeledFileModel). (s.file, locus_byte_of s.labels))
      (labeled_file_models same file xs)
  locus_bytes _ =
      map (λ (x : LabelInFile Id). (file x.file_id, x.label.start)) (primary_of xs)

-- the names of these loci are UTF-8
abbrev pub NamesAreUtf8 : List Locus → Type 0
NamesAreUtf8 loci = AllByRecursion (λ (locus : Locus). IsUtf8 locus.name) loci

module _ {Id : Type 0} (files : FileDatabase Id) (d : Diagnostic Id)
    (display_style : DisplayStyle) where
  -- these are the loci of an output, one for each pair of `locus_bytes`
  abbrev pub AreLoci : List Locus → Type 0
  AreLoci loci = AllZip IsLocus (locus_bytes files.same files.file (labels_of d) display_style) loci

-- ---- the output

-- what all rows of an output are rendered by
abbrev pub context_of : Config → Severity → ℕ → RowContext
context_of config severity padding = record {
  chars = config.chars;
  tab_width = config.tab_width;
  layout = config.layout;
  severity = severity;
  padding = padding;
}

-- the stream of rows whose lines fit a width
abbrev pub fitted_stream : Option ℕ → RowContext → List Row → Stream
fitted_stream width context rows = stream_of_rows context (map (fitted_row width context) rows)

-- what is rendered with these loci: the view's configuration chooses lines and, by its layout, the
-- padding; the renderer's the characters, the tab width, the width that lines fit and, by its
-- layout, the shapes of lanes
abbrev pub rendered : DisplayStyle → Config → Config → Severity → HeaderText
    → List Locus → List LabeledFileModel → List (List ℕ) → Stream
rendered Rich renderer_config view_config severity header_text loci ss notes =
    fitted_stream renderer_config.max_width
    (context_of renderer_config severity (padding_of view_config ss))
    (rich_rows view_config header_text loci ss notes)
rendered Medium renderer_config view_config severity header_text loci ss notes =
    stream_of_rows (context_of renderer_config severity 0)
    (header_rows header_text loci ++ note_rows notes)
rendered Short renderer_config view_config severity header_text loci ss notes =
    stream_of_rows (context_of renderer_config severity 0) (header_rows header_text loci)

module _ {Id : Type 0} (display_style : DisplayStyle) (renderer_config view_config : Config)
    (files : FileDatabase Id) (d : Diagnostic Id) where
  -- the output of a diagnostic with these loci
  abbrev pub output : List Locus → Stream
  output loci =
      rendered display_style renderer_config view_config d.severity (header_text_of d) loci
      (files_of files d) (notes_of d)
