-- For `outputs_are_utf8`: the rows of an output are texts.
use Rattle.codespan_core.proofs.Std.{List, [], ◌∷◌, ◌++◌, map, filter}
use Rattle.codespan_core.proofs.Std.{Option, Some, None, IfSome, string_bytes, AllByRecursion}
use Rattle.codespan_core.proofs.Std.{option_map, IsUtf8}
use Rattle.std.specs.Prelude.{String}
use Rattle.std.proofs.lemmas.Str.{IsUtf8-string_bytes}
use Rattle.codespan_core.specs.FileModel.{FileDatabase, FileModel}
use Rattle.codespan_core.specs.LawfulFiles.{IsLawful}
use Rattle.codespan_output.specs.Types.{Diagnostic, Label, Config, DisplayStyle, Rich, Medium}
use Rattle.codespan_output.specs.Types.{Short}
use Rattle.codespan_output.specs.{padding_of, NamesAreUtf8, files_of, header_text_of, label_of}
use Rattle.codespan_output.specs.{labels_of, context_of, notes_of, output, locus_bytes, stated_loci}
use Rattle.codespan_output.specs.{headers, Locus, Row, HeaderRow, FinalRow, LabelInFile}
use Rattle.codespan_output.specs.{header_rows, labeled_file_model, note_rows, rich_rows, snippets}
use Rattle.codespan_output.specs.{fitted_row}
use Rattle.codespan_output.specs.{CharsAreScalars, StreamIsUtf8, OutputIsUtf8, PictureIsUtf8}
use Rattle.codespan_output.proofs.Lanes.LineLemmas.{each_all, each_map}
use Rattle.codespan_output.proofs.Outputs.Loci.{each_start, stated_texts}
use Rattle.codespan_output.proofs.Utf8.Streams.{text-byte_stream}
use Rattle.codespan_output.proofs.Utf8.Lanes.{RowIsUtf8}
use Rattle.codespan_output.proofs.Utf8.Rows.{text-rows}
use Rattle.codespan_output.proofs.Utf8.ListElements.{all-append, all-filter, all-weaker}
use Rattle.codespan_output.proofs.Utf8.FittedRows.{row-fitted}
use Rattle.codespan_output.proofs.Utf8.DrawnLines.{rows-notes}
use Rattle.codespan_output.specs.Private.{has_any}
use Rattle.codespan_output.proofs.Utf8.OutputRows.{HasTextMessage, FileIsUtf8, rows-snippets}

-- ---- a diagnostic

code-utf8 : {Z : Type 0} (code : Option (String Z)) → IfSome (option_map string_bytes code) IsUtf8
code-utf8 None = tt
code-utf8 (Some s) = IsUtf8-string_bytes s

module _ {Id : Type 0} (files : FileDatabase Id) (d : Diagnostic Id)
    (lawful : (id : Id) → IsLawful (files.file id)) where
  text_message-labels : (ls : List (Label Id))
      → AllByRecursion (λ (x : LabelInFile Id). HasTextMessage x.label) (map label_of ls)
  text_message-labels ls = each_map (λ (x : LabelInFile Id). HasTextMessage x.label) label_of ls
      (each_all (λ (x : Label Id). HasTextMessage (label_of x).label) ls
      (λ x. text-byte_stream (string_bytes x.message) (IsUtf8-string_bytes x.message)))

  text-file : (id : Id) → FileIsUtf8 (labeled_file_model files.same files.file (labels_of d) id)
  text-file id = record {
    lawful = lawful id;
    labels = each_map HasTextMessage (λ (x : LabelInFile Id). x.label)
        (filter (λ (x : LabelInFile Id). files.same id x.file_id) (labels_of d))
        (all-filter (λ (x : LabelInFile Id). HasTextMessage x.label)
        (λ (x : LabelInFile Id). files.same id x.file_id) (labels_of d)
        (text_message-labels d.labels.items));
  }

  text-files : AllByRecursion FileIsUtf8 (files_of files d)
  text-files =
      each_map FileIsUtf8 (labeled_file_model files.same files.file (labels_of d)) _
      (each_all (λ id. FileIsUtf8 (labeled_file_model files.same files.file (labels_of d) id)) _
      text-file)

  text-notes : AllByRecursion IsUtf8 (notes_of d)
  text-notes =
      each_map IsUtf8 string_bytes d.notes.items
      (each_all (λ n. IsUtf8 (string_bytes n)) d.notes.items (λ n. IsUtf8-string_bytes n))

  -- ---- whatever the names

  rows-header_text : (at : Option Locus) → IfSome at (λ p. IsUtf8 p.name)
      → RowIsUtf8 (HeaderRow at (header_text_of d))
  rows-header_text at named = (named, code-utf8 d.code, IsUtf8-string_bytes d.message)

  rows-rich : (view_config : Config) (loci : List Locus) → NamesAreUtf8 loci
      → AllByRecursion RowIsUtf8
      (rich_rows view_config (header_text_of d) loci (files_of files d) (notes_of d))
  rows-rich view_config loci named =
      let first : List Row = HeaderRow None (header_text_of d)
      ∷ snippets view_config (has_any (notes_of d)) loci (files_of files d) in
      all-append RowIsUtf8 (first ++ note_rows (notes_of d)) (FinalRow ∷ [])
      (all-append RowIsUtf8 first (note_rows (notes_of d)) (
        rows-header_text None tt,
        rows-snippets view_config (has_any (notes_of d)) loci
            (files_of files d) named text-files,
      )
      (rows-notes (notes_of d) text-notes))
      (tt, tt)

  rows-headers : (loci : List Locus) → NamesAreUtf8 loci
      → AllByRecursion RowIsUtf8 (headers (header_text_of d) loci)
  rows-headers [] named = tt
  rows-headers (p ∷ ps) named = (rows-header_text (Some p) named.0, rows-headers ps named.1)

  rows-header_rows : (loci : List Locus) → NamesAreUtf8 loci
      → AllByRecursion RowIsUtf8 (header_rows (header_text_of d) loci)
  rows-header_rows [] named = (rows-header_text None tt, tt)
  rows-header_rows (p ∷ ps) named = rows-headers (p ∷ ps) named

  -- the output with any loci is a text
  pub text-output : (style : DisplayStyle) (renderer_config view_config : Config)
      → CharsAreScalars renderer_config.chars
      → (loci : List Locus) → NamesAreUtf8 loci
      → StreamIsUtf8 (output style renderer_config view_config files d loci)
  text-output Rich renderer_config view_config ok loci named =
      let context = context_of renderer_config d.severity
      (padding_of view_config (files_of files d)) in
      let width = renderer_config.max_width in
      let rows = rich_rows view_config (header_text_of d) loci (files_of files d) (notes_of d) in
      text-rows context ok (map (fitted_row width context) rows)
      (each_map RowIsUtf8 (fitted_row width context) rows
      (all-weaker RowIsUtf8 (λ row. RowIsUtf8 (fitted_row width context row))
      (row-fitted width context) rows (rows-rich view_config loci named)))
  text-output Medium renderer_config view_config ok loci named =
      text-rows (context_of renderer_config d.severity 0) ok
      (header_rows (header_text_of d) loci ++ note_rows (notes_of d))
      (all-append RowIsUtf8 (header_rows (header_text_of d) loci) (note_rows (notes_of d))
      (rows-header_rows loci named) (rows-notes (notes_of d) text-notes))
  text-output Short renderer_config view_config ok loci named =
      text-rows (context_of renderer_config d.severity 0) ok (header_rows (header_text_of d) loci)
      (rows-header_rows loci named)

module _ {Id : Type 0} (style : DisplayStyle) (renderer_config view_config : Config)
    (files : FileDatabase Id) (d : Diagnostic Id) where
  pub output_is_utf8 : OutputIsUtf8 style renderer_config view_config files d
  output_is_utf8 ok lawful loci named = text-output files d lawful style renderer_config view_config
      ok loci named

  -- and so is the picture
  pub picture_is_utf8 : PictureIsUtf8 style renderer_config view_config files d
  picture_is_utf8 ok lawful named =
      text-output files d lawful style renderer_config view_config ok (stated_loci files d style)
      (stated_texts (locus_bytes files.same files.file (labels_of d) style)
      (each_start files.same files.file (labels_of d) (λ (f : FileModel). IfSome f.name IsUtf8)
      (each_all (λ (x : LabelInFile Id). IfSome (files.file x.file_id).name IsUtf8) (labels_of d)
      (λ x. named x.file_id)) style))
