-- The picture: the output with the names that the files state, of a diagnostic or of its view; and
-- headers alone.
use Rattle.std.specs.Prelude.{ℕ, Bool, List, map, Some}
use Rattle.codespan_output.specs.Types.{Config, DisplayStyle, Diagnostic}
use Rattle.codespan_core.specs.Diagnostics.{DiagnosticView, LabelView}
use Rattle.codespan_core.specs.FileModel.{FileDatabase, FileModel, name_text}
use Rattle.codespan_core.specs.Streams.{Stream}
use Rattle.codespan_output.specs.Rows.{HeaderText, HeaderRow, Locus, Row}
use Rattle.codespan_output.specs.RowStreams.{stream_of_rows}
use Rattle.codespan_output.specs.OutputStreams.{header_text_of, labels_of, context_of, output}
use Rattle.codespan_output.specs.OutputStreams.{label_model, locus_bytes, rendered}
use Rattle.codespan_output.specs.Snippets.{LabelInFile, labeled_file_models}

-- the locus at a file and a byte index in it, with the name that the file states, and with an empty
-- name where it states none
abbrev pub stated_locus : FileModel × ℕ → Locus
stated_locus at = record { name = name_text at.0; location = at.0.location at.1 }

module _ {Id : Type 0} (files : FileDatabase Id) (d : Diagnostic Id)
    (display_style : DisplayStyle) where
  -- the loci of an output with the names that the files state
  abbrev pub stated_loci : List Locus
  stated_loci = map stated_locus (locus_bytes files.same files.file (labels_of d) display_style)

module _ {Id : Type 0} (display_style : DisplayStyle) (renderer_config view_config : Config)
    (files : FileDatabase Id) (d : Diagnostic Id) where
  -- the picture of a diagnostic: its output with the names that the files state
  abbrev pub picture : Stream
  picture =
      output display_style renderer_config view_config files d (stated_loci files d display_style)

-- a label by its view
abbrev pub label_of_view : {Id : Type 0} → LabelView Id → LabelInFile Id
label_of_view x =
    record { file_id = x.file_id; label = label_model x.style x.range x.message }

-- the picture by a configuration of a diagnostic by its view, whose texts are bytes, over files:
-- which ids are equal, and the file of an id
abbrev pub picture_of_diagnostic_view : {Id : Type 0}
    → Config → (Id → Id → Bool) → (Id → FileModel) → DiagnosticView Id → Stream
picture_of_diagnostic_view config same file d =
    let labels = map label_of_view d.labels in
    rendered config.display_style config config d.severity
    (record { code = d.code; message = d.message })
    (map stated_locus (locus_bytes same file labels config.display_style))
    (labeled_file_models same file labels) d.notes

-- headers with these loci
abbrev pub headers : HeaderText → List Locus → List Row
headers header_text loci = map (λ (locus : Locus). HeaderRow (Some locus) header_text) loci

-- the stream of these headers alone
abbrev pub headers_at : {Id : Type 0} → Config → Diagnostic Id → List Locus → Stream
headers_at renderer_config d loci =
    stream_of_rows (context_of renderer_config d.severity 0) (headers (header_text_of d) loci)
