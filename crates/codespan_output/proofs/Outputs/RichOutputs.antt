-- For `outputs_mean_labels`: a rich output means its labels, by the laws of its parts together.
use Rattle.codespan_core.proofs.Std.{◌≡◌, ◌<◌, Bool, List, [], ◌∷◌, ◌++◌}
use Rattle.codespan_core.proofs.Std.{◌||◌, None, map, flat_map, refl, sym, subst, ap, AllZip}
use Rattle.codespan_core.proofs.Std.{IsEquivalence, ℕ, Option, AllByRecursion}
use Rattle.codespan_core.specs.FileModel.{FileDatabase, line_count}
use Rattle.codespan_core.specs.Streams.{Stream}
use Rattle.codespan_output.specs.Types.{Config, Diagnostic, DisplayStyle, Rich}
use Rattle.codespan_output.specs.{RowContext, LabeledFileModel, files_of, CaretsAreCells}
use Rattle.codespan_output.specs.{SnippetMeansLabels, MeansLabels, IsOutput, Locus, Row, HeaderRow}
use Rattle.codespan_output.specs.{FinalRow, snippet, snippets, empty_row_after, AreLoci, IsLocus}
use Rattle.codespan_output.specs.{output, header_text_of, notes_of, note_rows, rich_context}
use Rattle.codespan_output.specs.{fitted_stream, labels_of, CanFit}
use Rattle.codespan_output.proofs.Utf8.Texts.{text_of-append}
use Rattle.codespan_output.proofs.Carets.Cells.{text_of-line_carets}
use Rattle.codespan_output.proofs.DrawnLines.Filled.{rows_of_shown_lines}
use Rattle.codespan_output.proofs.Fitting.CanFit.{FileCanFit, can-files, can-snippet}
use Rattle.codespan_output.proofs.Lanes.FittedLanes.{all-lanes-stay}
use Rattle.codespan_output.proofs.Lanes.Shown.{lanes_are_shown}
use Rattle.codespan_output.specs.Private.{has_any, snippet_locus_byte}
use Rattle.codespan_output.proofs.DrawnLines.Breaks as breaks
use Rattle.codespan_output.proofs.Lanes.LineRuns as runs
use Rattle.codespan_output.proofs.Slots.Once as messages
use Rattle.codespan_output.proofs.DrawnLines.Padding as padding
use Rattle.codespan_output.proofs.Pointers.Texts as pointers
use Rattle.codespan_output.proofs.Lanes.Ranges as ranges
use Rattle.codespan_output.proofs.DrawnLines.RowBounds as bounds

-- the text of a caret row is its caret cells
pub carets_are_cells : (context : RowContext) → CaretsAreCells context
carets_are_cells context = λ line. simp (text_of-append, text_of-line_carets)

-- the snippet of a file, with the empty row after it, if it has one, means the labels of the file
pub snippet_means_labels : (view_config : Config) (width : Option ℕ) (context : RowContext)
    (locus : Locus) (followed : Bool) (s : LabeledFileModel) → FileCanFit width s
    → SnippetMeansLabels view_config width context s
    (snippet view_config locus s ++ empty_row_after followed s)
snippet_means_labels view_config width context locus followed s can = record {
  locus = locus;
  is_followed = followed;
  rows_are = refl;
  drawn = rows_of_shown_lines view_config s;
  breaks = breaks.breaks_replace_lines view_config locus followed s
      (rows_of_shown_lines view_config s);
  few = bounds.source_rows_few view_config locus followed s;
  bars = λ ordered. ranges.bars_are_labels context.layout s ordered;
  break_bars = λ ordered. ranges.breaks_have_bars view_config context.layout s ordered;
  lanes = λ ordered. runs.lanes_join_corners view_config context.layout locus followed s ordered;
  lanes_stay =
      all-lanes-stay width context (snippet view_config locus s ++ empty_row_after followed s)
      (can-snippet width view_config followed locus s can);
}

-- ---- the rows of all files, by file

abbrev rows_by_file : Config → Bool → List Locus → List LabeledFileModel → List (List Row)
rows_by_file config has_notes (p ∷ ps) (s ∷ ss) =
    (snippet config p s ++ empty_row_after (has_any ss || has_notes) s)
    ∷ rows_by_file config has_notes ps ss
rows_by_file config has_notes _ _ = []

rows-joined : (config : Config) (has_notes : Bool) (ps : List Locus) (ss : List LabeledFileModel)
    → snippets config has_notes ps ss
    ≡ flat_map (λ of_file. of_file) (rows_by_file config has_notes ps ss)
rows-joined config has_notes [] ss = refl
rows-joined config has_notes (p ∷ ps) [] = refl
rows-joined config has_notes (p ∷ ps) (s ∷ ss) =
    ap (λ rows. snippet config p s ++ empty_row_after (has_any ss || has_notes) s ++ rows)
    (rows-joined config has_notes ps ss)

each_file : (config : Config) (width : Option ℕ) (context : RowContext) (has_notes : Bool)
    (ss : List LabeledFileModel) (ps : List Locus)
    → AllZip IsLocus (map snippet_locus_byte ss) ps → AllByRecursion (FileCanFit width) ss
    → AllZip (SnippetMeansLabels config width context) ss (rows_by_file config has_notes ps ss)
each_file config width context has_notes [] [] are can = tt
each_file config width context has_notes [] (p ∷ ps) are can = absurd are
each_file config width context has_notes (s ∷ ss) [] are can = absurd are
each_file config width context has_notes (s ∷ ss) (p ∷ ps) are can = (
  snippet_means_labels config width context p (has_any ss || has_notes) s can.0,
  each_file config width context has_notes ss ps are.1 can.1,
)

-- ---- the output

-- one in a style that is not rich
abbrev pub other_output : {Id : Type 0} {style : DisplayStyle}
    {renderer_config view_config : Config} {files : FileDatabase Id} {d : Diagnostic Id}
    (loci : List Locus) → (style ≡ Rich → ⊥) → AreLoci files d style loci
    → IsOutput style renderer_config view_config files d
    (output style renderer_config view_config files d loci)
other_output loci other are = record {
  loci = loci;
  are_loci = are;
  stream_is = refl;
  means = λ rich. absurd (other rich);
}

module _ {Id : Type 0} (renderer_config view_config : Config) (files : FileDatabase Id)
    (d : Diagnostic Id) (equal : IsEquivalence files.same)
    (has_line : (id : Id) → 0 < line_count (files.file id)) (can : CanFit renderer_config files)
    (loci : List Locus) where
  -- the rich output with these loci means the labels of the diagnostic
  pub output_means_labels : AreLoci files d Rich loci
      → MeansLabels renderer_config view_config files d loci
      (output Rich renderer_config view_config files d loci)
  output_means_labels are =
      let has_notes = has_any (notes_of d) in
      let context = rich_context renderer_config view_config files d in
      record {
        rows = rows_by_file view_config has_notes loci (files_of files d);
        stream_is = ap
            (λ rows. fitted_stream renderer_config.max_width context
            ((HeaderRow None (header_text_of d) ∷ rows)
            ++ note_rows (notes_of d) ++ (FinalRow ∷ [])))
            (rows-joined view_config has_notes loci (files_of files d));
        each_file =
            each_file view_config renderer_config.max_width context has_notes (files_of files d)
            loci are (can-files renderer_config files (labels_of d) can);
        carets = carets_are_cells;
        pointers = pointers.pointers_are_cells;
        lanes = lanes_are_shown;
        messages = messages.messages_appear_once renderer_config view_config files d equal has_line
            can loci are;
        padding_fits = padding.padding_fits view_config (files_of files d);
      }

  -- and so does an equal stream
  abbrev pub rich_output : {stream : Stream} → AreLoci files d Rich loci
      → stream ≡ output Rich renderer_config view_config files d loci
      → IsOutput Rich renderer_config view_config files d stream
  rich_output are is = record {
    loci = loci;
    are_loci = are;
    stream_is = is;
    means = λ rich. subst (MeansLabels renderer_config view_config files d loci) (sym is)
        (output_means_labels are);
  }
