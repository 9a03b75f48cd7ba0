-- For the clauses `renders` of `codespan_views`: the stream of rows whose lines fit a width, and
-- the labels of a line that fits.
use Rattle.codespan_core.proofs.Std.{◌≡◌, ℕ, ◌+◌, ◌≤◌, true, ◌&&◌, nat_le, nat_lt, List, [], ◌∷◌}
use Rattle.codespan_core.proofs.Std.{◌++◌}
use Rattle.codespan_core.proofs.Std.{map, Option, Some, None, refl, ap, ap₂, ◌∙◌, IfSome}
use Rattle.codespan_core.proofs.Std.{map-append, flat_map-append, arith, nat_tests, common_steps}
use Rattle.std.specs.Str.Lines.{lines}
use Rattle.codespan_core.specs.FileModel.{FileDatabase}
use Rattle.codespan_core.specs.Labels.{LabelModel, LaneMark}
use Rattle.codespan_core.specs.LawfulFiles.{IsLawful}
use Rattle.codespan_core.specs.Streams.{newline}
use Rattle.codespan_output.specs.Types.{Config}
use Rattle.codespan_output.specs.{Row, RowContext, FirstNoteRow, LaterNoteRow, FinalRow, Piece}
use Rattle.codespan_output.specs.{stream_of, stream_of_rows, fitted_stream, fitted_row, note_rows}
use Rattle.codespan_output.specs.{note_line_rows, moved, moved_label, moved_mark, CanFit}
use Rattle.codespan_output.specs.{starts_from, starts_in_order, ascend_from}
use Rattle.codespan_output.proofs.Fitting.Moved.{moved-rises}
use Rattle.codespan_output.proofs.Utf8.ListElements.{map-map}

-- where all files are lawful, their lines can be fitted
pub lawful-can : {Id : Type 0} (config : Config) (files : FileDatabase Id)
    → ((id : Id) → IsLawful (files.file id)) → CanFit config files
lawful-can {Id} config files lawful = by_width config.max_width
  where
    by_width : (width : Option ℕ) → IfSome width (λ _. (id : Id) → IsLawful (files.file id))
    by_width None = tt
    by_width (Some n) = lawful

module _ (width : Option ℕ) (context : RowContext) where
  -- ---- streams

  pub fitted-append : (xs ys : List Row)
      → fitted_stream width context (xs ++ ys)
      ≡ fitted_stream width context xs ++ fitted_stream width context ys
  fitted-append xs ys =
      ap (stream_of_rows context) (map-append (fitted_row width context) xs ys)
      ∙ flat_map-append (λ row. stream_of context row ++ newline)
      (map (fitted_row width context) xs) (map (fitted_row width context) ys)

  note-same : (ps : List (List ℕ))
      → map (fitted_row width context) (note_line_rows ps) ≡ note_line_rows ps
  note-same [] = refl
  note-same (p ∷ ps) =
      ap (λ rows. FirstNoteRow p ∷ rows) (map-map (fitted_row width context) LaterNoteRow ps)

  notes-same : (notes : List (List ℕ))
      → map (fitted_row width context) (note_rows notes) ≡ note_rows notes
  notes-same [] = refl
  notes-same (note ∷ notes) =
      map-append (fitted_row width context) (note_line_rows (lines note)) (note_rows notes)
      ∙ ap₂ (λ a b. a ++ b) (note-same (lines note)) (notes-same notes)

  -- the rows after the snippets have no line
  pub closing-same : (notes : List (List ℕ))
      → map (fitted_row width context) (note_rows notes ++ (FinalRow ∷ []))
      ≡ note_rows notes ++ (FinalRow ∷ [])
  closing-same notes =
      map-append (fitted_row width context) (note_rows notes) (FinalRow ∷ [])
      ∙ ap (λ rows. rows ++ (FinalRow ∷ [])) (notes-same notes)

-- ---- the order of labels

module _ (ps : List Piece) where
  starts-from : (least shown_least : ℕ) (xs : List LabelModel) → shown_least ≤ moved ps least
      → starts_from least xs ≡ true → starts_from shown_least (map (moved_label ps) xs) ≡ true
  starts-from least shown_least [] h k = refl
  starts-from least shown_least (x ∷ xs) h k = grind (
    arith,
    nat_tests,
    common_steps,
    moved-rises ps least x.start,
    starts-from x.start (moved ps x.start) xs,
  )

  -- labels in the order of their starts stay so
  pub starts-moved : (xs : List LabelModel) → starts_in_order xs ≡ true
      → starts_in_order (map (moved_label ps) xs) ≡ true
  starts-moved xs = starts-from 0 0 xs (omega arith)

  -- lane marks stay in their lanes
  pub lanes-moved : (count least : ℕ) (ms : List LaneMark)
      → ascend_from count least (map (moved_mark ps) ms) ≡ ascend_from count least ms
  lanes-moved count least [] = refl
  lanes-moved count least (m ∷ ms) =
      ap (λ b. nat_le least m.lane && nat_lt m.lane count && b) (lanes-moved count (m.lane + 1) ms)
