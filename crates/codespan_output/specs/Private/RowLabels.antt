-- The single-line labels of a line, as the functions that write its rows take them: optional ones,
-- and those whose messages hang.
use Rattle.std.specs.Prelude.{◌≡◌, ℕ, List, ◌++◌, map, filter, fold, min, reverse}
use Rattle.std.specs.Prelude.{slice_get, Option, Some, None}
use Rattle.std.specs.Option.{option_map}
use Rattle.std.specs.Borrow.{Bor}
use Rattle.codespan_core.specs.Labels.{LabelModel, has_message}
use Rattle.codespan_core.specs.Streams.{Stream}
use Rattle.codespan_output.specs.Arguments.{SingleLabelTuple, single_label_view, single_label_views}
use Rattle.codespan_output.specs.Rows.{RowContext, Line, HangingRow, hanging_labels}
use Rattle.codespan_output.specs.RowStreams.{stream_of_rows}

-- the least start of the labels, but at most this byte index
abbrev pub least_start : ℕ → List LabelModel → ℕ
least_start end xs = fold (λ m (x : LabelModel). min x.start m) end xs

-- an optional label
abbrev pub optional_label_view : Option (Bor SingleLabelTuple) → Option LabelModel
optional_label_view x = option_map (λ (l : Bor SingleLabelTuple). single_label_view l.now) x

-- the label at an index, with the index
abbrev pub indexed_label_view : List SingleLabelTuple → Option ℕ → Option (ℕ × LabelModel)
indexed_label_view xs None = None
indexed_label_view xs (Some k) = option_map (λ x. (k, single_label_view x)) (slice_get xs k)

-- ---- messages that hang

-- the labels that hang are those of the two lists that have a message
pub record AreHanging (labels before after : List SingleLabelTuple) : Type 0 where
  pub are :
      filter has_message (single_label_views (before ++ after))
      ≡ hanging_labels (single_label_views labels)

-- the two lists are a prefix of the labels and a suffix of them
pub record ArePrefixAndSuffix (labels before after : List SingleLabelTuple) : Type 0 where
  pub rest : List SingleLabelTuple
  pub begins : before ++ rest ≡ labels
  pub skipped : List SingleLabelTuple
  pub ends : skipped ++ after ≡ labels

-- the rows of messages that hang, the last one first
abbrev pub hanging_stream : RowContext → Line → List LabelModel → Stream
hanging_stream context line xs = stream_of_rows context (map (HangingRow line) (reverse xs))
