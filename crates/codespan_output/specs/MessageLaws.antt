-- The law of messages: each appears exactly once in a rich output.
use Rattle.std.specs.Prelude.{◌≡◌, ℕ, Bool, false, ◌==◌, List, ◌∷◌, map, count_by}
use Rattle.std.specs.Prelude.{slice_get, Some, if◌then◌else◌, []}
use Rattle.std.specs.List.{enumerate_from}
use Rattle.std.specs.Option.{option_map_or}
use Rattle.codespan_output.specs.Types.{Config, Diagnostic, Rich}
use Rattle.codespan_core.specs.FileModel.{FileDatabase}
use Rattle.codespan_core.specs.Labels.{has_message, is_empty}
use Rattle.codespan_core.specs.Streams.{Stream, Item, Slot, text_of, with_messages}
use Rattle.codespan_output.specs.Rows.{Locus}
use Rattle.codespan_output.specs.Snippets.{LabelInFile, labeled_file_models}
use Rattle.codespan_output.specs.OutputStreams.{header_text_of, labels_of, notes_of, rendered}

-- a label with a slot instead of its message, where it has a message
abbrev pub slotted : {Id : Type 0} → ℕ → LabelInFile Id → LabelInFile Id
slotted k x = record x {
  label = record x.label
      { message = if is_empty x.label.message then [] else Slot k ∷ [] };
}

-- the labels with slots instead of their messages, each slot with its label's index
abbrev pub all_slotted : {Id : Type 0} → List (LabelInFile Id) → List (LabelInFile Id)
all_slotted {Id} xs = map (λ (e : ℕ × LabelInFile Id). slotted e.0 e.1) (enumerate_from 0 xs)

-- the item is the slot of the label with this index
abbrev pub is_slot : ℕ → Item → Bool
is_slot k (Slot j) = j == k
is_slot k _ = false

-- the message of a label, by its index, and nothing where no label has the index
abbrev pub message_text : {Id : Type 0} → List (LabelInFile Id) → ℕ → List ℕ
message_text xs k = option_map_or (λ x. text_of x.label.message) (slice_get xs k) []

module _ {Id : Type 0} (renderer_config view_config : Config) (files : FileDatabase Id)
    (d : Diagnostic Id) (loci : List Locus) where
  -- the rich output with slots instead of the messages
  abbrev pub slotted_output : Stream
  slotted_output =
      rendered Rich renderer_config view_config d.severity (header_text_of d) loci
      (labeled_file_models files.same files.file (all_slotted (labels_of d))) (notes_of d)

  -- this output has one slot for each message, and with its slots filled it is the stream
  pub record MessagesAppearOnce (stream : Stream) : Type 0 where
    pub once : (k : ℕ) (x : LabelInFile Id) → slice_get (labels_of d) k ≡ Some x
        → count_by (is_slot k) slotted_output ≡ (if has_message x.label then 1 else 0)
    pub whole : with_messages (message_text (labels_of d)) slotted_output ≡ stream
