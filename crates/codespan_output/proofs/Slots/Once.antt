-- For `messages_appear_once`: each label's message has one slot, and with the slots filled the
-- stream is the output.
use Rattle.codespan_core.proofs.Std.{◌≡◌, ℕ, zero, suc, ◌+◌, ◌<◌, ◌≤◌, Bool}
use Rattle.codespan_core.proofs.Std.{true, false, not, cond, ◌==◌, List, [], ◌∷◌, length}
use Rattle.codespan_core.proofs.Std.{map, filter, Option, Some, None, option_map, slice_get}
use Rattle.codespan_core.proofs.Std.{if◌then◌else◌, refl, sym, ap, ap₂, ◌∙◌}
use Rattle.codespan_core.proofs.Std.{append-nil, arith, sum_by, string_bytes, nat_tests}
use Rattle.codespan_core.proofs.Std.{slice_get-map, sum_by-cons, IsEquivalence, option_map_or}
use Rattle.codespan_core.proofs.Std.{AllZip, length-map, AllByRecursion}
use Rattle.std.proofs.lemmas.List.Sums.{sum_by-le-sum_by}
use Rattle.codespan_core.specs.FileModel.{FileDatabase, FileModel, line_count}
use Rattle.codespan_core.specs.Streams.{Stream, Byte, Slot, byte_stream, text_of, with_messages}
use Rattle.codespan_core.specs.Labels.{LabelModel, has_message, is_empty, last_line, first_seen}
use Rattle.codespan_output.specs.Types.{Config, Diagnostic, Label, Severity, Rich}
use Rattle.codespan_output.specs.{drawn_lines, HeaderText, Locus, RowContext, stream_of_rows}
use Rattle.codespan_output.specs.{LabeledFileModel, LabelInFile, file_ids, labeled_file_model}
use Rattle.codespan_output.specs.{labeled_file_models, rich_rows, AreLoci, IsLocus, header_text_of}
use Rattle.codespan_output.specs.{label_of, labels_of, context_of, notes_of, output, rendered}
use Rattle.codespan_output.specs.{padding_of, slotted, all_slotted, message_text, slotted_output}
use Rattle.codespan_output.specs.{MessagesAppearOnce, CanFit, Row, fitted_row, fitted_stream}
use Rattle.codespan_output.proofs.Fitting.CanFit.{FileCanFit, can-files, can-rich}
use Rattle.codespan_output.proofs.Outputs.Loci.{zip_length}
use Rattle.codespan_output.proofs.Utf8.Texts.{text_of-byte_stream}
use Rattle.codespan_output.proofs.Slots.Rows.{slots-rows}
use Rattle.codespan_output.proofs.Slots.Parts.{slots}
use Rattle.codespan_output.proofs.Slots.Lines.{sum-zero, sum-map, sum-filter, label_slots, on_line}
use Rattle.codespan_output.proofs.Slots.Files.{file_slots, lines_sum, rich_sum}
use Rattle.codespan_output.proofs.Slots.Sums.{slotted_slots, slotted_from, slotted_sum, one_here}
use Rattle.codespan_output.proofs.Slots.Sums.{each_once}
use Rattle.codespan_output.proofs.Slots.RefilledRows.{fill, fill-is, fill_same, keeps, fill-rows}
use Rattle.codespan_output.proofs.Slots.RefilledOutput.{rich-refilled, padding-refilled}
use Rattle.codespan_output.proofs.Slots.RefilledOutput.{files-refilled}
use Rattle.codespan_output.proofs.Slots.RefilledLine.{refilled_file, refilled_in}
use Rattle.codespan_output.proofs.Slots.FittedSlots.{slots-fitted}
use Rattle.codespan_output.proofs.Slots.RefilledFitting.{rows-refilled}
use Rattle.codespan_output.specs.Private.{snippet_locus_byte}

-- ---- a slot that no label has is in no row

at_most : (b : Bool) (n : ℕ) → cond b n 0 ≤ n
at_most true n = omega arith
at_most false n = omega arith

snippet_zero : (k : ℕ) (config : Config) (s : LabeledFileModel)
    → sum_by (label_slots k) s.labels ≡ 0 → file_slots k config s ≡ 0
snippet_zero k config s none =
    let ls = drawn_lines config s.file s.labels in
    omega (
      arith,
      lines_sum k s None ls,
      sum-zero (λ l. sum_by (on_line k s.file l) s.labels) (λ l. omega (
        arith,
        none,
        sum_by-le-sum_by (on_line k s.file l) (label_slots k) s.labels
            (λ x. at_most (last_line s.file x == l) (label_slots k x)),
      ))
          ls,
    )

files_zero : {Id : Type 0} (k : ℕ) (config : Config) (same : Id → Id → Bool)
    (file : Id → FileModel)
    (xs : List (LabelInFile Id))
    → sum_by (λ (x : LabelInFile Id). label_slots k x.label) xs ≡ 0
    → sum_by (file_slots k config) (labeled_file_models same file xs) ≡ 0
files_zero {Id = Id} k config same file xs none =
    let ids = first_seen same (map (λ (x : LabelInFile Id). x.file_id) xs) in
    sum-map (file_slots k config) (labeled_file_model same file xs) ids
    ∙ sum-zero (λ id. file_slots k config (labeled_file_model same file xs id))
    (λ id. snippet_zero k config (labeled_file_model same file xs id) (one id)) ids
  where
    one : (id : Id) → sum_by (label_slots k) (labeled_file_model same file xs id).labels ≡ 0
    one id =
        omega (
          arith,
          none,
          sum-map (label_slots k) (λ (x : LabelInFile Id). x.label)
              (filter (λ (x : LabelInFile Id). same id x.file_id) xs),
          sum-filter (λ (x : LabelInFile Id). label_slots k x.label)
              (λ (x : LabelInFile Id). same id x.file_id) xs,
          sum_by-le-sum_by
              (λ (x : LabelInFile Id). cond (same id x.file_id) (label_slots k x.label)
              0)
              (λ (x : LabelInFile Id). label_slots k x.label) xs
              (λ x. at_most (same id x.file_id) (label_slots k x.label)),
        )

none_here : {Id : Type 0} (k n j : ℕ) (xs : List (LabelInFile Id)) → n + j ≡ k
    → slice_get xs j ≡ None
    → slotted_sum k (slotted_from k n xs) ≡ 0
none_here k n j [] at h = refl
none_here k n zero (y ∷ ys) at h = cc
none_here {Id = Id} k n (suc j) (y ∷ ys) at h =
    let other : (n == k) ≡ false = grind (arith, nat_tests) in
    let e = ap {B = ℕ} (λ b. cond b (if has_message y.label then 1 else 0) 0) other in
    omega (
      arith,
      e,
      slotted_slots k n y,
      none_here k (n + 1) j ys (omega arith) h,
      sum_by-cons (λ (y : LabelInFile Id). label_slots k y.label) (slotted n y)
          (slotted_from k (n + 1) ys),
    )

-- ---- messages that are texts

abbrev pub IsPlain : {Id : Type 0} → List (LabelInFile Id) → Type 0
IsPlain {Id} xs =
    (j : ℕ) (x : LabelInFile Id) → slice_get xs j ≡ Some x
    → x.label.message ≡ byte_stream (text_of x.label.message)

plain : {Id : Type 0} (d : Diagnostic Id) → IsPlain (labels_of d)
plain {Id = Id} d j x h =
    by_label (slice_get d.labels.items j) (sym (slice_get-map label_of d.labels.items j) ∙ h)
  where
    by_label : (o : Option (Label Id)) → option_map label_of o ≡ Some x
        → x.label.message ≡ byte_stream (text_of x.label.message)
    by_label None e = cc
    by_label (Some y) e =
        let is : label_of y ≡ x = cc in
        sym (ap (λ (z : LabelInFile Id). z.label.message) is)
        ∙ ap byte_stream
        (sym (text_of-byte_stream (string_bytes y.message))
        ∙ ap (λ (z : LabelInFile Id). text_of z.label.message) is)

-- a text, or another instead of an empty one
abbrev pub nonempty : List ℕ → List ℕ
nonempty [] = 32 ∷ []
nonempty (b ∷ bs) = b ∷ bs

abbrev pub full_text : {Id : Type 0} → List (LabelInFile Id) → ℕ → List ℕ
full_text xs k = nonempty (message_text xs k)

full : {Id : Type 0} (xs : List (LabelInFile Id)) (k : ℕ)
    → is_empty (map Byte (full_text xs k)) ≡ false
full xs k = by_text (message_text xs k)
  where
    by_text : (t : List ℕ) → is_empty (map Byte (nonempty t)) ≡ false
    by_text [] = refl
    by_text (b ∷ bs) = refl

no_text : (x : LabelModel) → x.message ≡ byte_stream (text_of x.message)
    → text_of x.message ≡ []
    → ◌≡◌ {A = ℕ} (if has_message x then 1 else 0) 0
unfolding byte_stream
no_text x is none =
    let e : x.message ≡ [] = is ∙ ap byte_stream none in
    ap {B = ℕ} (λ s. if not (is_empty s) then 1 else 0) e

unnamed : {Id : Type 0} (xs : List (LabelInFile Id)) → IsPlain xs → (k : ℕ)
    → message_text xs k ≡ []
    → slotted_sum k (slotted_from k 0 xs) ≡ 0
unnamed {Id = Id} xs plain k none = by_label (slice_get xs k) refl none
  where
    by_label : (o : Option (LabelInFile Id)) → slice_get xs k ≡ o
        → option_map_or (λ (y : LabelInFile Id). text_of y.label.message) o [] ≡ []
        → slotted_sum k (slotted_from k 0 xs) ≡ 0
    by_label None at e = none_here k 0 k xs (omega arith) at
    by_label (Some x) at e = one_here k 0 k xs x (omega arith) at
        ∙ no_text x.label (plain k x at) e

refill_one : (m : ℕ → List ℕ) (k : ℕ) (t : List ℕ) (message : Stream)
    → message ≡ byte_stream t
    → m k ≡ nonempty t
    → fill m (if is_empty message then [] else Slot k ∷ []) ≡ message
unfolding fill byte_stream
refill_one m k [] message is at =
    ap (λ (s : Stream). with_messages m (if is_empty s then [] else Slot k ∷ [])) is
    ∙ sym is
refill_one m k (b ∷ bs) message is at =
    ap (λ (s : Stream). with_messages m (if is_empty s then [] else Slot k ∷ [])) is
    ∙ append-nil (map Byte (m k)) ∙ ap (map Byte) at ∙ sym is

slots-refilled : {Id : Type 0} (φ : Stream → Stream) (k n : ℕ) (xs : List (LabelInFile Id))
    → ((j i : ℕ) (x : LabelInFile Id) → n + j ≡ i → slice_get xs j ≡ Some x
    → φ (if is_empty x.label.message then [] else Slot i ∷ []) ≡ x.label.message)
    → map (refilled_in φ) (slotted_from k n xs) ≡ xs
slots-refilled φ k n [] h = refl
slots-refilled {Id = Id} φ k n (x ∷ xs) h =
    ap₂ {C = List (LabelInFile Id)}
    (λ (s : Stream) ys. record { file_id = x.file_id; label = record x.label { message = s } }
    ∷ ys)
    (h 0 n x (omega arith) refl)
    (slots-refilled φ k (n + 1) xs (λ j i y e at. h (suc j) i y (omega arith) at))

-- the labels' files do not depend on the messages
ids_kept : {Id : Type 0} (k n : ℕ) (xs : List (LabelInFile Id))
    → map (λ (x : LabelInFile Id). x.file_id) (slotted_from k n xs)
    ≡ map (λ (x : LabelInFile Id). x.file_id) xs
ids_kept k n [] = refl
ids_kept k n (x ∷ xs) = ap (λ ids. x.file_id ∷ ids) (ids_kept k (n + 1) xs)

-- there are as many loci as files of labels with slots
as_many : {Id : Type 0} (same : Id → Id → Bool) (file : Id → FileModel)
    (xs : List (LabelInFile Id))
    (loci : List Locus)
    → AllZip IsLocus (map snippet_locus_byte (labeled_file_models same file xs)) loci
    → length loci ≡ length (labeled_file_models same file (all_slotted xs))
as_many {Id} same file xs loci are =
    sym (zip_length IsLocus (map snippet_locus_byte (labeled_file_models same file xs)) loci are)
    ∙ length-map (labeled_file_models same file xs) snippet_locus_byte
    ∙ length-map (file_ids same xs) (labeled_file_model same file xs)
    ∙ ap (λ ids. length (first_seen same ids)) (sym (ids_kept 0 0 xs))
    ∙ sym
    (length-map (file_ids same (all_slotted xs)) (labeled_file_model same file (all_slotted xs)))

filled_output : {Id : Type 0} (renderer_config view_config : Config) (same : Id → Id → Bool)
    (file : Id → FileModel) (severity : Severity) (header_text : HeaderText) (loci : List Locus)
    (notes : List (List ℕ)) (xs : List (LabelInFile Id))
    → length loci ≡ length (labeled_file_models same file (all_slotted xs)) → IsPlain xs
    → AllByRecursion (FileCanFit renderer_config.max_width)
    (labeled_file_models same file (all_slotted xs))
    → fill (message_text xs)
    (rendered Rich renderer_config view_config severity header_text loci
    (labeled_file_models same file (all_slotted xs)) notes)
    ≡ rendered Rich renderer_config view_config severity header_text loci
    (labeled_file_models same file xs) notes
filled_output {Id = Id} renderer_config view_config same file severity header_text loci notes xs
    many plain can =
    fill_same (message_text xs) (full_text xs)
    (rendered Rich renderer_config view_config severity header_text loci ss notes)
    (λ k some. by_text k (message_text xs k) refl some)
    ∙ fill-rows (full_text xs) (full xs) context (map (fitted_row width context) rows)
    ∙ ap (stream_of_rows context) (rows-refilled φ width context rows)
    ∙ ap (fitted_stream width context)
    (rich-refilled φ kept view_config header_text loci ss notes)
    ∙ ap
    (λ n. fitted_stream width (context_of renderer_config severity n)
    (rich_rows view_config header_text loci (map (refilled_file φ) ss) notes))
    (sym (padding-refilled φ kept view_config ss))
    ∙ ap (λ ts. rendered Rich renderer_config view_config severity header_text loci ts notes)
    (sym (files-refilled φ kept same file (all_slotted xs)) ∙ ap (labeled_file_models same file)
    whole)
  where
    ss : List LabeledFileModel
    ss = labeled_file_models same file (all_slotted xs)

    context : RowContext
    context = context_of renderer_config severity (padding_of view_config ss)

    width : Option ℕ
    width = renderer_config.max_width

    rows : List Row
    rows = rich_rows view_config header_text loci ss notes

    φ : Stream → Stream
    φ = fill (full_text xs)

    kept : (s : Stream) → is_empty (φ s) ≡ is_empty s
    kept = keeps (full_text xs) (full xs)

    whole : map (refilled_in φ) (all_slotted xs) ≡ xs
    whole =
        slots-refilled φ 0 0 xs
        (λ j i x e at. refill_one (full_text xs) i (text_of x.label.message) x.label.message
        (plain j x at)
        (ap (λ n. full_text xs n) (sym e ∙ zero_plus j)
        ∙ ap
        (λ o. nonempty (option_map_or (λ (y : LabelInFile Id). text_of y.label.message) o []))
        at))
      where
        zero_plus : (j : ℕ) → 0 + j ≡ j
        zero_plus j = omega arith

    by_text : (k : ℕ) (t : List ℕ) → message_text xs k ≡ t
        → 0 < slots k
        (rendered Rich renderer_config view_config severity header_text loci ss notes)
        → message_text xs k ≡ full_text xs k
    by_text k [] e some =
        absurd (omega (
          arith,
          some,
          slots-rows k context (map (fitted_row width context) rows),
          slots-fitted k context width rows
              (can-rich width view_config header_text loci ss notes can),
          rich_sum k view_config header_text loci ss notes many,
          files_zero k view_config same file (all_slotted xs) (unnamed xs plain k e),
        ))
    by_text k (b ∷ bs) e some = e ∙ ap nonempty (sym e)

pub messages_appear_once : {Id : Type 0} (renderer_config view_config : Config)
    (files : FileDatabase Id) (d : Diagnostic Id)
    → IsEquivalence files.same → ((id : Id) → 0 < line_count (files.file id))
    → CanFit renderer_config files
    → (loci : List Locus) → AreLoci files d Rich loci
    → MessagesAppearOnce renderer_config view_config files d loci
    (output Rich renderer_config view_config files d loci)
messages_appear_once {Id = Id} renderer_config view_config files d equal has_line can loci are =
    let many = as_many files.same files.file (labels_of d) loci are in
    let cans = can-files renderer_config files (all_slotted (labels_of d)) can in
    record {
      once = λ k x at.
          each_once
          (context_of renderer_config d.severity
          (padding_of view_config
          (labeled_file_models files.same files.file (all_slotted (labels_of d)))))
          view_config files.same files.file (header_text_of d) (notes_of d) (labels_of d) loci many
          equal has_line k x at renderer_config.max_width cans;
      whole =
          fill-is (message_text (labels_of d))
          (slotted_output renderer_config view_config files d loci)
          ∙ filled_output renderer_config view_config files.same files.file d.severity
          (header_text_of d) loci (notes_of d) (labels_of d) many (plain d) cans;
    }
