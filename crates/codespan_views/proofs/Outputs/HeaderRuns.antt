-- Headers of labels, one after another, each after the lookups of its locus, for the clauses
-- `renders` of `render_headers` and `ShortDiagnostic::render`.
use Rattle.codespan_core.proofs.Std.{◌≡◌, ◌≢◌, ◌≤◌, ℕ, ◌+◌, Bool, true}
use Rattle.codespan_core.proofs.Std.{false, List, [], ◌∷◌, ◌++◌, length, map, flat_map}
use Rattle.codespan_core.proofs.Std.{None, Some, Result, Ok, Err, inl, inr, refl, sym, ap}
use Rattle.codespan_core.proofs.Std.{◌∙◌, append-nil, append_assoc, arith, IfErr, AllZip}
use Rattle.codespan_core.proofs.Std.{flat_map-append, length-append, length-map, map-append}
use Rattle.codespan_core.proofs.Std.{take_all, take-append_seam, if◌then◌else◌, subst, take}
use Rattle.codespan_core.proofs.Std.{drop, take-append-drop, filter-append, common_steps}
use Rattle.codespan_core.specs.Errors.{IsIo}
use Rattle.codespan_core.specs.FileModel.{FileDatabase, Lookup}
use Rattle.codespan_core.specs.Labels.{is_primary}
use Rattle.codespan_core.specs.Streams.{Stream}
use Rattle.codespan_core.specs.WriterLaw.{PrefixWritten, Sink, Writes, failed_frame, is_known}
use Rattle.codespan_output.specs.Types.{Diagnostic, Label, Error, FormatError, OutOfMemory, Config}
use Rattle.codespan_output.specs.Types.{DisplayStyle, Medium, Rich, Short}
use Rattle.codespan_output.specs.Lookups.{AllSucceed, first_error, header_lookups_of, lookups_in}
use Rattle.codespan_output.specs.OutputStreams.{AreLoci, IsLocus, NamesAreUtf8, context_of}
use Rattle.codespan_output.specs.OutputStreams.{label_of, notes_of, output, header_text_of}
use Rattle.codespan_output.specs.OutputStreams.{labels_of}
use Rattle.codespan_output.specs.Picture.{headers_at, stated_locus}
use Rattle.codespan_output.specs.Rows.{Locus}
use Rattle.codespan_output.specs.RowStreams.{stream_of_rows}
use Rattle.codespan_output.specs.Snippets.{LabelInFile, note_rows, header_rows, primary_of}
use Rattle.codespan_views.specs.{style_with_notes, WritesStyled}
use Rattle.codespan_views.specs.Private.{IsUtf8Locus, header_row_with_newline}
use Rattle.codespan_core.proofs.Chains.{WroteStream, WrotePrefix, known-after, written-then}
use Rattle.codespan_core.proofs.Chains.{writes-last}
use Rattle.codespan_core.proofs.Writes.{PrefixWritten-first, PrefixWritten-last}
use Rattle.codespan_output.proofs.Outputs.Loci.{locus_there, zip_append, zip_each, zip_length}
use Rattle.codespan_output.proofs.Outputs.Loci.{zip_texts, zip_weaker}
use Rattle.codespan_output.proofs.Outputs.RichOutputs.{other_output}
use Rattle.codespan_views.proofs.Errors.First.{all_succeed, first_error-append, first_error-some}
use Rattle.codespan_views.proofs.Annotations.IndexedElements.{IsElementAt, take-at}
use Rattle.codespan_views.proofs.Outputs.Renderings.{PrefixWritten-none}
use Rattle.codespan_output.specs.Private.LineRows.{has_any}
use Rattle.codespan_output.specs.Private.LocusBytes.{label_locus_byte}

-- ---- the primary labels up to an index

module _ {Id : Type 0} (d : Diagnostic Id) where
  -- the labels that have headers
  abbrev primary_labels : List (LabelInFile Id)
  primary_labels = primary_of (labels_of d)

  -- those before an index
  abbrev pub primary_before : ℕ → List (LabelInFile Id)
  primary_before i = primary_of (map label_of (take i d.labels.items))

  -- those from an index on
  abbrev primary_from : ℕ → List (LabelInFile Id)
  primary_from i = primary_of (map label_of (drop i d.labels.items))

  -- both are all of them
  primary_cut : (i : ℕ) → primary_before i ++ primary_from i ≡ primary_labels
  primary_cut i = rw (← filter-append, ← map-append, take-append-drop)

  module _ {i : ℕ} {label : Label Id} (at : IsElementAt d.labels.items i label) where
    -- those up to the label at an index
    primary_next : primary_before (i + 1) ≡ primary_before i ++ primary_of (label_of label ∷ [])
    primary_next = rw (take-at at, map-append, filter-append)

    -- where it is primary, they and the later ones are all of them
    primary_whole : is_primary (label_of label).label ≡ true
        → primary_before i ++ label_of label ∷ primary_from (i + 1) ≡ primary_labels
    primary_whole e =
        sym (rw (primary_next, e, append_assoc) at (sym (primary_cut (i + 1))))

-- there is an element in a list with one in the middle
has_any-middle : {X : Type 0} (xs : List X) (x : X) (ys : List X)
    → has_any (xs ++ x ∷ ys) ≡ true
has_any-middle [] x ys = refl
has_any-middle (y ∷ xs) x ys = refl

-- ---- the streams

module _ {Id : Type 0} (config : Config) (d : Diagnostic Id) where
  -- a short output with these loci
  abbrev short : List Locus → Stream
  short ps = stream_of_rows (context_of config d.severity 0) (header_rows (header_text_of d) ps)

  -- it has a header for each, or one without a locus where there is none
  short-is : (ps : List Locus)
      → short ps ≡ headers_at config d ps
      ++ (if has_any ps then [] else header_row_with_newline d None)
  short-is [] = append-nil _
  short-is (p ∷ ps) = sym (append-nil _)

-- ---- headers that have been written

-- the headers of these labels have been written, with the loci of the labels, no lookup for them
-- failed, and whether there is one is known
pub record HeadersWritten {Id : Type 0} (config : Config) (files : FileDatabase Id)
    (d : Diagnostic Id) (xs : List (LabelInFile Id)) (has_header : Bool) (old new : Sink)
    : Type 0 where
  pub loci : List Locus
  pub are : AllZip IsUtf8Locus (map (label_locus_byte files.file) xs) loci
  pub wrote : WroteStream old (headers_at config d loci) new
  pub succeeded : first_error files.failure (flat_map header_lookups_of xs) ≡ None
  pub some : has_header ≡ has_any loci

-- ---- the label at an index, where the headers of those before it have been written

module _ {Id : Type 0} {config : Config} {files : FileDatabase Id} {d : Diagnostic Id} {i : ℕ}
    {label : Label Id} {has_header : Bool} {old mid : Sink}
    (at : IsElementAt d.labels.items i label)
    (before : HeadersWritten config files d (primary_before d i) has_header old mid) where
  -- a secondary label has no header
  pub after_secondary : is_primary (label_of label).label ≡ false
      → HeadersWritten config files d (primary_before d (i + 1)) has_header old mid
  after_secondary secondary = rw (primary_next d at, secondary, append-nil) before

  module _ (primary : is_primary (label_of label).label ≡ true) where
    -- the label
    abbrev here : LabelInFile Id
    here = label_of label

    -- its header has been written too
    pub after_primary : {locus : Locus} {new : Sink}
        → IsUtf8Locus (label_locus_byte files.file here) locus
        → first_error files.failure (header_lookups_of here) ≡ None
        → WroteStream mid (header_row_with_newline d (Some locus)) new
        → HeadersWritten config files d (primary_before d (i + 1)) true old new
    after_primary {locus} {new} there succeeded wrote =
        rw (primary_next d at, primary) (record {
          loci = before.loci ++ locus ∷ [];
          are = rw map-append
              (zip_append IsUtf8Locus _ (label_locus_byte files.file here ∷ []) before.loci
              (locus ∷ []) before.are (there, tt));
          wrote = rw (map-append, flat_map-append, append-nil)
              (written-then old _ _ before.wrote wrote);
          succeeded = rw (flat_map-append, first_error-append, before.succeeded) succeeded;
          some = sym (has_any-middle before.loci locus []);
        })

    -- the loci of the labels before it, its own, and those that are stated for later ones
    abbrev loci_with : Locus → List Locus
    loci_with locus =
        before.loci ++ locus ∷ map stated_locus
        (map (label_locus_byte files.file) (primary_from d (i + 1)))

    loci_with-are : (locus : Locus) → IsLocus (label_locus_byte files.file here) locus
        → AreLoci files d Short (loci_with locus)
    loci_with-are locus is =
        rw (sym (primary_whole d at primary), map-append)
        (zip_append IsLocus _ _ before.loci _
        (zip_weaker IsUtf8Locus IsLocus (λ x p h. h.is_locus) _ before.loci before.are)
        (is, zip_each IsLocus stated_locus locus_there _))

    -- a prefix of its header has been written
    cut : (locus : Locus) {new : Sink}
        → (is_known mid ≡ true
        → PrefixWritten mid (header_row_with_newline d (Some locus)) new)
        → is_known old ≡ true → PrefixWritten old (short config d (loci_with locus)) new
    cut locus {new} wrote known =
        let now = before.wrote.1 known in
        rw (short-is config d _, has_any-middle, append-nil, map-append, flat_map-append)
        (PrefixWritten-last old _ _ new
        (PrefixWritten-first _ _ new _
        (subst (λ (s : Sink). PrefixWritten s (header_row_with_newline d (Some locus)) new) now
        (wrote (known-after old mid _ known now)))))

    -- the writer failed within its header
    pub header_cut : {locus : Locus} {new : Sink} {e : Error}
        → IsUtf8Locus (label_locus_byte files.file here) locus → IsIo e
        → WrotePrefix mid (header_row_with_newline d (Some locus)) new
        → WritesStyled Short config config files d old (Err e) new
    header_cut {locus} there io wrote = record {
      stream = _;
      is_output = other_output _ (λ rich. cc) (loci_with-are locus there.is_locus);
      received = cut locus wrote.1;
      on_end = record {
        error_is = inl (io, wrote.0 ∙ ap failed_frame before.wrote.0);
        early = λ rich. cc;
      };
    }

    -- a lookup for it failed, or an allocation, or the `Display` of its file's name
    pub lookup_failed : {e : Error}
        → (e ≢ OutOfMemory → e ≢ FormatError
        → first_error files.failure (header_lookups_of here) ≡ Some e)
        → WritesStyled Short config config files d old (Err e) mid
    lookup_failed {e} known =
        let at_label = label_locus_byte files.file here in
        let count = rw length-map at
        (zip_length IsUtf8Locus (map (label_locus_byte files.file) (primary_before d i))
        before.loci before.are) in
        record {
          stream = _;
          is_output = other_output _ (λ rich. cc) (loci_with-are _ (locus_there at_label));
          received = cut _ (λ _. PrefixWritten-none mid _ mid refl);
          on_end = record {
            error_is = inr (
              before.wrote.0,
              rw (sym (primary_whole d at primary), flat_map-append) (
                omega (arith, length-append {A = Id × Lookup}),
                λ p q. rw (first_error-append, before.succeeded)
                    (first_error-some files.failure (header_lookups_of here) _ e (known p q)),
              ),
              record {
                before = primary_before d i;
                here = here;
                after = primary_from d (i + 1);
                whole = primary_whole d at primary;
                succeed = all_succeed files.failure _ before.succeeded;
                fails = (omega arith, known);
                wrote = λ is_known. rw (count, take-append_seam) (before.wrote.1 is_known);
              },
            );
            early = λ rich. cc;
          };
        }

-- ---- all of them

-- a whole output was written or cut short by its writer, after lookups that succeeded, in a style
-- that is not rich
written_whole : {Id : Type 0} {style : DisplayStyle} {config : Config} {files : FileDatabase Id}
    {d : Diagnostic Id} {old new : Sink} (loci : List Locus) (r : Result (Unit {0}) Error)
    → (style ≡ Rich → ⊥) → AreLoci files d style loci
    → AllSucceed files.failure (lookups_in style config files d) → NamesAreUtf8 loci
    → Writes old (output style config config files d loci) r new → IfErr r IsIo
    → WritesStyled style config config files d old r new
written_whole loci (Ok x) other are succeed texts writes io = record {
  stream = _;
  is_output = other_output loci other are;
  received = writes.1;
  on_end = (writes.0, record { lookups_succeed = succeed; names_are_utf8 = texts });
}
written_whole loci (Err e) other are succeed texts writes io = grind (arith, common_steps)

-- those before an index past the end have been written, and, where there are none, then a header
-- without a locus
pub all_written : {Id : Type 0} {config : Config} {files : FileDatabase Id} {d : Diagnostic Id}
    {i : ℕ} {has_header : Bool} {old mid new : Sink} (r : Result (Unit {0}) Error)
    → length d.labels.items ≤ i
    → HeadersWritten config files d (primary_before d i) has_header old mid
    → Writes mid (if has_header then [] else header_row_with_newline d None) r new
    → IfErr r IsIo
    → WritesStyled Short config config files d old r new
all_written {config = config} {files} {d} {i} {old = old} {new = new} r past written writes io =
    let all = rw (take_all i d.labels.items past) at written in
    written_whole all.loci r (λ rich. cc)
    (zip_weaker IsUtf8Locus IsLocus (λ x p h. h.is_locus) _ all.loci all.are)
    (all_succeed files.failure _ all.succeeded)
    (zip_texts IsUtf8Locus (λ x p h. h.is_utf8) _ all.loci all.are)
    (rw (short-is config d all.loci, sym all.some)
    (writes-last old (headers_at config d all.loci) _ new r all.wrote writes))
    io

-- ---- the notes after them

-- the headers were cut short, with the notes after them or not
pub cut_before_notes : {Id : Type 0} {config : Config} {files : FileDatabase Id}
    {d : Diagnostic Id} {old new : Sink} {e : Error} (show_notes : Bool)
    → WritesStyled Short config config files d old (Err e) new
    → WritesStyled (style_with_notes show_notes) config config files d old (Err e) new
cut_before_notes false rendered = rendered
cut_before_notes {config = config} {d = d} {old = old} {new = new} true rendered = record {
  stream = _;
  is_output = other_output {style = Medium} _ (λ rich. cc) rendered.is_output.are_loci;
  received = λ known. rw flat_map-append
      (PrefixWritten-first old _ new _
      (subst (λ (s : Stream). PrefixWritten old s new) rendered.is_output.stream_is
      (rendered.received known)));
  on_end = record { error_is = rendered.on_end.error_is; early = λ rich. cc };
}

-- the headers have been written, and then the notes were, by an equal configuration
pub medium_written : {Id : Type 0} {config now : Config} {files : FileDatabase Id}
    {d : Diagnostic Id} {old mid new : Sink} (r : Result (Unit {0}) Error)
    → WritesStyled Short config config files d old (Ok tt) mid → now ≡ config
    → Writes mid (stream_of_rows (context_of now d.severity 0) (note_rows (notes_of d))) r new
    → IfErr r IsIo
    → WritesStyled Medium config config files d old r new
medium_written {config = config} {d = d} {old = old} {mid = mid} {new = new} r rendered equal writes
    io =
    let ends = rendered.on_end in
    let written = subst (λ (s : Stream). WroteStream old s mid) rendered.is_output.stream_is
    (ends.0, rendered.received) in
    written_whole rendered.is_output.loci r (λ rich. cc) rendered.is_output.are_loci
    ends.1.lookups_succeed ends.1.names_are_utf8
    (rw flat_map-append
    (writes-last old (short config d rendered.is_output.loci) _ new r written
    (rw (sym equal) writes)))
    io
