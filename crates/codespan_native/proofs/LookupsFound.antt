-- No lookup of a known file fails, for the clause `found` of `emit`.
use Rattle.std.proofs.Common.{◌≡◌, ℕ, zero, suc, ◌+◌, ◌<◌, Bool, true, false, List}
use Rattle.std.proofs.Common.{[], ◌∷◌, ◌++◌, map, length, Option, None, Some, IsSome}
use Rattle.std.proofs.Common.{refl, sym, ◌∙◌, ap, subst, arith}
use Rattle.std.specs.Prelude.{◌&&◌, not, nat_le, filter, flat_map, slice_get}
use Rattle.std.specs.Prelude.{if◌then◌else◌}
use Rattle.std.specs.List.{AllByRecursion, range_with_len, slice_index_or}
use Rattle.std.specs.Option.{option_map_or}
use Rattle.std.proofs.lemmas.Bool.{le-leb, lt-leb}
use Rattle.std.proofs.lemmas.List.{length-map}
use Rattle.std.proofs.lemmas.List.Elements.{recursion_from_All}
use Rattle.codespan_base.specs.FileModel.{FileDatabase, FileModel, Lookup, line_count}
use Rattle.codespan_base.specs.FileModel.Lookup.{Name, Source, LineIndex, LineNumber, LocationAt}
use Rattle.codespan_base.specs.FileModel.Lookup.{LineRange}
use Rattle.codespan_base.specs.Labels.{LabelModel, first_seen, is_primary, last_line}
use Rattle.codespan_base.specs.declared.files.Error.TheVariants.{FileMissing}
use Rattle.codespan_base.specs.SimpleModel.{missing_file}
use Rattle.codespan_base.specs.Diagnostics.{DiagnosticView, LabelView}
use Rattle.codespan_output.specs.OutputStreams.{labels_of}
use Rattle.codespan_output.specs.Types.{Config, Diagnostic, Error, DisplayStyle, Rich, Medium}
use Rattle.codespan_output.specs.Types.{Short, Layout, Classic, Unbroken}
use Rattle.codespan_output.specs.Lookups.{AllSucceed, looked_up_lines, lookups_of_file}
use Rattle.codespan_output.specs.Lookups.{early_lookups, ends_context_lines, file_at, filled_lines}
use Rattle.codespan_output.specs.Lookups.{header_lookups_of, is_looked_up, label_lookups}
use Rattle.codespan_output.specs.Lookups.{late_lookups, lookup_past_end, lookups_in}
use Rattle.codespan_output.specs.Lookups.{numbers_for_padding, filled_line_lookups}
use Rattle.codespan_output.specs.Lookups.{label_line_lookups, line_lookups, snippet_lookups}
use Rattle.codespan_output.specs.Snippets.{LabelInFile, file_ids, locus_byte_of, primary_of}
use Rattle.codespan_output.specs.Picture.{label_of_view}
use Rattle.codespan_native.specs.declared.error.Argument.TheVariants.{LabelFile}
use Rattle.codespan_native.specs.declared.raw.RawConfig.{RawConfig}
use Rattle.codespan_native.specs.declared.raw.RawDiagnostic.{RawDiagnostic}
use Rattle.codespan_native.specs.declared.raw.RawFile.{RawFile}
use Rattle.codespan_native.specs.declared.raw.RawLabel.{RawLabel}
use Rattle.codespan_native.specs.Meaning.{NoLookupFails}
use Rattle.codespan_native.specs.Converted.{converted_label, converted_file}
use Rattle.codespan_native.specs.Validity.{AreValid}
use Rattle.codespan_output.proofs.Utf8.ListElements.{all-append, all-filter}
use Rattle.codespan_output.proofs.Outputs.ViewPictures.{labels-of_view}
use Rattle.codespan_native.specs.SourceTexts.{NativeFileView, native_database, native_failure}
use Rattle.codespan_native.specs.SourceTexts.{native_file_model}
use Rattle.codespan_output.specs.Private.LocusBytes.{locus_lookups}

-- ---- facts of each element of a list

each_map : {X Y : Type 0} (f : X → Y) (P : Y → Type 0) (Q : X → Type 0) (xs : List X)
    → ((x : X) → Q x → P (f x)) → AllByRecursion Q xs → AllByRecursion P (map f xs)
each_map f P Q [] step all = tt
each_map f P Q (x ∷ xs) step all = (step x all.0, each_map f P Q xs step all.1)

each_flat_map : {X Y : Type 0} (f : X → List Y) (P : Y → Type 0) (Q : X → Type 0)
    (xs : List X)
    → ((x : X) → Q x → AllByRecursion P (f x)) → AllByRecursion Q xs
    → AllByRecursion P (flat_map f xs)
each_flat_map f P Q [] step all = tt
each_flat_map f P Q (x ∷ xs) step all =
    all-append P (f x) (flat_map f xs) (step x all.0) (each_flat_map f P Q xs step all.1)

each_of_range : (a n : ℕ) → AllByRecursion (λ i. i < a + n) (range_with_len a n)
each_of_range a zero = tt
each_of_range a (suc n) =
    let e : a + 1 + n ≡ a + suc n = omega arith in
    (omega arith, rw e at (each_of_range (a + 1) n))

each_first_seen : {X : Type 0} (same : X → X → Bool) (P : X → Type 0) (xs : List X)
    → AllByRecursion P xs
    → AllByRecursion P (first_seen same xs)
each_first_seen same P [] all = tt
each_first_seen same P (x ∷ xs) all = (
  all.0,
  all-filter P (λ other. not (same x other)) (first_seen same xs)
      (each_first_seen same P xs all.1),
)

at_index : {X : Type 0} (P : X → Type 0) (xs : List X) (k : ℕ) (d : X) → k < length xs
    → AllByRecursion P xs
    → P (slice_index_or xs k d)
at_index P [] k d h all = absurd (omega (arith, h))
at_index P (x ∷ xs) zero d h all = all.0
at_index P (x ∷ xs) (suc k) d h all = at_index P xs k d (omega (arith, h)) all.1

-- ---- one file

-- what is looked up of a known file
record LookupsSucceed (failure : Lookup → Option Error) (f : FileModel) : Type 0 where
  pub line_range : (i : ℕ) → i < line_count f → failure (LineRange i) ≡ None
  pub past_end : ends_context_lines (failure (LineRange (line_count f))) ≡ true
  pub name : failure Name ≡ None
  pub source : failure Source ≡ None
  pub line_index : (byte : ℕ) → failure (LineIndex byte) ≡ None
  pub line_number : (i : ℕ) → failure (LineNumber i) ≡ None
  pub location : (byte : ℕ) → failure (LocationAt byte) ≡ None

lookups_succeed_of : (s : NativeFileView)
    → LookupsSucceed (native_failure s) (native_file_model s)
lookups_succeed_of s = record {
  line_range = λ i h. rw (le-leb (suc i) (length s.text.starts) (omega (arith, h))) refl;
  past_end = rw (lt-leb (suc (length s.text.starts)) (length s.text.starts) (omega arith)) refl;
  name = refl;
  source = refl;
  line_index = λ byte. refl;
  line_number = λ i. refl;
  location = λ byte. refl;
}

module _ (failure : Lookup → Option Error) (f : FileModel) (a : LookupsSucceed failure f)
    (config : Config) where
  abbrev Found : Lookup → Type 0
  Found l = failure l ≡ None

  of_lines : (test : ℕ → Bool)
      → AllByRecursion (λ i. i < line_count f) (filter test (range_with_len 0 (line_count f)))
  of_lines test =
      all-filter (λ i. i < line_count f) test (range_with_len 0 (line_count f))
      (let e : 0 + line_count f ≡ line_count f = omega arith in rw e at
      (each_of_range 0 (line_count f)))

  nothing_past : (b c : Bool) (ls : List Lookup) → c ≡ true
      → AllByRecursion Found (if b && not c then ls else [])
  nothing_past true true ls e = tt
  nothing_past false true ls e = tt
  nothing_past b false ls e = absurd (cc)

  of_label_found : (x : LabelModel) → AllByRecursion Found (label_line_lookups config f failure x)
  of_label_found x = (
    a.line_index x.start,
    (
      a.line_index x.end,
      all-append Found (flat_map line_lookups (looked_up_lines config f x))
          (lookup_past_end config f failure x)
          (each_flat_map line_lookups Found (λ i. i < line_count f) (looked_up_lines config f x)
          (λ i h. (a.line_range i h, (a.line_number i, tt))) (of_lines (is_looked_up config f x)))
          (nothing_past (nat_le (line_count f) (last_line f x + config.after_label_lines)) _ _
          a.past_end),
    ),
  )

  of_filled_found : (layout : Layout) (i : ℕ) → i < line_count f
      → AllByRecursion Found (filled_line_lookups layout i)
  of_filled_found Classic i h = (a.line_range i h, (a.line_number i, tt))
  of_filled_found Unbroken i h = (a.line_range i h, tt)

-- ---- all files

module _ (ss : List NativeFileView) where
  abbrev fails : ℕ → Lookup → Option Error
  fails = (native_database ss).failure

  abbrev IsFound : ℕ × Lookup → Type 0
  IsFound x = fails x.0 x.1 ≡ None

  abbrev IsKnown : ℕ → Type 0
  IsKnown id = id < length ss

  -- those of the file that is found, if any
  abbrev LookupsSucceedIf : Option NativeFileView → Type 0
  LookupsSucceedIf o =
      LookupsSucceed (λ lookup. option_map_or (λ s. native_failure s lookup) o (Some FileMissing))
      (option_map_or native_file_model o missing_file)

  lookups_succeed_if : (o : Option NativeFileView) → IsSome o → LookupsSucceedIf o
  lookups_succeed_if None is = absurd (cc)
  lookups_succeed_if (Some s) is = lookups_succeed_of s

  there : (xs : List NativeFileView) (i : ℕ) → i < length xs → IsSome (slice_get xs i)
  there [] i h = absurd (omega (arith, h))
  there (x ∷ xs) zero h = refl
  there (x ∷ xs) (suc i) h = there xs i (omega (arith, h))

  lookups_succeed_at : (id : ℕ) → IsKnown id
      → LookupsSucceed (fails id) ((native_database ss).file id)
  lookups_succeed_at id known = lookups_succeed_if (slice_get ss id) (there ss id known)

  lookups_are_found : (id : ℕ) (ls : List Lookup)
      → AllByRecursion (λ l. fails id l ≡ None) ls
      → AllByRecursion IsFound (lookups_of_file id ls)
  lookups_are_found id ls all = each_map (λ l. (id, l)) IsFound (λ l. fails id l ≡ None) ls
      (λ l e. e) all

  abbrev InKnown : LabelInFile ℕ → Type 0
  InKnown x = IsKnown x.file_id

  module _ (config : Config) (xs : List (LabelInFile ℕ)) (known : AllByRecursion InKnown xs) where
    abbrev files : FileDatabase ℕ
    files = native_database ss

    ids_known : AllByRecursion IsKnown (file_ids files.same xs)
    ids_known =
        each_first_seen files.same IsKnown (map (λ (x : LabelInFile ℕ). x.file_id) xs)
        (each_map (λ (x : LabelInFile ℕ). x.file_id) IsKnown InKnown xs (λ x h. h) known)

    labels_found : AllByRecursion IsFound (label_lookups config files xs)
    labels_found =
        each_flat_map
        (λ (x : LabelInFile ℕ). lookups_of_file x.file_id
        (label_line_lookups config (files.file x.file_id) (files.failure x.file_id) x.label))
        IsFound InKnown xs
        (λ x h. lookups_are_found x.file_id
        (label_line_lookups config (files.file x.file_id) (files.failure x.file_id) x.label)
        (of_label_found (fails x.file_id) (files.file x.file_id)
        (lookups_succeed_at x.file_id h) config x.label))
        known

    of_ids : (lookups_for : ℕ → List Lookup)
        → ((id : ℕ) → IsKnown id
        → AllByRecursion (λ l. fails id l ≡ None) (lookups_for id))
        → AllByRecursion IsFound
        (flat_map (λ id. lookups_of_file id (lookups_for id)) (file_ids files.same xs))
    of_ids lookups_for each =
        each_flat_map (λ id. lookups_of_file id (lookups_for id)) IsFound IsKnown
        (file_ids files.same xs)
        (λ id h. lookups_are_found id (lookups_for id) (each id h)) ids_known

    padding_found : (layout : Layout) (id : ℕ) → IsKnown id
        → AllByRecursion (λ l. fails id l ≡ None)
        (numbers_for_padding files xs config layout id)
    padding_found Classic id h = tt
    padding_found Unbroken id h =
        each_map LineNumber (λ l. fails id l ≡ None) (λ i. i < line_count (files.file id))
        (filled_lines config (file_at files xs id))
        (λ i _. (lookups_succeed_at id h).line_number i)
        (of_lines (fails id) (files.file id) (lookups_succeed_at id h) config _)

    snippets_found : (id : ℕ) → IsKnown id
        → AllByRecursion (λ l. fails id l ≡ None) (snippet_lookups files xs config id)
    snippets_found id h = (
      (lookups_succeed_at id h).source,
      each_flat_map (filled_line_lookups config.layout) (λ l. fails id l ≡ None)
          (λ i. i < line_count (files.file id))
          (filled_lines config (file_at files xs id))
          (of_filled_found (fails id) (files.file id) (lookups_succeed_at id h) config
          config.layout)
          (of_lines (fails id) (files.file id) (lookups_succeed_at id h) config _),
    )

    rich_found : AllByRecursion IsFound
        (early_lookups files xs config ++ late_lookups files xs config)
    rich_found =
        all-append IsFound (early_lookups files xs config) (late_lookups files xs config)
        (all-append IsFound _
        (flat_map (λ id. lookups_of_file id (locus_lookups files xs id))
        (file_ids files.same xs))
        (all-append IsFound (label_lookups config files xs)
        (flat_map (λ id. lookups_of_file id (numbers_for_padding files xs config config.layout id))
        (file_ids files.same xs))
        labels_found (of_ids (numbers_for_padding files xs config config.layout)
        (padding_found config.layout)))
        (of_ids (locus_lookups files xs)
        (λ id h. (
          (lookups_succeed_at id h).name,
          ((lookups_succeed_at id h).location (locus_byte_of (file_at files xs id).labels), tt),
        ))))
        (of_ids (snippet_lookups files xs config) snippets_found)

    header_found : AllByRecursion IsFound (flat_map header_lookups_of (primary_of xs))
    header_found =
        each_flat_map header_lookups_of IsFound InKnown (primary_of xs)
        (λ x h. (
          (lookups_succeed_at x.file_id h).name,
          ((lookups_succeed_at x.file_id h).location x.label.start, tt),
        ))
        (all-filter InKnown (λ (x : LabelInFile ℕ). is_primary x.label) xs known)

  succeed : (ls : List (ℕ × Lookup)) → AllByRecursion IsFound ls → AllSucceed fails ls
  succeed ls all = λ id lookup made.
      subst IsFound made.2 (at_index IsFound ls made.0 (id, lookup) made.1 all)

  -- all lookups of an output succeed where the files of the labels are known
  pub all_succeed : (style : DisplayStyle) (config : Config) (d : Diagnostic ℕ)
      → AllByRecursion InKnown (labels_of d)
      → AllSucceed fails (lookups_in style config (native_database ss) d)
  all_succeed Rich config d known = succeed _ (rich_found config (labels_of d) known)
  all_succeed Medium config d known = succeed _ (header_found config (labels_of d) known)
  all_succeed Short config d known = succeed _ (header_found config (labels_of d) known)

-- ---- the structs

-- valid arguments have no lookup that fails
pub none_fails : (files : List RawFile) (diagnostic : RawDiagnostic) (raw : RawConfig)
    → AreValid files diagnostic raw → NoLookupFails files diagnostic
none_fails files diagnostic raw valid d config viewed =
    let ss = map converted_file files in
    let same : map label_of_view (map (converted_label files) diagnostic.labels.now)
    ≡ labels_of d =
    ap (λ (v : DiagnosticView ℕ). map label_of_view v.labels) (sym viewed)
    ∙ sym (labels-of_view d.labels.items) in
    let count : length files ≡ length ss = sym (length-map files converted_file) in
    let known : AllByRecursion (λ (l : RawLabel). l.file < length ss) diagnostic.labels.now =
    recursion_from_All (λ (l : RawLabel). l.file < length ss) diagnostic.labels.now
    (λ k l h. let below = valid LabelFile k l h in omega (arith, below, count)) in
    all_succeed ss config.display_style config d
    (subst (AllByRecursion (InKnown ss)) same
    (each_map label_of_view (InKnown ss) (λ (v : LabelView ℕ). v.file_id < length ss)
    (map (converted_label files) diagnostic.labels.now) (λ v h. h)
    (each_map (converted_label files) (λ (v : LabelView ℕ). v.file_id < length ss)
    (λ (l : RawLabel). l.file < length ss) diagnostic.labels.now (λ l h. h) known)))
