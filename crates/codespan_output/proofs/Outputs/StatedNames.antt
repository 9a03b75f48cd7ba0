-- For `output_is_picture` and `headers_are_before_failure`: an output where the
-- names of files are stated.
use Rattle.codespan_core.proofs.Std.{◌≡◌, Bool, true, false, cond, ◌&&◌, List, []}
use Rattle.codespan_core.proofs.Std.{◌∷◌, ◌++◌, length, map, take, flat_map, Option, None}
use Rattle.codespan_core.proofs.Std.{Some, refl, sym, ap, ◌∙◌, arith, take-append_seam}
use Rattle.codespan_core.proofs.Std.{length-map, map-append}
use Rattle.std.specs.Prelude.{IsSome, is_none, take_while}
use Rattle.std.proofs.lemmas.List.Elements.{Contains-append_right}
use Rattle.std.proofs.lemmas.List.Sums.{take_while-cons}
use Rattle.codespan_core.specs.FileModel.{FileDatabase, FileModel, Lookup, or_failure}
use Rattle.codespan_core.specs.FileModel.Lookup.{Name, LocationAt}
use Rattle.codespan_output.specs.Types.{Diagnostic, Error, Config, DisplayStyle, Short}
use Rattle.codespan_output.specs.{AllSucceed, Failures, first_error, header_lookups_of, AreLoci}
use Rattle.codespan_output.specs.{labels_of, output, locus_bytes, headers_at, stated_loci}
use Rattle.codespan_output.specs.{stated_locus, Locus, LabelInFile, primary_of}
use Rattle.codespan_output.specs.{HeadersAreBeforeFailure, NamesAreStated, OutputIsPicture}
use Rattle.codespan_output.proofs.Outputs.Loci.{each_of, each_start, zip_stated}
use Rattle.codespan_output.specs.Private.{label_locus_byte}
use Rattle.codespan_output.proofs.Utf8.ListElements.{map-map}

-- ---- labels before the first one for which a lookup fails

-- whether both lookups of a header succeed
abbrev lookup_succeeds : {Id : Type 0} → Failures Id → LabelInFile Id → Bool
lookup_succeeds failure x =
    is_none (failure x.file_id Name) && is_none (failure x.file_id (LocationAt x.label.start))

-- where neither of the two fails, each succeeds
both_succeed : (o p : Option Error) → or_failure o (or_failure p None) ≡ None
    → (is_none o && is_none p) ≡ true
both_succeed None None h = refl
both_succeed None (Some e) h = cc
both_succeed (Some e) p h = cc

-- where one of the two fails, not both succeed
one_failed : (o p : Option Error) (e : Error) → or_failure o (or_failure p None) ≡ Some e
    → (is_none o && is_none p) ≡ false
one_failed None None e h = cc
one_failed None (Some x) e h = refl
one_failed (Some x) p e h = refl

-- where neither of two has an error, the first has none and the second has none
none_first : (o p : Option Error) → or_failure o p ≡ None → (o ≡ None) × (p ≡ None)
none_first None p h = (refl, h)
none_first (Some x) p h = cc

-- where all lookups succeed, the first ones do and the others do
none_of_first : {Id : Type 0} (failure : Failures Id) (ls ms : List (Id × Lookup))
    → first_error failure (ls ++ ms) ≡ None
    → (first_error failure ls ≡ None) × (first_error failure ms ≡ None)
none_of_first failure [] ms h = (refl, h)
none_of_first failure (l ∷ ls) ms h =
    let parts = none_first (failure l.0 l.1) (first_error failure (ls ++ ms)) h in
    let later = none_of_first failure ls ms parts.1 in
    (ap (λ (o : Option Error). or_failure o (first_error failure ls)) parts.0 ∙ later.0, later.1)

-- labels whose lookups succeed, and then a label for which one fails
run_before : {Id : Type 0} (failure : Failures Id) (before : List (LabelInFile Id))
    (here : LabelInFile Id)
    (after : List (LabelInFile Id))
    → first_error failure (flat_map header_lookups_of before) ≡ None
    → lookup_succeeds failure here ≡ false
    → take_while (lookup_succeeds failure) (before ++ here ∷ after) ≡ before
run_before failure [] here after succeeded failed =
    take_while-cons (lookup_succeeds failure) here after
    ∙ ap (λ (b : Bool). cond b (here ∷ take_while (lookup_succeeds failure) after) []) failed
run_before {Id} failure (x ∷ xs) here after succeeded failed =
    let parts =
    none_of_first failure (header_lookups_of x) (flat_map header_lookups_of xs) succeeded in
    let passes : lookup_succeeds failure x ≡ true = both_succeed _ _ parts.0 in
    take_while-cons (lookup_succeeds failure) x (xs ++ here ∷ after)
    ∙ ap
    (λ (b : Bool). cond b (x ∷ take_while (lookup_succeeds failure) (xs ++ here ∷ after)) [])
    passes
    ∙ ap (λ (l : List (LabelInFile Id)). x ∷ l)
    (run_before failure xs here after parts.1 failed)

-- ---- loci of files that state their names

module _ {Id : Type 0} (files : FileDatabase Id) (d : Diagnostic Id)
    (named : NamesAreStated files d) where
  -- loci of the output are those that the files state
  pub loci_stated : (style : DisplayStyle) (loci : List Locus) → AreLoci files d style loci
      → loci ≡ stated_loci files d style
  loci_stated style loci are =
      zip_stated (locus_bytes files.same files.file (labels_of d) style) loci are
      (each_start files.same files.file (labels_of d) (λ (f : FileModel). IsSome f.name)
      (each_of (λ (x : LabelInFile Id). IsSome (files.file x.file_id).name) (labels_of d) named)
      style)

  -- so the output is the picture
  pub output_stated : (style : DisplayStyle) (renderer_config view_config : Config)
      (loci : List Locus)
      → AreLoci files d style loci
      → output style renderer_config view_config files d loci ≡ output style renderer_config
      view_config files d (stated_loci files d style)
  output_stated style renderer_config view_config loci are =
      ap (output style renderer_config view_config files d) (loci_stated style loci are)

  -- the headers before a label for which a lookup fails are those of the labels before the first
  -- such label
  headers_stated : (config : Config) (loci : List Locus) → AreLoci files d Short loci
      → (before : List (LabelInFile Id)) (here : LabelInFile Id) (after : List (LabelInFile Id))
      → before ++ here ∷ after ≡ primary_of (labels_of d)
      → AllSucceed files.failure (flat_map header_lookups_of before) → (e : Error)
      → first_error files.failure (header_lookups_of here) ≡ Some e
      → headers_at config d (take (length before) loci)
      ≡ headers_at config d
      (map (λ (x : LabelInFile Id). stated_locus (label_locus_byte files.file x))
      (take_while (lookup_succeeds files.failure) (primary_of (labels_of d))))
  headers_stated config loci are before here after whole succeeded e failed =
      let primaries = primary_of (labels_of d) in
      let to_locus : LabelInFile Id
      → Locus = λ x. stated_locus (label_locus_byte files.file x) in
      let split : loci ≡ map to_locus before ++ map to_locus (here ∷ after) =
      loci_stated Short loci are ∙ map-map stated_locus (label_locus_byte files.file) primaries
      ∙ ap (map to_locus) (sym whole) ∙ map-append to_locus before (here ∷ after) in
      let taken : take (length before) loci ≡ map to_locus before =
      ap (λ n. take n loci) (sym (length-map before to_locus))
      ∙ ap (take (length (map to_locus before))) split
      ∙ take-append_seam (map to_locus before) (map to_locus (here ∷ after)) in
      let run : take_while (lookup_succeeds files.failure) primaries ≡ before =
      ap (take_while (lookup_succeeds files.failure)) (sym whole)
      ∙ run_before files.failure before here after
      (none_of (flat_map header_lookups_of before) succeeded) (one_failed _ _ e failed) in
      ap (headers_at config d) (taken ∙ ap (map to_locus) (sym run))
    where
      none_of : (ls : List (Id × Lookup)) → AllSucceed files.failure ls
          → first_error files.failure ls ≡ None
      none_of [] h = refl
      none_of (l ∷ ls) h =
          ap (λ (o : Option Error). or_failure o (first_error files.failure ls))
          (h l.0 l.1 (0, omega arith, refl))
          ∙ none_of ls
          (λ id lookup m. h id lookup (Contains-append_right (l ∷ []) ls (id, lookup) m))

pub output_is_picture : {Id : Type 0} (files : FileDatabase Id) (d : Diagnostic Id)
    → OutputIsPicture files d
output_is_picture files d named style renderer_config view_config loci are =
    output_stated files d named style renderer_config view_config loci are

pub headers_are_before_failure : {Id : Type 0} (files : FileDatabase Id) (d : Diagnostic Id)
    → HeadersAreBeforeFailure files d
headers_are_before_failure files d named config loci are before here after whole succeeded e
    failed =
    headers_stated files d named config loci are before here after whole succeeded e failed
