-- The loci of files, looked up one after another, each of which its file keeps: for the clauses of
-- `find_loci`.
use Rattle.codespan_core.proofs.Std.{◌≡◌, ℕ, ◌+◌, List, [], ◌∷◌, length, take}
use Rattle.codespan_core.proofs.Std.{drop, set, None, Some, sym, ap, ◌∙◌, AllByRecursion}
use Rattle.codespan_core.proofs.Std.{get_or_default, length-map, arith, common_steps}
use Rattle.std.proofs.Math.Seq.{map-set_same}
use Rattle.std.proofs.lemmas.List.{drop-set-lt, take_more_set}
use Rattle.codespan_core.specs.FileModel.{FileModel, Lookup, or_failure}
use Rattle.codespan_core.specs.FileModel.Lookup.{LocationAt, Name}
use Rattle.codespan_output.specs.Types.{Error}
use Rattle.codespan_output.specs.Lookups.{Failures, first_error, lookups_of_file}
use Rattle.codespan_views.specs.Private.{RustFile, LeastStarts, KeepsLabels, without_locus}
use Rattle.codespan_views.specs.Private.{HasLocus, locus_lookups_of, locus_lookups_of_files}
use Rattle.codespan_views.specs.Private.{locus_byte}
use Rattle.codespan_output.proofs.Utf8.ListElements.{all-append}
use Rattle.codespan_views.proofs.Errors.First.{first_error-append}
use Rattle.codespan_views.proofs.Annotations.IndexedElements.{IsElementAt, drop-one}

-- the lookups of a locus depend on what is known of the file's labels
abbrev pub lookups_by : {Id : Type 0} → Id × LeastStarts × ℕ → List (Id × Lookup)
lookups_by t = lookups_of_file t.0 (Name ∷ LocationAt (locus_byte t.1) ∷ [])

-- the elements at one index are the same
pub element-same : {X : Type 0} {xs : List X} {k : ℕ} {x y : X} → IsElementAt xs k x
    → IsElementAt xs k y → x ≡ y
element-same {xs = xs} {k = k} {x = x} {y = y} one other =
    one.is ∙ get_or_default xs k x y one.inside ∙ sym other.is

-- the files before this index have their loci; the lookups of those that are left end all
pub record LociFound {Id : Type 0} (file : Id → FileModel) (failure : Failures Id)
    (old now : List (RustFile Id)) (k : ℕ) : Type 0 where
  pub kept : KeepsLabels old now
  pub loci : AllByRecursion (HasLocus file) (take k now)
  pub failed : first_error failure (locus_lookups_of_files (drop k now))
      ≡ first_error failure (locus_lookups_of_files old)

module _ {Id : Type 0} {file : Id → FileModel} {failure : Failures Id}
    {old now : List (RustFile Id)} {k : ℕ} (found : LociFound file failure old now k) where
  module _ {f : RustFile Id} (at : IsElementAt now k f) where
    -- its own lookups come next
    own_next : or_failure (first_error failure (locus_lookups_of f))
        (first_error failure (locus_lookups_of_files (drop (k + 1) now)))
        ≡ first_error failure (locus_lookups_of_files old)
    own_next =
        let all = rw (drop-one now k f at.inside at.is) at found.failed in
        grind (arith, common_steps, first_error-append)

    -- it has its locus
    pub loci-more : (new : RustFile Id) → without_locus new ≡ without_locus f
        → HasLocus file new
        → first_error failure (locus_lookups_of f) ≡ None
        → LociFound file failure old (set now k new) (k + 1)
    loci-more new same locus succeeded = record {
      kept = map-set_same without_locus now k new f (same ∙ ap without_locus at.is)
          ∙ found.kept;
      loci = grind (arith, common_steps, take_more_set, all-append);
      failed = grind (arith, common_steps, drop-set-lt, own_next);
    }

    -- a lookup of its locus failed, and so do those of all files
    pub loci-failed : {e : Error} → first_error failure (locus_lookups_of f) ≡ Some e
        → first_error failure (locus_lookups_of_files old) ≡ Some e
    loci-failed {e} known = grind (arith, common_steps, own_next)

  -- the files are as many as before
  pub loci-count : length now ≡ length old
  loci-count = grind (arith, common_steps, length-map)
