-- The numbers of filled lines, looked up one after another, and the padding width: for the clauses
-- of `find_numbers_of_file` and `find_numbers`.
use Rattle.codespan_core.proofs.Std.{arith, ◌≡◌, ℕ, zero, suc, ◌+◌, ◌-◌, List, []}
use Rattle.codespan_core.proofs.Std.{◌∷◌, ◌++◌, drop, max, Option, None, Some, refl}
use Rattle.codespan_core.proofs.Std.{append_assoc, ◌≢◌, fold, common_steps}
use Rattle.std.proofs.Math.Nat.{max_comm}
use Rattle.codespan_core.specs.FileModel.{FileModel, Lookup}
use Rattle.codespan_core.specs.FileModel.Lookup.{LineNumber}
use Rattle.codespan_output.specs.Types.{Error}
use Rattle.codespan_output.specs.Lookups.{Failures, first_error, lookups_of_file}
use Rattle.codespan_output.specs.Padding.{count_digits}
use Rattle.codespan_views.specs.Private.{RustFile, Annotation, digit_counts_of, flat_map_indexed}
use Rattle.codespan_views.specs.Private.{lines_at, numbers_of, gap_lines, number_lookups, ids_view}
use Rattle.codespan_views.specs.Private.{Labeled, SnippetLine, drawn_lines_of, filled_lines_of}
use Rattle.codespan_output.proofs.DrawnLines.Greatest.{greatest-append}
use Rattle.codespan_views.proofs.Files.InOrder.{id-at, id-inside}
use Rattle.codespan_views.proofs.Errors.First.{first_error-append}
use Rattle.codespan_views.proofs.Annotations.IndexedElements.{IsElementAt, drop-one}

-- ---- the lines of a file

module _ {Id : Type 0} (failure : Failures Id) (id : Id) (f : FileModel) where
  -- what the lookups of the numbers that these snippet lines fill in fail with
  abbrev pub numbers_failed : List SnippetLine → Option Error
  numbers_failed xs =
      first_error failure (lookups_of_file id (number_lookups (filled_lines_of xs)))

  -- of all snippet lines these are left: their numbers, digit counts and lookups end those of all
  pub record NumbersLeft (whole rest : List SnippetLine) (old now : List ℕ) (digits widened : ℕ)
      : Type 0 where
    pub numbers : now ++ numbers_of f (filled_lines_of rest)
        ≡ old ++ numbers_of f (filled_lines_of whole)
    pub padding : fold max widened (digit_counts_of f (drawn_lines_of rest))
        ≡ fold max digits (digit_counts_of f (drawn_lines_of whole))
    pub failed : numbers_failed rest ≡ numbers_failed whole

module _ {Id : Type 0} {failure : Failures Id} {id : Id} {f : FileModel} {whole : List SnippetLine}
    {old now : List ℕ} {digits widened : ℕ} where
  -- the same are left, in other words
  pub left-same : {rest others : List SnippetLine} → rest ≡ others
      → NumbersLeft failure id f whole rest old now digits widened
      → NumbersLeft failure id f whole others old now digits widened
  left-same same left = rw (← same) left

  -- no number is looked up where not one line is between two shown lines
  pub left-no_gap : {rest : List SnippetLine} (hidden next : List Annotation) (d n : ℕ)
      → n ≢ 1
      → NumbersLeft failure id f whole (gap_lines hidden next d n ++ rest) old now digits widened
      → NumbersLeft failure id f whole rest old now digits widened
  left-no_gap hidden next d zero other left = left
  left-no_gap hidden next d (suc zero) other left = absurd (other refl)
  left-no_gap hidden next d (suc (suc n)) other left = grind (arith, common_steps)

  module _ (rest : List SnippetLine) (hidden next : List Annotation) (d n : ℕ) (one : n ≡ 1)
      (left : NumbersLeft failure id f whole (gap_lines hidden next d n ++ rest) old now digits
      widened) where
    -- where one is, its number was found
    pub left-gap : (number : ℕ) → number ≡ f.line_number (d - 1)
        → first_error failure (lookups_of_file id (LineNumber (d - 1) ∷ [])) ≡ None
        → {new : List ℕ} {wider : ℕ} → new ≡ now ++ number ∷ []
        → wider ≡ max (count_digits number) widened
        → NumbersLeft failure id f whole rest old new digits wider
    left-gap number is succeeded added wide =
        let at = rw one at left in
        record {
          numbers = grind (arith, common_steps, append_assoc);
          padding = grind (arith, common_steps, max_comm);
          failed = grind (arith, common_steps);
        }

    -- or its lookup failed
    pub gap-failed : (e : Error)
        → first_error failure (lookups_of_file id (LineNumber (d - 1) ∷ [])) ≡ Some e
        → numbers_failed failure id f whole ≡ Some e
    gap-failed e known = let at = rw one at left in grind (arith, common_steps)

  -- the number of a shown line is known
  pub left-shown : {rest : List SnippetLine} (l : ℕ) (own : List Annotation) (number : ℕ)
      → number ≡ f.line_number l → {wider : ℕ}
      → wider ≡ max (count_digits number) widened
      → NumbersLeft failure id f whole (Labeled l own ∷ rest) old now digits widened
      → NumbersLeft failure id f whole rest old now digits wider
  left-shown l own number is wide left = grind (arith, common_steps)

-- ---- files

module _ {Id : Type 0} (file : Id → FileModel) (failure : Failures Id) (es : List Annotation)
  where
    -- what is made of the snippet lines of these files, whose indices begin here
    abbrev of_ids : {A : Type 0} → (Id → List SnippetLine → List A) → ℕ → List Id
        → List A
    of_ids image k ids = flat_map_indexed (λ i id. image id (lines_at es i)) k ids

    -- their numbers, digit counts and lookups
    abbrev numbers_from : ℕ → List Id → List ℕ
    numbers_from = of_ids (λ id xs. numbers_of (file id) (filled_lines_of xs))

    abbrev digits_from : ℕ → List Id → List ℕ
    digits_from = of_ids (λ id xs. digit_counts_of (file id) (drawn_lines_of xs))

    abbrev pub lookups_from : ℕ → List Id → List (Id × Lookup)
    lookups_from = of_ids (λ id xs. lookups_of_file id (number_lookups (filled_lines_of xs)))

    -- of all files those from this index on are left: theirs end those of all
    pub record FilesLeft (ids : List Id) (k : ℕ) (old now : List ℕ) (widened : ℕ) : Type 0
      where
        pub numbers : now ++ numbers_from k (drop k ids) ≡ old ++ numbers_from 0 ids
        pub padding : fold max widened (digits_from k (drop k ids))
            ≡ fold max 0 (digits_from 0 ids)
        pub failed : first_error failure (lookups_from k (drop k ids))
            ≡ first_error failure (lookups_from 0 ids)

module _ {Id : Type 0} {file : Id → FileModel} {failure : Failures Id} {es : List Annotation}
    {files : List (RustFile Id)} {k : ℕ} {f : RustFile Id} {xs : List SnippetLine}
    (at : IsElementAt files k f) (same : xs ≡ lines_at es k) {old now : List ℕ} {widened : ℕ}
    (left : FilesLeft file failure es (ids_view files) k old now widened) where
  -- the next one is there
  next_is : drop k (ids_view files) ≡ f.file_id ∷ drop (k + 1) (ids_view files)
  next_is = drop-one (ids_view files) k f.file_id (id-inside at) (id-at at)

  -- its numbers were found
  pub files-more : {new : List ℕ} {wider : ℕ}
      → new ≡ now ++ numbers_of (file f.file_id) (filled_lines_of xs)
      → wider ≡ fold max widened (digit_counts_of (file f.file_id) (drawn_lines_of xs))
      → numbers_failed failure f.file_id (file f.file_id) xs ≡ None
      → FilesLeft file failure es (ids_view files) (k + 1) old new wider
  files-more added wide succeeded =
      grind (arith, common_steps, append_assoc, next_is, greatest-append, first_error-append)

  -- a lookup of one of its numbers failed, and so do those of all files
  pub files-failed : {e : Error} → numbers_failed failure f.file_id (file f.file_id) xs ≡ Some e
      → first_error failure (lookups_from file failure es 0 (ids_view files)) ≡ Some e
  files-failed {e} known = grind (arith, common_steps, first_error-append, next_is, same)
