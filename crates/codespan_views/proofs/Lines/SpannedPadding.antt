-- The padding width for the numbers of the lines that labels span is that of the output in the
-- classic layout: for the clauses of `RichDiagnostic::render`.
use Rattle.codespan_core.proofs.Std.{common_steps, ◌≡◌, ℕ, zero, suc, ◌+◌, ◌<◌}
use Rattle.codespan_core.proofs.Std.{◌≤◌, Bool, true, ◌&&◌, max, List, [], ◌∷◌}
use Rattle.codespan_core.proofs.Std.{length, get_or, map, filter, flat_map, refl, sym, ◌∙◌}
use Rattle.codespan_core.proofs.Std.{ap, subst, arith, Contains, fold, IsEquivalence}
use Rattle.codespan_core.proofs.Std.{AllByRecursion, list_any, range_with_len, and_parts, eq-eqb}
use Rattle.codespan_core.proofs.Std.{true≢false, flat_map-map, list_any_at, length-map}
use Rattle.codespan_core.proofs.Std.{get_or-map}
use Rattle.codespan_core.specs.FileModel.{FileModel, line_count}
use Rattle.codespan_core.specs.Labels.{LabelModel}
use Rattle.codespan_output.specs.Types.{Config, Classic}
use Rattle.codespan_output.specs.Padding.{count_digits, numbered_lines, padding_of}
use Rattle.codespan_output.specs.Snippets.{LabelInFile, LabeledFileModel, labeled_file_model}
use Rattle.codespan_output.specs.Snippets.{labeled_file_models, file_ids}
use Rattle.codespan_views.specs.Private.{is_spanned, index_of_file, all_digit_counts}
use Rattle.codespan_views.specs.Private.{digit_count_if_spanned, label_digit_counts}
use Rattle.codespan_output.proofs.DrawnLines.Greatest.{greatest-any, greatest-append, greatest-same}
use Rattle.codespan_output.proofs.DrawnLines.Padding.{contains-filter, contains-range}
use Rattle.codespan_output.proofs.DrawnLines.Padding.{numbered-fits}
use Rattle.codespan_output.proofs.Slots.RefilledLabels.{any-map}
use Rattle.codespan_output.proofs.Utf8.ListElements.{all-append, any-filtered}
use Rattle.codespan_views.proofs.Files.Indices.{file_ids-has, at-get, index_of_file-at, has-index}
use Rattle.codespan_output.specs.Private.LocusBytes.{digits_of, spanned_lines}

-- ---- what holds of all elements

-- what holds of all that those lines of a range contribute which pass a test
all-lines : (P : ℕ → Type 0) (image : ℕ → ℕ) (p : ℕ → Bool) (n a : ℕ)
    → ((l : ℕ) → l < a + n → p l ≡ true → P (image l))
    → AllByRecursion P (map image (filter p (range_with_len a n)))
all-lines P image p zero a h = tt
all-lines P image p (suc n) a h = grind (arith, common_steps, all-lines P image p n (a + 1))

-- what holds of all that each element contributes
all-elements : {X A : Type 0} (P : A → Type 0) (image : X → List A) (xs : List X)
    → ((k : ℕ) (d : X) → k < length xs → AllByRecursion P (image (get_or xs k d)))
    → AllByRecursion P (flat_map image xs)
all-elements P image [] h = tt
all-elements P image (x ∷ xs) h =
    all-append P _ _ (h 0 x (omega arith))
    (all-elements P image xs (λ k d inside. h (suc k) d (omega (arith, inside))))

-- ---- the lines of one label

module _ (f : FileModel) (x : LabelModel) where
  -- where each number fits the padding, all do
  digits-fit : (m n a : ℕ)
      → ((l : ℕ) → l < a + n → is_spanned f x l ≡ true
      → count_digits (f.line_number l) ≤ m)
      → AllByRecursion (λ d. d ≤ m)
      (flat_map (digit_count_if_spanned f x) (range_with_len a n))
  digits-fit m zero a h = tt
  digits-fit m (suc n) a h = grind (arith, common_steps, all-append, digits-fit m n (a + 1))

  -- the number of a line that is spanned is counted
  line-counted : (l n a : ℕ) → a ≤ l → l < a + n → is_spanned f x l ≡ true
      → count_digits (f.line_number l)
      ≤ fold max 0 (flat_map (digit_count_if_spanned f x) (range_with_len a n))
  line-counted l zero a low high t = absurd (omega arith)
  line-counted l (suc n) a low high t = grind
      (arith, common_steps, greatest-append, greatest-any, line-counted l n (a + 1))

-- ---- all labels

module _ {Id : Type 0} (same : Id → Id → Bool) (file : Id → FileModel)
    (o : IsEquivalence same)
    (one_file : (i j : Id) → same i j ≡ true → file i ≡ file j)
    (config : Config) (xs : List (LabelInFile Id)) (classic : config.layout ≡ Classic) where
  -- the ids of the files
  abbrev ids : List Id
  ids = file_ids same xs

  -- a file with its labels
  abbrev labeled : Id → LabeledFileModel
  labeled = labeled_file_model same file xs

  -- the padding of the output
  abbrev padding_width : ℕ
  padding_width = padding_of config (labeled_file_models same file xs)

  -- in the classic layout the numbers of spanned lines count
  numbered-spanned : (s : LabeledFileModel) → numbered_lines config s ≡ spanned_lines s
  numbered-spanned s = ap (λ v. numbered_lines (record config { layout = v }) s) classic

  -- whether some label of a file spans a line
  spans-any : (id : Id) (l : ℕ)
      → list_any (λ x. is_spanned (file id) x l) (labeled id).labels ≡ list_any
      (λ (x : LabelInFile Id). same id x.file_id && is_spanned (file id) x.label l) xs
  spans-any id l = grind (arith, common_steps, any-map, any-filtered)

  -- the number of a line that a label spans fits the padding
  line-fits : (k : ℕ) (d : LabelInFile Id) → k < length xs → (l : ℕ)
      → l < line_count (file (get_or xs k d).file_id)
      → is_spanned (file (get_or xs k d).file_id) (get_or xs k d).label l ≡ true
      → count_digits ((file (get_or xs k d).file_id).line_number l) ≤ padding_width
  line-fits k d inside l low t =
      let y = get_or xs k d in
      let f = index_of_file same ids y.file_id in
      let id = get_or ids f y.file_id in
      let bound : f < length ids =
      has-index same o ids y.file_id (file_ids-has same o xs k d inside) in
      let there : Contains (map labeled ids) (labeled id) = (
        f,
        omega (arith, bound, length-map ids labeled),
        get_or-map labeled ids f y.file_id (labeled id) bound,
      ) in
      let equal : same id y.file_id ≡ true =
      sym (index_of_file-at same o xs f id (at-get ids f y.file_id bound) y.file_id)
      ∙ eq-eqb f f refl in
      let model : file y.file_id ≡ file id = sym (one_file id y.file_id equal) in
      let any = spans-any id l
      ∙ list_any_at (λ (x : LabelInFile Id). same id x.file_id && is_spanned (file id) x.label l)
      xs
      k d
      inside (grind (arith, common_steps)) in
      grind (
        arith,
        common_steps,
        numbered-fits config (labeled_file_models same file xs) (labeled id) l,
        there,
        numbered-spanned,
        contains-filter (λ n. list_any (λ x. is_spanned (file id) x n) (labeled id).labels) l
            (range_with_len 0 (line_count (file id))) any,
        contains-range 0 (line_count (file id)) l,
      )

  -- so have those of all lines of labels
  labels-fit : AllByRecursion (λ n. n ≤ padding_width) (all_digit_counts file xs)
  labels-fit =
      all-elements _ (λ (x : LabelInFile Id). label_digit_counts (file x.file_id) x.label) xs
      (λ k d inside. digits-fit (file (get_or xs k d).file_id) (get_or xs k d).label _ _ 0
      (λ l low t. line-fits k d inside l (omega (arith, low)) t))

  -- the number of a line that some label of the file spans is counted
  some-counted : (id : Id) (l : ℕ) → l < line_count (file id) → (ys : List (LabelInFile Id))
      → list_any (λ (x : LabelInFile Id). same id x.file_id && is_spanned (file id) x.label l) ys
      ≡ true
      → count_digits ((file id).line_number l) ≤ fold max 0 (all_digit_counts file ys)
  some-counted id l low [] any = absurd (true≢false (sym any))
  some-counted id l low (y ∷ ys) any = grind (
    arith,
    common_steps,
    and_parts,
    greatest-append,
    greatest-any,
    line-counted,
    some-counted id l low ys,
  )

  -- so is that of each spanned line of the output
  lines-counted : AllByRecursion (λ n. n ≤ fold max 0 (all_digit_counts file xs))
      (flat_map (λ (s : LabeledFileModel). digits_of s (numbered_lines config s))
      (labeled_file_models same file xs))
  lines-counted =
      let all : List ℕ → Type 0 = AllByRecursion
      (λ n. n ≤ fold max 0 (all_digit_counts file xs)) in
      subst all (sym (flat_map-map _ labeled ids))
      (all-elements _ _ ids (λ k d _. subst (λ ls. all (digits_of (labeled (get_or ids k d)) ls))
      (sym (numbered-spanned (labeled (get_or ids k d))))
      (all-lines _ _ _ (line_count (file (get_or ids k d))) 0
      (λ l low t. some-counted (get_or ids k d) l (omega (arith, low)) xs
      (sym (spans-any (get_or ids k d) l) ∙ t)))))

  -- the greatest digit count of the lines of labels is the padding
  pub spanned-padding_width : fold max 0 (all_digit_counts file xs) ≡ padding_width
  spanned-padding_width = grind (arith, common_steps, greatest-same, labels-fit, lines-counted)
