-- Files in the order of their first label, the index of a label's file among them, and the search
-- for it: for the clauses of `find_file` and `get_or_insert_file`.
use Rattle.codespan_core.proofs.Std.{common_steps, ◌≡◌, ℕ, zero, suc, ◌<◌, length}
use Rattle.codespan_core.proofs.Std.{get_or, arith, Bool, true, false, not, List, [], ◌∷◌}
use Rattle.codespan_core.proofs.Std.{◌++◌, refl, sym, ◌∙◌, true≢false, filter, map}
use Rattle.codespan_core.proofs.Std.{if◌then◌else◌, IsEquivalence, AllByRecursion, list_any}
use Rattle.codespan_core.proofs.Std.{append-nil, length-map, map-append, filter-append}
use Rattle.codespan_core.proofs.Std.{list_any-append, list_any_at, ◌==◌, eqb-true, eq-eqb}
use Rattle.codespan_core.proofs.Std.{ne_eqb, ◌≢◌, append_assoc, ap}
use Rattle.std.proofs.lemmas.List.Folds.{position_or_len_push}
use Rattle.codespan_core.specs.Labels.{first_seen}
use Rattle.codespan_output.specs.Snippets.{LabelInFile, file_ids}
use Rattle.codespan_views.specs.Private.{with_file, AreDistinct, IsIdAt, index_of_file, RustFile}
use Rattle.codespan_views.specs.Private.{ids_view}
use Rattle.codespan_output.proofs.Slots.RefilledLabels.{any-map}
use Rattle.codespan_output.proofs.Utf8.ListElements.{all-weaker, all-filter, all-pass}

-- the id at an index
pub at-get : {Id : Type 0} (ids : List Id) (f : ℕ) (d : Id) → f < length ids
    → IsIdAt ids f (get_or ids f d)
at-get [] f d h = absurd (omega arith)
at-get (j ∷ js) zero d h = refl
at-get (j ∷ js) (suc f) d h = at-get js f d (omega arith)

module _ {Id : Type 0} (same : Id → Id → Bool) (o : IsEquivalence same) where
  -- the id is that of one of these
  abbrev pub has : List Id → Id → Bool
  has ids i = list_any (λ j. same j i) ids

  -- ids without those that are another one's have the same others
  has-unchanged : (j i : Id) → same j i ≡ false → (ks : List Id)
      → has (filter (λ k. not (same j k)) ks) i ≡ has ks i
  has-unchanged j i apart [] = refl
  has-unchanged j i apart (k ∷ ks) = grind (arith, common_steps, has-unchanged j i apart ks)

  -- one more id comes last, unless it is there
  pub first_seen-more : (js : List Id) (i : Id)
      → first_seen same
      (js ++ i ∷ [])
      ≡ (if has (first_seen same js) i then first_seen same js else first_seen same js
      ++ i ∷ [])
  first_seen-more [] i = refl
  first_seen-more (j ∷ js) i = grind
      (arith, common_steps, has-unchanged j i, filter-append, append-nil, first_seen-more js i)

  -- the id of one more label, which is added unless it is there
  pub file_ids-more : (xs : List (LabelInFile Id)) (x : LabelInFile Id)
      → file_ids same (xs ++ x ∷ []) ≡ with_file same (file_ids same xs) x.file_id
      (file_ids same xs) x.file_id
  file_ids-more xs x = grind (arith, common_steps, map-append, first_seen-more)

  -- an id of the list is among the first appearances
  first_seen-has : (js : List Id) (i : Id) → has (first_seen same js) i ≡ has js i
  first_seen-has [] i = refl
  first_seen-has (j ∷ js) i = grind (arith, common_steps, has-unchanged, first_seen-has js i)

  -- the file of each label is among those of all
  pub file_ids-has : (xs : List (LabelInFile Id)) (k : ℕ) (x : LabelInFile Id) → k < length xs
      → has (file_ids same xs) (get_or xs k x).file_id ≡ true
  file_ids-has xs k x h = grind (arith, common_steps, first_seen-has, any-map, list_any_at)

  -- so is that of the last one
  pub file_ids-last : (xs : List (LabelInFile Id)) (x : LabelInFile Id)
      → has (file_ids same (xs ++ x ∷ [])) x.file_id ≡ true
  file_ids-last xs x = grind (arith, common_steps, file_ids-more, list_any-append, o.refl x.file_id)

  -- no label is of a file that is not among those of all
  pub none-of_file : (xs : List (LabelInFile Id)) (id : Id) → has (file_ids same xs) id ≡ false
      → AllByRecursion (λ (x : LabelInFile Id). same id x.file_id ≡ false) xs
  none-of_file xs id none =
      by xs (sym (first_seen-has (map (λ (x : LabelInFile Id). x.file_id) xs) id) ∙ none)
    where
      by : (ys : List (LabelInFile Id)) → has (map (λ (y : LabelInFile Id). y.file_id) ys) id
          ≡ false
          → AllByRecursion (λ (y : LabelInFile Id). same id y.file_id ≡ false) ys
      by [] h = tt
      by (y ∷ ys) h = grind (arith, common_steps, by ys)

  -- those that a filter keeps differ
  differ-filter : (p : Id → Bool) (js : List Id) → AreDistinct same js
      → AreDistinct same (filter p js)
  differ-filter p [] h = tt
  differ-filter p (j ∷ js) h = grind (arith, common_steps, all-filter, differ-filter p js)

  -- the ids in the order of their first appearance differ
  pub first_seen-differ : (js : List Id) → AreDistinct same (first_seen same js)
  first_seen-differ [] = tt
  first_seen-differ (j ∷ js) = grind
      (arith, common_steps, all-weaker, all-pass, differ-filter, first_seen-differ js)

  -- what holds of each id holds of that at an index
  at-all : (P : Id → Type 0) (ids : List Id) (f : ℕ) (id : Id) → AllByRecursion P ids
      → IsIdAt ids f id → P id
  at-all P [] f id h a = absurd a
  at-all P (j ∷ js) zero id h a = grind (arith, common_steps)
  at-all P (j ∷ js) (suc f) id h a = at-all P js f id h.1 a

  -- of ids that differ the one at an index is equal to those that have the index
  index-is : (ids : List Id) (f : ℕ) (id : Id) → AreDistinct same ids → IsIdAt ids f id
      → (i : Id)
      → (index_of_file same ids i == f) ≡ same id i
  index-is [] f id d a i = absurd a
  index-is (j ∷ js) zero id d a i = grind (arith, common_steps, eq-eqb, ne_eqb)
  index-is (j ∷ js) (suc f) id d a i = grind
      (arith, common_steps, at-all, ne_eqb, index-is js f id)

  -- the id at an index of a diagnostic's files is equal to those of the labels there
  pub index_of_file-at : (xs : List (LabelInFile Id)) (f : ℕ) (id : Id)
      → IsIdAt (file_ids same xs) f id
      → (i : Id) → (index_of_file same (file_ids same xs) i == f) ≡ same id i
  index_of_file-at xs f id a i = grind (arith, common_steps, index-is, first_seen-differ)

  -- an id that is equal to the one at an index has that index
  pub same_id-index : (ids : List Id) {k : ℕ} (j i : Id) → AreDistinct same ids
      → IsIdAt ids k j
      → same j i ≡ true → k ≡ index_of_file same ids i
  same_id-index ids {k} j i apart at t =
      sym (eqb-true (index_of_file same ids i) k (index-is ids k j apart at i ∙ t))

  -- an id that is the same as that of one of these has an index among them
  pub has-index : (ids : List Id) (i : Id) → has ids i ≡ true
      → index_of_file same ids i < length ids
  has-index [] i h = absurd (true≢false (sym h))
  has-index (j ∷ js) i h = grind (arith, common_steps, has-index js i)

  -- an id that is none of these has the index after them
  pub no-index : (ids : List Id) (i : Id) → has ids i ≡ false
      → index_of_file same ids i ≡ length ids
  no-index [] i none = refl
  no-index (j ∷ js) i none = grind (arith, common_steps, no-index js i)

  -- one more id after these, where it is none of them, changes no index of one of them
  pub index-stays : (ids : List Id) (j i : Id) → has ids i ≡ true
      → index_of_file same (with_file same ids j ids j) i ≡ index_of_file same ids i
  index-stays ids j i there = grind (arith, common_steps, position_or_len_push, has-index)

  -- the index of an id that is there stays, whichever labels come after these
  pub index-final : (xs ys : List (LabelInFile Id)) (i : Id) → has (file_ids same xs) i ≡ true
      → index_of_file same (file_ids same (xs ++ ys)) i
      ≡ index_of_file same (file_ids same xs) i
  index-final xs [] i there = ap (λ zs. index_of_file same (file_ids same zs) i) (append-nil xs)
  index-final xs (y ∷ ys) i there =
      let more : has (file_ids same (xs ++ y ∷ [])) i ≡ true =
      grind (arith, common_steps, file_ids-more, list_any-append) in
      ap (λ zs. index_of_file same (file_ids same zs) i) (sym (append_assoc xs (y ∷ []) ys))
      ∙ index-final (xs ++ y ∷ []) ys i more
      ∙ ap (λ ids. index_of_file same ids i) (file_ids-more xs y)
      ∙ index-stays (file_ids same xs) y.file_id i there

-- ---- a file that is added where it is none of the others

module _ {Id : Type 0} {same : Id → Id → Bool} (o : IsEquivalence same)
    (files : List (RustFile Id))
    (id : Id) {index : ℕ} (is : index ≡ index_of_file same (ids_view files) id) where
  -- how many ids these are
  ids-length : length (ids_view files) ≡ length files
  ids-length = length-map files (λ (f : RustFile Id). f.file_id)

  -- where the index is that after the files, the list has one more element
  pub file-added : index ≡ length files → {A : Type 0} (known : List A) (one : A)
      → known ++ one ∷ [] ≡ with_file same (ids_view files) id known one
  file-added past known one = grind (arith, common_steps, ids-length, has-index)

  -- where it is one of the files', the list is unchanged
  pub file-unchanged : index ≢ length files → {A : Type 0} (known : List A) (one : A)
      → known ≡ with_file same (ids_view files) id known one
  file-unchanged inside known one = grind (arith, common_steps, ids-length, no-index)
