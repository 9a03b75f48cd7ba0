-- For `messages_appear_once`: each label's message has one slot.
use Rattle.codespan_core.proofs.Std.{◌≡◌, ℕ, zero, suc, ◌+◌, ◌<◌, Bool, true, false}
use Rattle.codespan_core.proofs.Std.{not, cond, ◌||◌, ◌==◌, List, [], ◌∷◌, map}
use Rattle.codespan_core.proofs.Std.{filter, Some, slice_get, length, if◌then◌else◌, refl, ap}
use Rattle.codespan_core.proofs.Std.{◌∙◌, arith, sum_by, count_by, list_any, enumerate_from}
use Rattle.codespan_core.proofs.Std.{nat_tests, sum_by-cons, IsEquivalence, Option, AllByRecursion}
use Rattle.codespan_core.specs.FileModel.{FileModel, line_count}
use Rattle.codespan_core.specs.Streams.{Slot}
use Rattle.codespan_core.specs.Labels.{has_message, is_empty, first_seen}
use Rattle.codespan_output.specs.Types.{Config}
use Rattle.codespan_output.specs.{HeaderText, Locus, RowContext, LabelInFile, fitted_row}
use Rattle.codespan_output.specs.{labeled_file_model, labeled_file_models, rich_rows, is_slot}
use Rattle.codespan_output.specs.{slotted, all_slotted, fitted_stream}
use Rattle.codespan_output.proofs.Fitting.CanFit.{FileCanFit, can-rich}
use Rattle.codespan_output.proofs.Slots.FittedSlots.{slots-fitted}
use Rattle.codespan_output.proofs.Slots.Rows.{slots-rows}
use Rattle.codespan_output.proofs.Slots.Parts.{slots, slots-is}
use Rattle.codespan_output.proofs.Slots.Lines.{sum-ext, sum-zero, sum-map, sum-filter}
use Rattle.codespan_output.proofs.Slots.Lines.{sum-filter_free, sum-swap, label_slots}
use Rattle.codespan_output.proofs.Slots.Files.{or_left, or_right, file_slots, snippet_sum, rich_sum}

-- ---- each label is of one file

module _ {Id : Type 0} (same : Id → Id → Bool) (law : IsEquivalence same) where
  once_seen : (v : ℕ) (z : Id) (ids : List Id)
      → sum_by (λ id. cond (same id z) v 0) (first_seen same ids) ≡ cond
      (list_any (λ id. same id z) ids) v 0
  once_seen v z [] = refl
  once_seen v z (i ∷ ids) = by_test (once_seen v z ids) (same i z) refl
    where
      others : List Id
      others = filter (λ other. not (same i other)) (first_seen same ids)

      clash : same i z ≡ true → (o : Id) (b c : Bool) → same i o ≡ b → same o z ≡ c
          → cond (not b) (cond c v 0) 0 ≡ 0
      clash is o true c here there = refl
      clash is o false false here there = refl
      clash is o false true here there = let e = law.congr i z o is
          ∙ (law.symm z o ∙ there) in cc

      apart : same i z ≡ false → (o : Id) → not (same i o) ≡ false → (c : Bool)
          → same o z ≡ c
          → cond c v 0 ≡ 0
      apart is o here false there = refl
      apart is o here true there = by_same (same i o) refl here
        where
          by_same : (b : Bool) → same i o ≡ b → not b ≡ false → cond true v 0 ≡ 0
          by_same true two h = let e = law.congr i o z two ∙ there in cc
          by_same false two h = cc

      by_test : sum_by (λ id. cond (same id z) v 0) (first_seen same ids) ≡ cond
          (list_any (λ id. same id z) ids) v 0
          → (b : Bool) → same i z ≡ b
          → sum_by (λ id. cond (same id z) v 0) (i ∷ others) ≡ cond
          (b || list_any (λ id. same id z) ids) v 0
      by_test rest true is =
          let e = ap {B = ℕ} (λ b. cond b v 0) is in
          omega (
            arith,
            e,
            sum_by-cons (λ id. cond (same id z) v 0) i others,
            sum-filter (λ id. cond (same id z) v 0) (λ other. not (same i other))
                (first_seen same ids),
            sum-zero (λ o. cond (not (same i o)) (cond (same o z) v 0) 0)
                (λ o. clash is o (same i o) (same o z) refl refl) (first_seen same ids),
          )
      by_test rest false is =
          let e = ap {B = ℕ} (λ b. cond b v 0) is in
          omega (
            arith,
            e,
            rest,
            sum_by-cons (λ id. cond (same id z) v 0) i others,
            sum-filter_free (λ id. cond (same id z) v 0) (λ other. not (same i other))
                (λ o out. apart is o out (same o z) refl) (first_seen same ids),
          )

  -- over all files each label counts once
  all_seen : (w : LabelInFile Id → ℕ) (ids : List Id) (xs : List (LabelInFile Id))
      → ((z : Id) → list_any (λ id. same id z) (map (λ (x : LabelInFile Id). x.file_id) xs)
      ≡ true
      → list_any (λ id. same id z) ids ≡ true)
      → sum_by
      (λ (x : LabelInFile Id). sum_by (λ id. cond (same id x.file_id) (w x) 0)
      (first_seen same ids)) xs
      ≡ sum_by w xs
  all_seen w ids [] h = refl
  all_seen w ids (x ∷ xs) h =
      let here = h x.file_id
      (or_left (same x.file_id x.file_id)
      (list_any (λ id. same id x.file_id) (map (λ (y : LabelInFile Id). y.file_id) xs))
      (law.refl x.file_id)) in
      let e = ap {B = ℕ} (λ b. cond b (w x) 0) here in
      omega (
        arith,
        e,
        once_seen (w x) x.file_id ids,
        all_seen w ids xs (λ z any. h z (or_right (same x.file_id z)
            (list_any (λ id. same id z) (map (λ (y : LabelInFile Id). y.file_id) xs)) any)),
        sum_by-cons (λ (x : LabelInFile Id). sum_by (λ id. cond (same id x.file_id) (w x) 0)
            (first_seen same ids))
            x xs,
        sum_by-cons w x xs,
      )

  files_sum : (k : ℕ) (config : Config) (file : Id → FileModel)
      → ((id : Id) → 0 < line_count (file id)) → (xs : List (LabelInFile Id))
      → sum_by (file_slots k config) (labeled_file_models same file xs) ≡ sum_by
      (λ (x : LabelInFile Id). label_slots k x.label) xs
  files_sum k config file some xs =
      let ids = first_seen same (map (λ (x : LabelInFile Id). x.file_id) xs) in
      sum-map (file_slots k config) (labeled_file_model same file xs) ids
      ∙ sum-ext (λ id. file_slots k config (labeled_file_model same file xs id))
      (λ id. sum_by (λ (x : LabelInFile Id). cond (same id x.file_id) (label_slots k x.label) 0)
      xs)
      (λ id. snippet_sum k config (labeled_file_model same file xs id) (some id)
      ∙ sum-map (label_slots k) (λ (x : LabelInFile Id). x.label)
      (filter (λ (x : LabelInFile Id). same id x.file_id) xs)
      ∙ sum-filter (λ (x : LabelInFile Id). label_slots k x.label)
      (λ (x : LabelInFile Id). same id
      x.file_id) xs)
      ids
      ∙ sum-swap (λ id (x : LabelInFile Id). cond (same id x.file_id) (label_slots k x.label) 0)
      ids
      xs
      ∙ all_seen (λ x. label_slots k x.label) (map (λ (x : LabelInFile Id). x.file_id) xs) xs
      (λ z any. any)

-- ---- slots instead of messages

pub slotted_slots : {Id : Type 0} (k n : ℕ) (x : LabelInFile Id)
    → label_slots k (slotted n x).label ≡ cond (n == k) (if has_message x.label then 1 else 0) 0
unfolding slots
slotted_slots k n x = by_tests (is_empty x.label.message) (n == k) refl refl
  where
    by_tests : (b c : Bool) → is_empty x.label.message ≡ b → (n == k) ≡ c
        → count_by (is_slot k) (if b then [] else Slot n ∷ [])
        ≡ cond c (if not b then 1 else 0) 0
    by_tests true true h i = refl
    by_tests true false h i = refl
    by_tests false true h i = let e = ap {B = ℕ} (λ b. cond b 1 0) i in omega (arith, e)
    by_tests false false h i = let e = ap {B = ℕ} (λ b. cond b 1 0) i in omega (arith, e)

module _ {Id : Type 0} (k : ℕ) where
  abbrev pub slotted_from : ℕ → List (LabelInFile Id) → List (LabelInFile Id)
  slotted_from n xs = map (λ (e : ℕ × LabelInFile Id). slotted e.0 e.1) (enumerate_from n xs)

  abbrev pub slotted_sum : List (LabelInFile Id) → ℕ
  slotted_sum ys = sum_by (λ (y : LabelInFile Id). label_slots k y.label) ys

  pub none_later : (n : ℕ) (xs : List (LabelInFile Id)) → k < n
      → slotted_sum (slotted_from n xs)
      ≡ 0
  none_later n [] h = refl
  none_later n (x ∷ xs) h =
      let other : (n == k) ≡ false = grind (arith, nat_tests) in
      let e = ap {B = ℕ} (λ b. cond b (if has_message x.label then 1 else 0) 0) other in
      omega (
        arith,
        e,
        slotted_slots k n x,
        none_later (n + 1) xs (omega arith),
        sum_by-cons (λ (y : LabelInFile Id). label_slots k y.label) (slotted n x)
            (slotted_from (n + 1) xs),
      )

  pub one_here : (n j : ℕ) (xs : List (LabelInFile Id)) (x : LabelInFile Id) → n + j ≡ k
      → slice_get xs j ≡ Some x
      → slotted_sum (slotted_from n xs) ≡ (if has_message x.label then 1 else 0)
  one_here n j [] x at h = cc
  one_here n zero (y ∷ ys) x at h =
      let is : y ≡ x = cc in
      let weight = ap {B = ℕ} (λ (z : LabelInFile Id). if has_message z.label then 1 else 0) is
      in
      let here : (n == k) ≡ true = grind (arith, nat_tests) in
      let e = ap {B = ℕ} (λ b. cond b (if has_message y.label then 1 else 0) 0) here in
      omega (
        arith,
        e,
        weight,
        slotted_slots k n y,
        none_later (n + 1) ys (omega arith),
        sum_by-cons (λ (y : LabelInFile Id). label_slots k y.label) (slotted n y)
            (slotted_from (n + 1) ys),
      )
  one_here n (suc j) (y ∷ ys) x at h =
      let other : (n == k) ≡ false = grind (arith, nat_tests) in
      let e = ap {B = ℕ} (λ b. cond b (if has_message y.label then 1 else 0) 0) other in
      omega (
        arith,
        e,
        slotted_slots k n y,
        one_here (n + 1) j ys x (omega arith) h,
        sum_by-cons (λ (y : LabelInFile Id). label_slots k y.label) (slotted n y)
            (slotted_from (n + 1) ys),
      )

pub each_once : {Id : Type 0} (context : RowContext) (config : Config) (same : Id → Id → Bool)
    (file : Id → FileModel) (header_text : HeaderText) (notes : List (List ℕ))
    (xs : List (LabelInFile Id)) (ps : List Locus)
    → length ps ≡ length (labeled_file_models same file (all_slotted xs))
    → IsEquivalence same → ((id : Id) → 0 < line_count (file id))
    → (k : ℕ) (x : LabelInFile Id)
    → slice_get xs k ≡ Some x
    → (width : Option ℕ)
    → AllByRecursion (FileCanFit width) (labeled_file_models same file (all_slotted xs))
    → count_by (is_slot k)
    (fitted_stream width context
    (rich_rows config header_text ps (labeled_file_models same file (all_slotted xs)) notes))
    ≡ (if has_message x.label then 1 else 0)
each_once context config same file header_text notes xs ps as_many law some k x at width can =
    let ss = labeled_file_models same file (all_slotted xs) in
    let rows = rich_rows config header_text ps ss notes in
    slots-is k (fitted_stream width context rows)
    ∙ slots-rows k context (map (fitted_row width context) rows)
    ∙ slots-fitted k context width rows (can-rich width config header_text ps ss notes can)
    ∙ rich_sum k config header_text ps ss notes as_many
    ∙ files_sum same law k config file some (all_slotted xs)
    ∙ one_here k 0 k xs x (omega arith) at
