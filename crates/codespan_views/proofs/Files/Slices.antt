-- A loop over the files takes the annotations of each file in order, for the clauses of
-- `find_numbers` and `render_snippets`.
use Rattle.codespan_core.proofs.Std.{take_rest, common_steps, ◌≡◌, ℕ, ◌+◌, ◌-◌}
use Rattle.codespan_core.proofs.Std.{◌≤◌, Bool, cond, List, [], ◌∷◌, ◌++◌, length}
use Rattle.codespan_core.proofs.Std.{take, drop, map, filter, refl, sym, ◌∙◌, ap, arith}
use Rattle.codespan_core.proofs.Std.{length-drop, prefix_len, IsSortedBy, take-append_seam, ne_eqb}
use Rattle.codespan_core.proofs.Std.{drop-drop, drop-map, take-map, length-map}
use Rattle.std.proofs.Math.Nat.{add-sub_cancel_left}
use Rattle.std.proofs.Math.Seq.{drop-append_seam}
use Rattle.std.proofs.lemmas.Bool.{leb-true}
use Rattle.codespan_views.specs.Private.{RustAnnotation, Annotation, is_before, is_of_file}
use Rattle.codespan_views.specs.Private.{annotation_view}
use Rattle.codespan_views.proofs.Annotations.Groups.{IsRising, from_number, from_number-first}
use Rattle.codespan_views.proofs.Annotations.Groups.{from_number-next, prefix-append}
use Rattle.codespan_views.proofs.Annotations.Order.{below_order, file_rises}
use Rattle.codespan_output.proofs.Utf8.ListElements.{all-weaker, all-pass}
use Rattle.codespan_output.proofs.Order.SortedLists.{Rises, rises-from_sorted}

-- ---- annotations

-- the annotations of files from f on
abbrev pub from_file : ℕ → List Annotation → List Annotation
from_file f xs = from_number (λ e. e.file_index) f xs

-- along annotations in order the files do not decrease
files-rise : (xs : List Annotation) → Rises is_before xs → IsRising (λ e. e.file_index) xs
files-rise [] a = tt
files-rise (x ∷ xs) a = grind (arith, common_steps, all-weaker, file_rises, files-rise xs)

-- all annotations are from the first file on
pub from_file-first : (xs : List Annotation) → xs ≡ from_file 0 xs
from_file-first xs = from_number-first (λ (e : Annotation). e.file_index) xs

-- a number of annotations at the start are of the file
own-len : (xs : List Annotation) (f : ℕ)
    → prefix_len (is_of_file f) (filter (is_of_file f) xs ++ from_file (f + 1) xs) ≡ length
    (filter (is_of_file f) xs)
own-len xs f = grind (arith, common_steps, prefix-append, all-pass, all-weaker, leb-true, ne_eqb)

-- ---- annotations as a view holds them

-- how many pass in front depends on their images alone
pub prefix-map : {X Y : Type 0} (f : X → Y) (p : Y → Bool) (xs : List X)
    → prefix_len p (map f xs) ≡ prefix_len (λ x. p (f x)) xs
prefix-map f p [] = refl
prefix-map f p (x ∷ xs) = ap (λ n. cond (p (f x)) (1 + n) 0) (prefix-map f p xs)

-- the next n elements, as a loop takes them
abbrev pub next_slice : {X : Type 0} → List X → ℕ → ℕ → List X
next_slice xs at n = take (at + n - at) (drop at xs)

-- the next n annotations are those of the file, and later files remain
pub record IsFileSlice {Id : Type 0} (xs : List (RustAnnotation Id)) (at n f : ℕ) : Type 0 where
  pub len : length (next_slice xs at n) ≡ n
  pub within : at + length (next_slice xs at n) ≤ length xs
  pub own : map annotation_view (next_slice xs at n) ≡ filter (is_of_file f)
      (map annotation_view xs)
  pub rest : drop (at + length (next_slice xs at n)) (map annotation_view xs) ≡ from_file (f + 1)
      (map annotation_view xs)

-- a loop over the files takes the annotations of the next one
pub next-file : {Id : Type 0} (xs : List (RustAnnotation Id)) (at n f : ℕ)
    → IsSortedBy is_before (map annotation_view xs) → at ≤ length xs
    → drop at (map annotation_view xs) ≡ from_file f (map annotation_view xs)
    → n ≡ prefix_len (λ e. is_of_file f (annotation_view e))
    (take (length xs - at) (drop at xs))
    → n ≤ length (take (length xs - at) (drop at xs)) → IsFileSlice xs at n f
next-file {Id} xs at n f up inside left is low =
    let view : RustAnnotation Id → Annotation = annotation_view in
    let ys = map view xs in
    let a = filter (is_of_file f) ys in
    let rises = files-rise ys (rises-from_sorted is_before below_order ys up) in
    let here : map view (drop at xs) ≡ a ++ from_file (f + 1) ys = sym (drop-map view at xs)
    ∙ left
    ∙ from_number-next (λ (e : Annotation). e.file_index) f ys rises in
    let counted : n ≡ length a = is
    ∙ rw (take_rest xs at, ← prefix-map view (is_of_file f) (drop at xs), here) (own-len ys f)
    in
    let front : map view (next_slice xs at n) ≡ a =
    rw (← take-map view (at + n - at) (drop at xs), here, add-sub_cancel_left at n, counted)
    (take-append_seam a (from_file (f + 1) ys)) in
    let long : length (next_slice xs at n) ≡ n =
    sym (length-map (next_slice xs at n) view) ∙ ap length front ∙ sym counted in
    record {
      len = long;
      within = omega (arith, long, low, ap length (take_rest xs at), length-drop at xs, inside);
      own = front;
      rest =
          ap (λ i. drop (at + i) ys) (long ∙ counted) ∙ sym (drop-drop (length a) at ys)
          ∙ ap (drop (length a)) (drop-map view at xs ∙ here) ∙ drop-append_seam a _;
    }
