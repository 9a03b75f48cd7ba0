-- The turn of a file in a loop over the files, by the index of its id, for the clauses of
-- `find_numbers` and `render_snippets`.
use Rattle.codespan_core.proofs.Std.{common_steps, ◌≡◌, ℕ, suc, ◌+◌, ◌-◌, ◌≤◌}
use Rattle.codespan_core.proofs.Std.{true, List, [], ◌∷◌, length, take, drop, map, filter}
use Rattle.codespan_core.proofs.Std.{refl, sym, ap, subst, arith, All, flat_map, AllByRecursion}
use Rattle.codespan_core.proofs.Std.{prefix_len, IsSortedBy, eqb-true, All-from_recursion}
use Rattle.codespan_core.specs.FileModel.{FileModel}
use Rattle.codespan_views.specs.Private.{RustAnnotation, RustFile, Annotation, is_before}
use Rattle.codespan_views.specs.Private.{is_of_file, IsLineOf, IsOfFiles, annotation_view, ids_view}
use Rattle.codespan_views.specs.Private.{IsIdAt, flat_map_indexed, lines_at, lines_of}
use Rattle.codespan_views.proofs.Files.Slices.{IsFileSlice, from_file, next-file, next_slice}
use Rattle.codespan_views.proofs.Files.InOrder.{is-id}
use Rattle.codespan_views.proofs.Annotations.IndexedElements.{IsElementAt}
use Rattle.codespan_output.proofs.Utf8.ListElements.{all-both, all-mapped, all-slice, all-pass}
use Rattle.codespan_output.proofs.Utf8.ListElements.{all-weaker}

-- ---- ids at their indices

-- ids that have the same at their indices
pub flat_map_indexed-same : {Id A : Type 0} (image : ℕ → Id → List A) (each : Id → List A)
    (k : ℕ)
    (js : List Id)
    → ((i : ℕ) (id : Id) → IsIdAt js i id → image (k + i) id ≡ each id)
    → flat_map_indexed image k js ≡ flat_map each js
flat_map_indexed-same image each k [] same = refl
flat_map_indexed-same {Id} {A} image each k (j ∷ js) same = grind (
  arith,
  common_steps,
  same 0 j,
  flat_map_indexed-same image each (k + 1) js
      (λ i id at. grind (arith, common_steps, same (suc i) id)),
)

module _ {Id : Type 0} (file : Id → FileModel) where
  -- the annotations of a file are of lines that it has
  slice-lines : (ids : List Id) (xs : List (RustAnnotation Id)) (at n f : ℕ) (id : Id)
      (ys : List Annotation)
      → IsIdAt ids f id → AllByRecursion (IsOfFiles file ids) xs
      → map annotation_view (take n (drop at xs)) ≡ filter (is_of_file f) ys
      → AllByRecursion (λ e. IsLineOf (file id) e.line) (take n (drop at xs))
  slice-lines ids xs at n f id ys is_at lines own =
      let slice = take n (drop at xs) in
      let of_file = all-mapped annotation_view (λ e. is_of_file f e ≡ true) slice
      (rw own (all-pass (is_of_file f) ys)) in
      all-weaker _ _
      (λ e h. h.1 id (subst (λ k. IsIdAt ids k id) (sym (eqb-true e.file_index f h.0)) is_at))
      slice
      (all-both _ _ slice of_file (all-slice (IsOfFiles file ids) at n xs lines))

-- ---- the turn of a file

-- a loop over the files is at one of them: the annotations from an index on are those of it and of
-- later files, and its own are counted
pub record IsAtFile {Id : Type 0} (files : List (RustFile Id)) (xs : List (RustAnnotation Id))
    (at n k : ℕ) (f : RustFile Id) : Type 0 where
  pub up : IsSortedBy is_before (map annotation_view xs)
  pub inside : at ≤ length xs
  pub left : drop at (map annotation_view xs) ≡ from_file k (map annotation_view xs)
  pub counted : n ≡ prefix_len (λ e. is_of_file k (annotation_view e))
      (take (length xs - at) (drop at xs))
  pub within : n ≤ length (take (length xs - at) (drop at xs))
  pub here : IsElementAt files k f

module _ {Id : Type 0} {files : List (RustFile Id)} {xs : List (RustAnnotation Id)} {at n k : ℕ}
    {f : RustFile Id} (turn : IsAtFile files xs at n k f) where
  -- the annotations of the file
  own_slice : IsFileSlice xs at n k
  own_slice = next-file xs at n k turn.up turn.inside turn.left turn.counted turn.within

  module _ {zs : List (RustAnnotation Id)} (same : zs ≡ xs) where
    -- it is the same in an equal list
    own_annotations : map annotation_view (next_slice zs at n) ≡ filter (is_of_file k)
        (map annotation_view xs)
    own_annotations = grind (arith, common_steps, own_slice)

    -- its lines are the file's
    pub own_lines : (file : Id → FileModel)
        → AllByRecursion (IsOfFiles file (ids_view files)) xs
        → All (λ e. IsLineOf (file f.file_id) e.line) (next_slice zs at n)
    own_lines file lines =
        All-from_recursion _ (next_slice zs at n)
        (slice-lines file (ids_view files) zs at (at + n - at) k f.file_id (map annotation_view xs)
        (is-id turn.here) (rw same lines) own_annotations)

    -- so are its snippet lines
    pub own_snippet_lines : lines_of (map annotation_view (next_slice zs at n)) ≡ lines_at
        (map annotation_view xs) k
    own_snippet_lines = ap lines_of own_annotations

  -- the next file's turn is after it
  pub next_inside : at + n ≤ length xs
  next_inside = omega (arith, own_slice.within, own_slice.len)

  -- later files remain there
  pub next_left : drop (at + n) (map annotation_view xs) ≡ from_file (k + 1)
      (map annotation_view xs)
  next_left = grind (arith, common_steps, own_slice)
