-- The snippet lines of annotations as a view has them, group by group, for the clauses
-- of `render_lines`, `skip_hidden` and `find_numbers_of_file`.
use Rattle.codespan_core.proofs.Std.{take_rest, Bool, ◌≡◌, ℕ, suc, ◌-◌, ◌<◌}
use Rattle.codespan_core.proofs.Std.{◌≤◌, true, false, List, [], ◌∷◌, ◌++◌, map}
use Rattle.codespan_core.proofs.Std.{length, take, drop, Option, Some, None, refl, ap, arith}
use Rattle.codespan_core.proofs.Std.{common_steps, All, slice_get, prefix_len, eq-eqb, ◌∙◌}
use Rattle.codespan_core.proofs.Std.{drop-map, length-drop, take-map}
use Rattle.std.proofs.lemmas.List.Elements.{All-drop}
use Rattle.std.proofs.lemmas.Option.{get_or_from_slice_get, slice_get_within}
use Rattle.codespan_views.specs.Private.{RustAnnotation, Annotation, is_on_line, shows_line}
use Rattle.codespan_views.specs.Private.{annotation_view, Labeled, SnippetLine, groups, lines_from}
use Rattle.codespan_views.specs.Private.{IsGapBefore, gap_lines}
use Rattle.codespan_views.proofs.Annotations.Groups.{groups-cons}
use Rattle.codespan_views.proofs.Files.Slices.{prefix-map}

-- the annotations, as the definitions have them
abbrev pub views_of : {Id : Type 0} → List (RustAnnotation Id) → List Annotation
views_of xs = map annotation_view xs

-- the snippet lines of the annotations that are left, after those of a hidden line
abbrev pub lines_left : {Id : Type 0} → List (RustAnnotation Id) → List (RustAnnotation Id)
    → Option ℕ → List SnippetLine
lines_left hidden rest previous = lines_from previous (views_of hidden) (groups (views_of rest))

-- without annotations none are left
pub lines_left-none : {Id : Type 0} (hidden rest : List (RustAnnotation Id)) (previous : Option ℕ)
    → slice_get rest 0 ≡ None → lines_left hidden rest previous ≡ []
lines_left-none hidden [] previous none = refl
lines_left-none hidden (x ∷ xs) previous none = absurd (cc none)

-- the annotations from an index on, as a loop takes them
abbrev pub later_than : {Id : Type 0} → ℕ → List (RustAnnotation Id)
    → List (RustAnnotation Id)
later_than n rest = take (length rest - n) (drop n rest)

-- they are all that are left
pub later-are : {Id : Type 0} (n : ℕ) (rest : List (RustAnnotation Id))
    → later_than n rest ≡ drop n rest
later-are n rest = take_rest rest n

-- what is known of all annotations is known of the later ones
pub later-known : {Id : Type 0} (P : RustAnnotation Id → Type 0)
    (xs later : List (RustAnnotation Id))
    → later ≡ drop (length xs - length later) xs → All P xs → All P later
later-known P xs later is all = grind (arith, common_steps, All-drop)

-- what is before the shown line of the first n annotations, where so many lines are between it and
-- the shown line before it
abbrev pub gap_of : {Id : Type 0} → List (RustAnnotation Id) → List (RustAnnotation Id)
    → RustAnnotation Id → ℕ → ℕ → List SnippetLine
gap_of hidden rest x n m = gap_lines (views_of hidden) (views_of (take n rest)) x.line.index m

-- the line
abbrev pub shown_of : {Id : Type 0} → List (RustAnnotation Id) → RustAnnotation Id → ℕ
    → SnippetLine
shown_of rest x n = Labeled x.line.index (views_of (take n rest))

-- what is after it
abbrev pub later_of : {Id : Type 0} → List (RustAnnotation Id) → RustAnnotation Id → ℕ
    → List SnippetLine
later_of rest x n = lines_left [] (later_than n rest) (Some x.line.index)

-- this is the first of the annotations that are left, and so many are of its line
pub record IsNextGroup {Id : Type 0} (rest : List (RustAnnotation Id)) (x : RustAnnotation Id)
    (n : ℕ) : Type 0 where
  pub first : slice_get rest 0 ≡ Some x
  pub counted : n ≡ prefix_len (λ e. is_on_line x.line.index (annotation_view e)) rest

-- these are then the next group
record IsGroup {Id : Type 0} (rest : List (RustAnnotation Id)) (x : RustAnnotation Id) (n : ℕ)
    : Type 0 where
  some : 0 < n
  others : List (RustAnnotation Id)
  taken : take n rest ≡ x ∷ others
  groups_are : groups (views_of rest)
      ≡ views_of (x ∷ others) ∷ groups (views_of (drop n rest))

next_group : {Id : Type 0} (rest : List (RustAnnotation Id)) (x : RustAnnotation Id) (n : ℕ)
    → IsNextGroup rest x n → IsGroup rest x n
next_group [] x n next = absurd (cc next.first)
next_group {Id} (y ∷ ys) x n next =
    let on : RustAnnotation Id → Bool = λ e. is_on_line x.line.index (annotation_view e) in
    let same : y ≡ x = cc next.first in
    let own : on y ≡ true = rw same (eq-eqb x.line.index x.line.index refl) in
    let counted : n ≡ suc (prefix_len on ys) = next.counted ∙ rw own (omega arith) in
    let in_views : prefix_len (is_on_line x.line.index) (views_of ys) ≡ prefix_len on ys =
    prefix-map annotation_view (is_on_line x.line.index) ys in
    record {
      some = omega (arith, counted);
      others = take (prefix_len on ys) ys;
      taken = rw (counted, same) refl;
      groups_are = rw (same, counted, groups-cons (annotation_view x) (views_of ys), in_views)
          (rw (take-map, drop-map) refl);
    }

module _ {Id : Type 0} {rest : List (RustAnnotation Id)} {x : RustAnnotation Id} {n : ℕ}
    (next : IsNextGroup rest x n) where
  group : IsGroup rest x n
  group = next_group rest x n next

  -- fewer are left after it
  pub later-fewer : n ≤ length rest → length (later_than n rest) < length rest
  later-fewer within =
      omega (arith, within, group.some, ap length (later-are n rest), length-drop n rest)

  -- what is known of all that are left is known of it
  pub first-of : (P : RustAnnotation Id → Type 0) → All P rest → P x
  first-of P all = grind (arith, common_steps, get_or_from_slice_get, slice_get_within)

  module _ (previous : Option ℕ) (hidden : List (RustAnnotation Id)) where
    -- a shown line is next: what is before it, the line, and the others, where so many lines are
    -- between it and the shown line before it
    pub views_of-gap : (m : ℕ) → shows_line (annotation_view x) ≡ true
        → IsGapBefore previous x.line.index m
        → lines_left hidden rest previous ≡ gap_of hidden rest x n m
        ++ shown_of rest x n ∷ later_of rest x n
    views_of-gap m t gap =
        rw (group.groups_are, group.taken, later-are n rest, t)
        (ap (λ xs. xs ++ Labeled x.line.index (views_of (x ∷ group.others))
        ∷ lines_left [] (drop n rest) (Some x.line.index))
        (gap (views_of hidden) (views_of (x ∷ group.others))))

    -- a hidden line is next: the others
    pub views_of-hidden : shows_line (annotation_view x) ≡ false
        → lines_left hidden rest previous
        ≡ lines_left (take n rest) (later_than n rest) previous
    views_of-hidden f = rw (group.groups_are, group.taken, later-are n rest, f) refl
