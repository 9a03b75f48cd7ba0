-- The rows of the snippet lines of shown lines, and the lines that they show and fill in, for the
-- clauses of `render_snippets` and `RichDiagnostic::render`.
use Rattle.codespan_core.proofs.Std.{rules, map-id, arith, common_steps, ◌≡◌, ℕ, ◌≤◌}
use Rattle.codespan_core.proofs.Std.{Bool, true, false, not, cond, ◌&&◌, List, [], ◌∷◌}
use Rattle.codespan_core.proofs.Std.{filter, flat_map, Option, None, refl, sym, ◌∙◌}
use Rattle.codespan_core.proofs.Std.{range_with_len, AllByRecursion, append-nil}
use Rattle.codespan_core.proofs.Std.{if◌then◌else◌}
use Rattle.std.proofs.lemmas.List.Concat.{flat_map_single}
use Rattle.codespan_core.specs.FileModel.{FileModel}
use Rattle.codespan_output.specs.Rows.{Line}
use Rattle.codespan_output.specs.Sequences.{break_between, in_sequence}
use Rattle.codespan_views.specs.Private.{Annotation, SnippetLine, Labeled, Filled, Break}
use Rattle.codespan_views.specs.Private.{line_of_group, rows_of_line, rows_of_lines, filled_line_of}
use Rattle.codespan_views.specs.Private.{filled_lines_of, drawn_line_of, drawn_lines_of}
use Rattle.codespan_views.specs.Private.{are_annotations_in_order, are_lane_marks_in_order}
use Rattle.codespan_views.specs.Private.{is_line_in_order, IsLineFittable}
use Rattle.codespan_output.specs.FittedLineLaws.{IsFittable}
use Rattle.codespan_output.proofs.DrawnLines.Filling.{given, is_drawn_among, lines-shown}
use Rattle.codespan_output.proofs.Utf8.Sequences.{all-gap, all-sequence, flat_map-gap}
use Rattle.codespan_output.proofs.Utf8.Sequences.{flat_map-sequence, sequence-flat}
use Rattle.codespan_views.proofs.Annotations.Groups.{lines_after}
use Rattle.codespan_output.specs.Private.LineRows.{line_rows, break_rows}

-- ---- the elements of snippet lines

-- the elements of the snippet lines of shown lines are those of the drawn lines with the breaks
-- between them, where a line that is not shown has the elements of one that is filled in
snippet_lines-rendered : {A : Type 0} (image : SnippetLine → List A) (m : ℕ → List Annotation)
    (shown : ℕ → Bool) (own : ℕ → List A)
    → ((l : ℕ)
    → own l ≡ given (λ l. image (Labeled l (m l))) (λ l. image (Filled l (m l)))
    (λ d. image (Break (m d))) shown l)
    → (n : ℕ) → ((l : ℕ) → n ≤ l → shown l ≡ false)
    → flat_map image (lines_after m None (filter shown (range_with_len 0 n)))
    ≡ in_sequence (λ l. l) (break_between (λ d. image (Break (m d)))) own None
    (filter (is_drawn_among shown) (range_with_len 0 n))
snippet_lines-rendered image m shown own are n none =
    simp (flat_map-sequence, flat_map-gap, append-nil)
    (sym (lines-shown (λ l. image (Labeled l (m l))) (λ l. image (Filled l (m l)))
    (λ d. image (Break (m d))) shown own are n none))

-- what a test chooses of two that are the same
chosen : {X : Type 0} (b : Bool) (x : X) → x ≡ cond b x x
chosen b x = grind (arith, common_steps)

-- ---- rows

module _ (f : FileModel) (count : ℕ) (m : ℕ → List Annotation) where
  -- a line with what its annotations do on it
  abbrev line : ℕ → Line
  line l = line_of_group f count l (m l)

  -- the snippet lines of shown lines make the rows of the drawn lines
  pub snippet_lines-rows : (shown : ℕ → Bool) (n : ℕ)
      → ((l : ℕ) → n ≤ l → shown l ≡ false)
      → rows_of_lines f count (lines_after m None (filter shown (range_with_len 0 n)))
      ≡ in_sequence (λ l. l) (break_between (break_rows line)) (line_rows line) None
      (filter (is_drawn_among shown) (range_with_len 0 n))
  snippet_lines-rows shown =
      snippet_lines-rendered (rows_of_line f count) m shown (line_rows line)
      (λ l. chosen (shown l) (line_rows line l))

-- ---- labels in order

-- the labels of all snippet lines are in order, and their lane marks in so many lanes
pub snippet_lines-fit : (count : ℕ) (m : ℕ → List Annotation)
    → ((l : ℕ) → are_annotations_in_order count (m l) ≡ true)
    → ((l : ℕ) → are_lane_marks_in_order count (m l) ≡ true)
    → (previous : Option ℕ) (ds : List ℕ)
    → AllByRecursion (λ snippet_line. is_line_in_order count snippet_line ≡ true)
    (lines_after m previous ds)
snippet_lines-fit count m fit lane_marks_fit previous ds = search
    (rules, all-sequence, all-gap, fit, lane_marks_fit)

-- each snippet line can be fitted to a width
pub snippet_lines-fittable : (f : FileModel) (count : ℕ) (m : ℕ → List Annotation)
    → ((l : ℕ) → IsFittable (line_of_group f count l (m l)))
    → (previous : Option ℕ) (ds : List ℕ)
    → AllByRecursion (IsLineFittable f count) (lines_after m previous ds)
snippet_lines-fittable f count m fittable previous ds = search
    (rules, all-sequence, all-gap, fittable)

-- ---- the lines of snippet lines

module _ (m : ℕ → List Annotation) (shown : ℕ → Bool) where
  -- the snippet lines are the shown lines and those between two of them
  pub snippet_lines-lines : (n : ℕ) → ((l : ℕ) → n ≤ l → shown l ≡ false)
      → drawn_lines_of (lines_after m None (filter shown (range_with_len 0 n))) ≡ filter
      (is_drawn_among shown) (range_with_len 0 n)
  snippet_lines-lines n none =
      snippet_lines-rendered drawn_line_of m shown (λ l. l ∷ [])
      (λ l. chosen (shown l) (l ∷ [])) n none
      ∙ sequence-flat (λ l. l) (λ l. l ∷ []) None
      (filter (is_drawn_among shown) (range_with_len 0 n))
      ∙ flat_map_single (λ l. l) (filter (is_drawn_among shown) (range_with_len 0 n))
      ∙ map-id _

  -- what a line fills in
  abbrev fill : ℕ → List ℕ
  fill l = if shown l then [] else l ∷ []

  -- the lines that are filled in are drawn and not shown
  all_fills : (ls : List ℕ)
      → flat_map fill (filter (is_drawn_among shown) ls) ≡ filter
      (λ l. is_drawn_among shown l && not (shown l)) ls
  all_fills [] = refl
  all_fills (l ∷ ls) = grind (arith, common_steps, all_fills ls)

  -- the snippet lines fill in the lines between two shown ones
  pub snippet_lines-fills : (n : ℕ) → ((l : ℕ) → n ≤ l → shown l ≡ false)
      → filled_lines_of (lines_after m None (filter shown (range_with_len 0 n))) ≡ filter
      (λ l. is_drawn_among shown l && not (shown l)) (range_with_len 0 n)
  snippet_lines-fills n none =
      snippet_lines-rendered filled_line_of m shown fill (λ l. refl) n none
      ∙ sequence-flat (λ l. l) fill None (filter (is_drawn_among shown) (range_with_len 0 n))
      ∙ all_fills (range_with_len 0 n)
