-- For `breaks_replace_lines`: there are break rows where shown lines are three or more apart.
use Rattle.codespan_core.proofs.Std.{◌≡◌, ℕ, ◌+◌, Bool, true, false, cond, ◌==◌}
use Rattle.codespan_core.proofs.Std.{nat_le, List, [], ◌∷◌, ◌++◌, map, filter, filter_map}
use Rattle.codespan_core.proofs.Std.{reverse, Some, None, refl, ap, ap₂, ◌∙◌, append-nil}
use Rattle.codespan_core.proofs.Std.{arith, filter_map-append, nat_tests}
use Rattle.codespan_core.specs.Labels.{LabelModel, LaneMark}
use Rattle.codespan_output.specs.Types.{Config}
use Rattle.codespan_output.specs.{leading_whitespace, Row, Line, SourceRow, HangingRow}
use Rattle.codespan_output.specs.{UnderlineRow, BreakRow, rows_of, hanging_labels, has_underline}
use Rattle.codespan_output.specs.{gap_between, LabeledFileModel, line_at, rows_of_shown}
use Rattle.codespan_output.specs.{break_lanes, lines_after_breaks, shown_lines, BreaksReplaceLines}
use Rattle.codespan_output.specs.{RowsAreOfShownLines, Locus, empty_row_after, snippet}
use Rattle.codespan_output.specs.Rows.{Lanes}
use Rattle.codespan_output.specs.Private.{caret_rows, pointer_and_hanging_rows, underline_rows}
use Rattle.codespan_output.specs.Private.{line_rows, break_rows}

-- ---- rows that are not breaks

breaks-append : (xs ys : List Row)
    → filter_map break_lanes (xs ++ ys) ≡ filter_map break_lanes xs ++ filter_map break_lanes ys
breaks-append xs ys = filter_map-append break_lanes xs ys

breaks-map : {X : Type 0} (f : X → Row) (xs : List X) → ((x : X) → break_lanes (f x) ≡ None)
    → filter_map break_lanes (map f xs) ≡ []
breaks-map f [] h = refl
breaks-map f (x ∷ xs) h = simp (h x) (breaks-map f xs h)

no_break_caret : (line : Line) (labels : List LabelModel)
    → filter_map break_lanes (caret_rows line labels) ≡ []
no_break_caret line [] = refl
no_break_caret line (x ∷ xs) = refl

no_break_hanging : (line : Line) (labels : List LabelModel)
    → filter_map break_lanes (pointer_and_hanging_rows line labels) ≡ []
no_break_hanging line [] = refl
no_break_hanging line (x ∷ xs) = breaks-map (HangingRow line) (reverse (x ∷ xs)) (λ y. refl)

no_break_line : (line : Line) → filter_map break_lanes (rows_of line) ≡ []
no_break_line line =
    breaks-append
    ((SourceRow line ∷ caret_rows line line.labels)
    ++ pointer_and_hanging_rows line (hanging_labels line.labels))
    (underline_rows line)
    ∙ ap₂ (λ s t. s ++ t)
    (breaks-append (SourceRow line ∷ caret_rows line line.labels)
    (pointer_and_hanging_rows line (hanging_labels line.labels))
    ∙ ap₂ (λ s t. s ++ t) (no_break_caret line line.labels)
    (no_break_hanging line (hanging_labels line.labels)))
    (breaks-map (UnderlineRow line)
    (filter (λ (m : LaneMark). has_underline (leading_whitespace line.text) m.multi_label)
    line.lanes.lane_marks)
    (λ m. refl))

-- ---- the breaks between drawn lines

breaks_of : (line : ℕ → Line) (c : ℕ) (ls : List ℕ)
    → filter_map break_lanes (rows_of_shown line (Some c) ls) ≡ map (λ l. (line l).lanes)
    (lines_after_breaks (c ∷ ls))
breaks_of line c [] = refl
breaks_of line c (d ∷ more) =
    breaks-append (gap c d ++ rows_of (line d)) (rows_of_shown line (Some d) more)
    ∙ ap₂ (λ s t. s ++ t)
    (breaks-append (gap c d) (rows_of (line d))
    ∙ ap (λ t. filter_map break_lanes (gap c d) ++ t) (no_break_line (line d)))
    (breaks_of line d more)
    ∙ by_tests (d == c + 2) (nat_le (c + 3) d) refl refl
  where
    gap : ℕ → ℕ → List Row
    gap = gap_between (line_rows line) (break_rows line)

    rest : List Lanes
    rest = map (λ l. (line l).lanes) (lines_after_breaks (d ∷ more))

    by_tests : (b e : Bool) → (d == c + 2) ≡ b → nat_le (c + 3) d ≡ e
        → (filter_map break_lanes
        (cond b (rows_of (line (c + 1))) (cond e (BreakRow (line d).lanes ∷ []) [])) ++ [])
        ++ rest
        ≡ map (λ l. (line l).lanes)
        ((cond e (d ∷ []) [] ++ []) ++ lines_after_breaks (d ∷ more))
    by_tests true true two far = absurd (grind (arith, nat_tests))
    by_tests true false two near = ap (λ s. (s ++ []) ++ rest) (no_break_line (line (c + 1)))
    by_tests false true other far = refl
    by_tests false false other near = refl

breaks_from_start : (line : ℕ → Line) (ls : List ℕ)
    → filter_map break_lanes (rows_of_shown line None ls) ≡ map (λ l. (line l).lanes)
    (lines_after_breaks ls)
breaks_from_start line [] = refl
breaks_from_start line (d ∷ more) =
    breaks-append (rows_of (line d)) (rows_of_shown line (Some d) more)
    ∙ ap₂ (λ s t. s ++ t) (no_break_line (line d)) (breaks_of line d more)

no_break_after : (followed : Bool) (s : LabeledFileModel)
    → filter_map break_lanes (empty_row_after followed s) ≡ []
no_break_after true s = refl
no_break_after false s = refl

pub breaks_replace_lines : (config : Config) (locus : Locus) (followed : Bool)
    (s : LabeledFileModel) → RowsAreOfShownLines config s
    → BreaksReplaceLines config s (snippet config locus s ++ empty_row_after followed s)
breaks_replace_lines config locus followed s drawn =
    breaks-append (snippet config locus s) (empty_row_after followed s)
    ∙ ap₂ (λ s t. s ++ t)
    (ap (filter_map break_lanes) drawn ∙ breaks_from_start (line_at s) (shown_lines config s))
    (no_break_after followed s)
    ∙ append-nil (map (λ l. (line_at s l).lanes) (lines_after_breaks (shown_lines config s)))
