-- For `lanes_join_corners`: each lane is one line, by the drawn lines of the file.
use Rattle.codespan_core.proofs.Std.{◌≡◌, ℕ, ◌<◌, Bool, true, false}
use Rattle.codespan_core.proofs.Std.{not, nat_le, List, [], ◌∷◌, ◌++◌, length, None, refl}
use Rattle.codespan_core.proofs.Std.{arith, AllByRecursion, count_by-le-length}
use Rattle.codespan_core.specs.FileModel.{line_of, line_count}
use Rattle.codespan_core.specs.Labels.{is_single, first_line, last_line}
use Rattle.codespan_core.specs.Lemmas.Lines.{line_of_below}
use Rattle.codespan_output.specs.Types.{Config, Layout}
use Rattle.codespan_output.specs.declared.lane_shapes.Shape.TheVariants.{Space}
use Rattle.codespan_output.specs.{is_shown, is_drawn, drawn_lines, SnippetStartRow, EmptyRow}
use Rattle.codespan_output.specs.{LabeledFileModel, line_at, rows_of_drawn, empty_row_after}
use Rattle.codespan_output.specs.{snippet, empty_lanes, LanesJoinCorners, NoneReversed, Locus}
use Rattle.codespan_output.proofs.Lanes.Ranges.{kept, has_lane-ordered, shown-by, shows-first}
use Rattle.codespan_output.proofs.Lanes.Ranges.{shows-last}
use Rattle.codespan_output.proofs.Lanes.LineLemmas.{Shows, whole_before, whole_later, one_line}
use Rattle.codespan_output.proofs.Lanes.DrawnRuns.{whole_from}

-- ---- the file

-- two bytes are on different lines only where there are lines
has_line : (starts : List ℕ) (a b : ℕ) → line_of starts a < line_of starts b
    → 0 < length starts
unfolding line_of
has_line starts a b h = omega (arith, count_by-le-length (λ s. nat_le s b) starts)

pub lanes_join_corners : (config : Config) (layout : Layout) (locus : Locus) (is_followed : Bool)
    (s : LabeledFileModel) → NoneReversed s.labels
    → LanesJoinCorners layout s (snippet config locus s ++ empty_row_after is_followed s)
lanes_join_corners config layout locus is_followed s ordered = λ lane x has.
    let several = has_lane-ordered s lane x ordered has in
    let inside = (kept (λ x. not (is_single s.file x)) s.labels lane x has).0 in
    let some : 0 < line_count s.file = has_line s.file.starts x.start x.end several in
    let low = line_of_below s.file.starts x.start some in
    let high = line_of_below s.file.starts x.end some in
    one_line layout s (snippet config locus s ++ empty_row_after is_followed s) lane x
    (whole_before layout lane (line_at s (first_line s.file x)) (snippet config locus s)
    (empty_row_after is_followed s)
    (whole_later layout lane (line_at s (first_line s.file x))
    (SnippetStartRow locus ∷ EmptyRow (empty_lanes s) ∷ [])
    (rows_of_drawn s None (drawn_lines config s.file s.labels))
    (refl, (refl, tt))
    (whole_from layout s lane x has several (is_drawn config s.file s.labels) None 0
    (line_count s.file) (omega arith) (omega arith)
    (drawn (first_line s.file x)
    (shown-by config s x (first_line s.file x) inside low
    (shows-first config (first_line s.file x) (last_line s.file x))))
    (drawn (last_line s.file x)
    (shown-by config s x (last_line s.file x) inside high
    (shows-last config (first_line s.file x) (last_line s.file x))))))
    (ended lane is_followed))
  where
    ended : (lane : ℕ) (is_followed : Bool)
        → AllByRecursion (Shows layout lane Space) (empty_row_after is_followed s)
    ended lane true = (refl, tt)
    ended lane false = tt

    drawn : (l : ℕ) → is_shown config s.file s.labels l ≡ true
        → is_drawn config s.file s.labels l ≡ true
    drawn l h = simp h
