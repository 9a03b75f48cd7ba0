-- For `FittedIsLine` and `ShortenedIsLine`: what is kept of a line that fits a width.
use Rattle.codespan_core.proofs.Std.{ℕ, ◌-◌, ◌≤◌, nat_le, List, [], ◌∷◌, length, Option, Some, None}
use Rattle.codespan_core.proofs.Std.{refl, cond_both, AllByRecursion}
use Rattle.codespan_core.specs.Labels.{LabelModel, LaneMark, MultiLabel, Top, Left, Bottom}
use Rattle.codespan_output.specs.{PiecesAreLine, Line, RowContext, first_byte, last_byte}
use Rattle.codespan_output.specs.{whole_span, end_spans, parts_of, pieces_of, fits_at, chosen_parts}
use Rattle.codespan_output.specs.{shortened, fitted_pieces, leading_whitespace, IsFittable}
use Rattle.codespan_output.specs.{line_cells, room, greatest, past_end}
use Rattle.codespan_output.proofs.Fitting.KeptLabels.{KeepsLabels, EndsAreKept, MarkEndIsKept}
use Rattle.codespan_output.proofs.Fitting.KeptLabels.{line-keeps}
use Rattle.codespan_output.proofs.Fitting.ShownParts.{HasEnds, made-line, whole-ends, ends-ends}
use Rattle.codespan_output.proofs.Utf8.ListElements.{all-weaker}

whole-all : (n : ℕ) (xs : List LabelModel)
    → AllByRecursion (λ (x : LabelModel). first_byte n x.start ≤ last_byte n x.end) xs
    → AllByRecursion (HasEnds whole_span n) xs
whole-all n xs h =
    all-weaker (λ (x : LabelModel). first_byte n x.start ≤ last_byte n x.end)
    (HasEnds whole_span n) (whole-ends n) xs h

pub ends-all : (n : ℕ) (xs : List LabelModel) → AllByRecursion (HasEnds end_spans n) xs
ends-all n [] = tt
ends-all n (x ∷ xs) = (ends-ends n x, ends-all n xs)

-- of a line that is shortened
pub shortened-line : (cells tab : ℕ) (line : Line) → IsFittable line
    → PiecesAreLine tab line (shortened cells tab line)
shortened-line cells tab line h =
    let radius = greatest (fits_at cells (chosen_parts cells tab line)) cells in
    cond_both (fits_at cells (parts_of whole_span tab line) 0) (parts_of whole_span tab line)
    (parts_of end_spans tab line) (λ parts. PiecesAreLine tab line (pieces_of radius parts))
    (λ _. made-line whole_span radius tab line h
    (whole-all (length line.text) line.labels h.forward))
    (λ _. made-line end_spans radius tab line h (ends-all (length line.text) line.labels))

-- where nothing is left out all is kept
pub whole-keeps : (tab : ℕ) (line : Line) → KeepsLabels tab [] line
whole-keeps tab line = record {
  short = tt;
  spell = tt;
  labels = all line.labels;
  marks = all_marks line.lanes.lane_marks;
}
  where
    all : (xs : List LabelModel) → AllByRecursion (EndsAreKept []) xs
    all [] = tt
    all (x ∷ xs) = (record { start = refl; end = refl }, all xs)

    mark : (m : MultiLabel) → MarkEndIsKept [] (leading_whitespace line.text) m
    mark (Top start) = (refl, λ _ x least less. refl)
    mark Left = tt
    mark (Bottom end message) = refl

    all_marks : (ms : List LaneMark)
        → AllByRecursion
        (λ (m : LaneMark). MarkEndIsKept [] (leading_whitespace line.text) m.multi_label) ms
    all_marks [] = tt
    all_marks (m ∷ ms) = (mark m.multi_label, all_marks ms)

pub fitted-keeps : (width : Option ℕ) (context : RowContext) (line : Line) → IsFittable line
    → KeepsLabels context.tab_width (fitted_pieces width context line) line
fitted-keeps None context line h = whole-keeps context.tab_width line
fitted-keeps (Some width) context line h =
    let tab = context.tab_width in
    let cells = room width context.padding line.lanes - past_end line in
    cond_both (nat_le (line_cells tab line) (room width context.padding line.lanes)) []
    (shortened cells tab line) (λ ps. KeepsLabels tab ps line) (λ _. whole-keeps tab line)
    (λ _. line-keeps tab line (shortened cells tab line) (shortened-line cells tab line h))
