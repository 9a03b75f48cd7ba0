-- For `fit_line` and what it calls: which radius and which pieces a line has.
use Rattle.codespan_core.proofs.Std.{◌≡◌, ℕ, zero, suc, ◌+◌, ◌<◌, Bool, true}
use Rattle.codespan_core.proofs.Std.{false, List, []}
use Rattle.codespan_core.proofs.Std.{nat_le, refl, ap, sym, ◌∙◌, ⊎_elim}
use Rattle.codespan_core.proofs.Std.{cases_Bool}
use Rattle.codespan_core.proofs.Std.{chars}
use Rattle.codespan_core.specs.Labels.{LabelModel, LaneMark}
use Rattle.codespan_output.specs.FittedParts.{Part}
use Rattle.codespan_output.specs.FittedParts.{chosen_parts, fits_at, greatest}
use Rattle.codespan_output.specs.FittedParts.{parts_from, parts_of}
use Rattle.codespan_output.specs.FittedParts.{pieces_of, shortened, end_spans}
use Rattle.codespan_output.specs.FittedParts.{needed_spans, units_of, whole_span}
use Rattle.std.proofs.lemmas.Str.{chars-nil}
use Rattle.codespan_output.specs.Rows.{Line}
use Rattle.codespan_fitting.specs.declared.gap.Gap as gap
use Rattle.codespan_fitting.specs.Gaps.{gap_cells, placed_gaps}
use Rattle.codespan_fitting.specs.Parts.{gaps_from, needed_cells, part_units}
use Rattle.codespan_fitting.proofs.CutLemmas.PieceUnits.{parts-units}
use Rattle.codespan_fitting.proofs.LineParts.{line-fits, line-past}

-- ---- the radius

-- two tests that agree have the same greatest number
greatest-same : (p q : ℕ → Bool) (n : ℕ) → ((r : ℕ) → p r ≡ q r)
    → greatest p n ≡ greatest q n
greatest-same p q zero same = refl
greatest-same p q (suc n) same = rw (same (suc n), greatest-same p q n same) refl

-- where none passes it is 0
greatest-none : (p : ℕ → Bool) (n : ℕ) → ((r : ℕ) → p r ≡ false) → 0 ≡ greatest p n
greatest-none p zero fail = refl
greatest-none p (suc n) fail = rw (fail (suc n)) (greatest-none p n fail)

-- the greatest radius of a line, by that of its gaps
pub radius-some : (tab left rest n : ℕ) (text : List ℕ) (gaps : List gap.Gap)
    (parts : List Part)
    → placed_gaps tab text gaps ≡ gaps_from 0 parts → rest + needed_cells parts ≡ left
    → greatest (λ r. nat_le (gap_cells r tab text gaps) rest) n
    ≡ greatest (fits_at left parts) n
radius-some tab left rest n text gaps parts are is =
    greatest-same (λ r. nat_le (gap_cells r tab text gaps) rest) (fits_at left parts) n
    (λ r. sym (line-fits tab text parts gaps are left rest r is))

-- where what has to be shown has too many cells
pub radius-none : (tab left n : ℕ) (text : List ℕ) (gaps : List gap.Gap) (parts : List Part)
    → placed_gaps tab text gaps ≡ gaps_from 0 parts → left < needed_cells parts
    → 0 ≡ greatest (fits_at left parts) n
radius-none tab left n text gaps parts are more =
    greatest-none (fits_at left parts) n (λ r. line-past tab text parts gaps are left r more)

-- ---- the choice of spans

-- whole labels where they fit
pub chosen-whole : (left tab : ℕ) (line : Line)
    → fits_at left (parts_of whole_span tab line) 0 ≡ true
    → chosen_parts left tab line ≡ parts_of whole_span tab line
chosen-whole left tab line fits = rw fits refl

-- else their ends
pub chosen-ends : (left tab : ℕ) (line : Line)
    → fits_at left (parts_of whole_span tab line) 0 ≡ false
    → chosen_parts left tab line ≡ parts_of end_spans tab line
chosen-ends left tab line past = rw past refl

-- the units of the parts are those of the text
pub chosen-units : (left tab : ℕ) (line : Line)
    → part_units (chosen_parts left tab line) ≡ units_of tab (chars line.text)
chosen-units left tab line =
    let units = λ (label_spans : ℕ → LabelModel → List (ℕ × ℕ)).
    parts-units (needed_spans label_spans line) false [] 0 (units_of tab (chars line.text)) in
    ⊎_elim
    (λ fits. ap part_units (chosen-whole left tab line fits) ∙ units whole_span)
    (λ past. ap part_units (chosen-ends left tab line past) ∙ units end_spans)
    (cases_Bool (fits_at left (parts_of whole_span tab line) 0))

-- a line without text has no pieces
pub empty-pieces : (left tab : ℕ) (line : Line) → line.text ≡ [] → shortened left tab line ≡ []
empty-pieces left tab line none =
    let units : units_of tab (chars line.text) ≡ [] =
    ap (λ text. units_of tab (chars text)) none ∙ ap (units_of tab) chars-nil in
    let radius = greatest (fits_at left (chosen_parts left tab line)) left in
    let pieces = λ (label_spans : ℕ → LabelModel → List (ℕ × ℕ)).
    ap (λ us. pieces_of radius (parts_from (needed_spans label_spans line) false [] 0 us)) units in
    ⊎_elim
    (λ fits. ap (pieces_of radius) (chosen-whole left tab line fits) ∙ pieces whole_span)
    (λ past. ap (pieces_of radius) (chosen-ends left tab line past) ∙ pieces end_spans)
    (cases_Bool (fits_at left (parts_of whole_span tab line) 0))

-- ---- the line

-- lines are the same where their texts, labels and lane marks are
pub same-line : (number count : ℕ) (text other : List ℕ) (labels xs : List LabelModel)
    (marks ms : List LaneMark) → text ≡ other → labels ≡ xs → marks ≡ ms
    → ◌≡◌ {A = Line}
    (record {
      number = number;
      text = text;
      labels = labels;
      lanes = record { count = count; lane_marks = marks };
    })
    (record {
      number = number;
      text = other;
      labels = xs;
      lanes = record { count = count; lane_marks = ms };
    })
same-line number count text other labels xs marks ms e f g = rw (e, f, g) refl
