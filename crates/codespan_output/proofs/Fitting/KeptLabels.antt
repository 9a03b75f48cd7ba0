-- For `FittedIsLine`: what the pieces of a line keep of its labels.
use Rattle.codespan_core.proofs.Std.{◌≡◌, ℕ, ◌+◌, ◌-◌, ◌<◌, ◌≤◌, true, List, [], ◌∷◌, length, sym}
use Rattle.codespan_core.proofs.Std.{ap, subst, ◌∙◌, arith, ⊎_elim, cases_lt, AllByRecursion, chars}
use Rattle.codespan_core.specs.Labels.{LabelModel, LaneMark, MultiLabel, Top, Left, Bottom}
use Rattle.codespan_output.specs.{PiecesAreLine, AreKept, LabelIsKept, MarkIsKept, Line, Piece}
use Rattle.codespan_output.specs.{unit_bytes, first_byte, last_byte, leading_whitespace}
use Rattle.codespan_output.specs.{piece_units, is_kept}
use Rattle.codespan_output.proofs.Fitting.HangingLabels.{EndsStay}
use Rattle.codespan_output.proofs.Fitting.Moved.{DotsShorten, moved-strict}
use Rattle.codespan_output.proofs.Fitting.Pieces.{kept-past, many-shorten, units-have_bytes}
use Rattle.codespan_output.proofs.Fitting.Pieces.{HaveBytes}
use Rattle.codespan_output.proofs.Fitting.Spelled.{PiecesSpell, UnitsSpell, units-spell}
use Rattle.codespan_output.proofs.Fitting.Spelled.{pieces-spell}
use Rattle.codespan_output.proofs.Utf8.ListElements.{all-weaker}

-- the start of a label and the byte before its end are kept
pub record EndsAreKept (ps : List Piece) (x : LabelModel) : Type 0 where
  pub start : is_kept ps x.start ≡ true
  pub end : is_kept ps (x.end - 1) ≡ true

-- so are those of a multi-line label
abbrev pub MarkEndIsKept : List Piece → ℕ → MultiLabel → Type 0
MarkEndIsKept ps leading (Top start) =
    (is_kept ps start ≡ true) × (start ≤ leading → AreKept ps 0 start)
MarkEndIsKept ps leading Left = Unit
MarkEndIsKept ps leading (Bottom end message) = is_kept ps (end - 1) ≡ true

-- what pieces keep of a line
pub record KeepsLabels (tab : ℕ) (ps : List Piece) (line : Line) : Type 0 where
  pub short : DotsShorten ps
  pub spell : PiecesSpell tab ps (chars line.text)
  pub labels : AllByRecursion (EndsAreKept ps) line.labels
  pub marks : AllByRecursion
      (λ (m : LaneMark). MarkEndIsKept ps (leading_whitespace line.text) m.multi_label)
      line.lanes.lane_marks

module _ (tab : ℕ) (line : Line) (ps : List Piece) (h : PiecesAreLine tab line ps) where
  -- what is past the text is kept
  pub past-kept : (x : ℕ) → length line.text ≤ x → is_kept ps x ≡ true
  past-kept x a =
      let e : x ≡ unit_bytes (piece_units ps) + (x - length line.text) =
      omega (arith, h.bytes) in
      ap (is_kept ps) e ∙ kept-past ps (x - length line.text)

  -- a byte is kept where it is one of the text, and that is kept, or past it
  within : (x y : ℕ) → (x < length line.text → x ≡ y) → is_kept ps y ≡ true
      → is_kept ps x ≡ true
  within x y same k =
      ⊎_elim
      (λ (a : x < length line.text). ap (is_kept ps) (same a) ∙ k)
      (λ (a : length line.text ≤ x). past-kept x a)
      (cases_lt x (length line.text))

  label-ends : (xs : List LabelModel)
      → AllByRecursion (LabelIsKept ps (length line.text)) xs
      → AllByRecursion (EndsAreKept ps) xs
  label-ends [] k = tt
  label-ends (x ∷ xs) k = (
    record {
      start = within x.start (first_byte (length line.text) x.start) (λ a. omega arith) k.0.first;
      end = within (x.end - 1) (last_byte (length line.text) x.end) (λ a. omega arith) k.0.last;
    },
    label-ends xs k.1,
  )

  mark-end : (m : MultiLabel)
      → MarkIsKept ps (length line.text) (leading_whitespace line.text) m
      → MarkEndIsKept ps (leading_whitespace line.text) m
  mark-end (Top start) k =
      (within start (first_byte (length line.text) start) (λ a. omega arith) k.0, k.1)
  mark-end Left k = tt
  mark-end (Bottom end message) k =
      within (end - 1) (last_byte (length line.text) end) (λ a. omega arith) k

  -- the pieces of a line keep so much
  pub line-keeps : KeepsLabels tab ps line
  line-keeps = record {
    short =
        many-shorten ps
        (subst HaveBytes (sym h.units) (units-have_bytes tab (chars line.text)))
        h.dots_are_many;
    spell =
        pieces-spell tab ps (chars line.text)
        (subst (λ us. UnitsSpell tab us (chars line.text)) (sym h.units)
        (units-spell tab (chars line.text)));
    labels = label-ends line.labels h.labels;
    marks =
        all-weaker
        (λ (m : LaneMark). MarkIsKept ps (length line.text) (leading_whitespace line.text)
        m.multi_label)
        (λ (m : LaneMark). MarkEndIsKept ps (leading_whitespace line.text) m.multi_label)
        (λ m k. mark-end m.multi_label k) line.lanes.lane_marks h.marks;
  }

-- what is before a label's end stays before it
pub ends-stay : (ps : List Piece) → DotsShorten ps → (labels : List LabelModel)
    → AllByRecursion (EndsAreKept ps) labels → EndsStay ps labels
ends-stay ps h [] k = tt
ends-stay ps h (x ∷ xs) k =
    ((λ a less. moved-strict ps h a x.end k.0.end less), ends-stay ps h xs k.1)
