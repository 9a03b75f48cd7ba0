-- For `FittedIsLine`: what the pieces of a line that is shortened keep of its labels and its
-- text.
use Rattle.codespan_core.proofs.Std.{◌≡◌, ℕ, ◌+◌, ◌-◌, ◌<◌, ◌≤◌, true, false, List, [], ◌∷◌, ◌++◌}
use Rattle.codespan_core.proofs.Std.{length, flat_map, sym, ap, ◌∙◌, arith, ⊎_elim, cases_lt}
use Rattle.codespan_core.proofs.Std.{cond_both, le-leb, AllByRecursion, chars, if◌then◌else◌}
use Rattle.std.proofs.lemmas.Str.{encodes-chars}
use Rattle.codespan_core.specs.Labels.{LabelModel, LaneMark, MultiLabel, Top, Left, Bottom}
use Rattle.codespan_output.specs.{PiecesAreLine, AreKept, LabelIsKept, MarkIsKept, Line, Piece}
use Rattle.codespan_output.specs.{unit_bytes, units_of, is_needed, first_byte, last_byte}
use Rattle.codespan_output.specs.{whole_span, end_spans, mark_spans, needed_spans, parts_of}
use Rattle.codespan_output.specs.{pieces_of, leading_whitespace, piece_units, begins_in_source_row}
use Rattle.codespan_output.specs.{is_kept, IsFittable}
use Rattle.codespan_output.proofs.Fitting.NeededBytes.{needed-in, needed-before, needed-behind}
use Rattle.codespan_output.proofs.Fitting.NeededBytes.{needed-or_start, needed-kept}
use Rattle.codespan_output.proofs.Fitting.Pieces.{pieces-units, kept-past, many-pieces}
use Rattle.codespan_output.proofs.Fitting.Spelled.{units-all, length-encodes}
use Rattle.codespan_output.proofs.Utf8.ListElements.{all-weaker}

-- what the list has for each element is needed
each-needed : {X : Type 0} (f : X → List (ℕ × ℕ)) (xs : List X)
    → AllByRecursion (λ x. (b : ℕ) → is_needed (f x) b (b + 1) ≡ true
    → is_needed (flat_map f xs) b (b + 1) ≡ true) xs
each-needed f [] = tt
each-needed f (x ∷ xs) = (
  λ b h. needed-before (f x) (flat_map f xs) b h,
  all-weaker
      (λ y. (b : ℕ) → is_needed (f y) b (b + 1) ≡ true
      → is_needed (flat_map f xs) b (b + 1) ≡ true)
      (λ y. (b : ℕ) → is_needed (f y) b (b + 1) ≡ true
      → is_needed (f x ++ flat_map f xs) b (b + 1) ≡ true)
      (λ y h b k. needed-behind (f x) (flat_map f xs) b (h b k)) xs (each-needed f xs),
)

-- the first and the last byte of a label are in its spans
pub record HasEnds (label_spans : ℕ → LabelModel → List (ℕ × ℕ)) (n : ℕ) (x : LabelModel) : Type 0
  where
    pub first : is_needed (label_spans n x) (first_byte n x.start) (first_byte n x.start + 1)
        ≡ true
    pub last : is_needed (label_spans n x) (last_byte n x.end) (last_byte n x.end + 1) ≡ true

pub whole-ends : (n : ℕ) (x : LabelModel) → first_byte n x.start ≤ last_byte n x.end
    → HasEnds whole_span n x
whole-ends n x h = record {
  first =
      needed-in (first_byte n x.start) (last_byte n x.end) [] (first_byte n x.start)
      (omega arith) h;
  last =
      needed-in (first_byte n x.start) (last_byte n x.end) [] (last_byte n x.end) h
      (omega arith);
}

pub ends-ends : (n : ℕ) (x : LabelModel) → HasEnds end_spans n x
ends-ends n x = record {
  first =
      needed-in (first_byte n x.start) (first_byte n x.start)
      ((last_byte n x.end, last_byte n x.end) ∷ []) (first_byte n x.start) (omega arith)
      (omega arith);
  last =
      needed-behind ((first_byte n x.start, first_byte n x.start) ∷ [])
      ((last_byte n x.end, last_byte n x.end) ∷ []) (last_byte n x.end)
      (needed-in (last_byte n x.end) (last_byte n x.end) [] (last_byte n x.end)
      (omega arith) (omega arith));
}

module _ (label_spans : ℕ → LabelModel → List (ℕ × ℕ)) (radius tab : ℕ) (line : Line)
    (fittable : IsFittable line) where
  made : List Piece
  made = pieces_of radius (parts_of label_spans tab line)

  units-same : piece_units made ≡ units_of tab (chars line.text)
  unfolding made
  units-same =
      pieces-units radius (needed_spans label_spans line) false [] 0
      (units_of tab (chars line.text))

  all-bytes : unit_bytes (piece_units made) ≡ length line.text
  all-bytes =
      ap unit_bytes units-same ∙ units-all tab (chars line.text)
      ∙ sym (length-encodes (chars line.text))
      ∙ ap length (encodes-chars line.text fittable.is_utf8)

  -- what is past the text is kept
  past : (x : ℕ) → length line.text ≤ x → is_kept made x ≡ true
  past x h =
      let e : x ≡ unit_bytes (piece_units made) + (x - length line.text) =
      omega (arith, all-bytes) in
      ap (is_kept made) e ∙ kept-past made (x - length line.text)

  -- what is needed is kept
  needed : (x : ℕ) → is_needed (needed_spans label_spans line) x (x + 1) ≡ true
      → is_kept made x ≡ true
  unfolding made
  needed x h =
      ap (is_kept made) (omega arith)
      ∙ needed-kept radius (needed_spans label_spans line) false [] 0
      (units_of tab (chars line.text)) x (omega arith) h

  pub needed-shown : (x : ℕ) → is_needed (needed_spans label_spans line) x (x + 1) ≡ true
      → is_kept (pieces_of radius (parts_of label_spans tab line)) x ≡ true
  unfolding made
  needed-shown x h = needed x h

  all_label_spans : List (ℕ × ℕ)
  all_label_spans = flat_map (label_spans (length line.text)) line.labels

  all_mark_spans : List (ℕ × ℕ)
  all_mark_spans =
      flat_map
      (λ (m : LaneMark). mark_spans (length line.text) (leading_whitespace line.text)
      m.multi_label) line.lanes.lane_marks

  -- a byte of a label's spans
  of_label : (x : LabelModel) → ((b : ℕ)
      → is_needed (label_spans (length line.text) x) b (b + 1) ≡ true
      → is_needed all_label_spans b (b + 1) ≡ true)
      → (b : ℕ) → is_needed (label_spans (length line.text) x) b (b + 1) ≡ true
      → is_needed (needed_spans label_spans line) b (b + 1) ≡ true
  unfolding all_label_spans all_mark_spans
  of_label x more b h =
      needed-or_start (all_label_spans ++ all_mark_spans) b
      (needed-before all_label_spans all_mark_spans b (more b h))

  -- the ends of a label
  label-kept : (x : LabelModel) → HasEnds label_spans (length line.text) x
      → ((b : ℕ) → is_needed (label_spans (length line.text) x) b (b + 1) ≡ true
      → is_needed all_label_spans b (b + 1) ≡ true)
      → LabelIsKept made (length line.text) x
  label-kept x has more = record {
    first =
        needed (first_byte (length line.text) x.start)
        (of_label x more (first_byte (length line.text) x.start) has.first);
    last =
        needed (last_byte (length line.text) x.end)
        (of_label x more (last_byte (length line.text) x.end) has.last);
  }

  -- a byte of a multi-line label's mark
  mark-kept : (mark : MultiLabel)
      → ((b : ℕ)
      → is_needed (mark_spans (length line.text) (leading_whitespace line.text) mark) b (b + 1)
      ≡ true
      → is_needed all_mark_spans b (b + 1) ≡ true)
      → MarkIsKept made (length line.text) (leading_whitespace line.text) mark
  unfolding all_label_spans all_mark_spans
  mark-kept Left more = tt
  mark-kept (Bottom end message) more =
      let last = last_byte (length line.text) end in
      needed last
      (needed-or_start (all_label_spans ++ all_mark_spans) last
      (needed-behind all_label_spans all_mark_spans last
      (more last (needed-in last last [] last (omega arith) (omega arith)))))
  mark-kept (Top start) more = (first, before)
    where
      n : ℕ
      n = length line.text

      leading : ℕ
      leading = leading_whitespace line.text

      kept : (b : ℕ) → is_needed (mark_spans n leading (Top start)) b (b + 1) ≡ true
          → is_kept made b ≡ true
      kept b h =
          needed b
          (needed-or_start (all_label_spans ++ all_mark_spans) b
          (needed-behind all_label_spans all_mark_spans b (more b h)))

      first : is_kept made (first_byte n start) ≡ true
      first =
          kept (first_byte n start)
          (cond_both (begins_in_source_row leading start) 0 (first_byte n start)
          (λ low. is_needed ((low, first_byte n start) ∷ []) (first_byte n start)
          (first_byte n start + 1) ≡ true)
          (λ _. needed-in 0 (first_byte n start) [] (first_byte n start) (omega arith)
          (omega arith))
          (λ _. needed-in (first_byte n start) (first_byte n start) [] (first_byte n start)
          (omega arith) (omega arith)))

      before : start ≤ leading → AreKept made 0 start
      before le b least less =
          ⊎_elim
          (λ (a : b < n). kept b
          (ap (λ t. is_needed (((if t then 0 else first_byte n start), first_byte n start) ∷ [])
          b (b + 1)) (le-leb start leading le)
          ∙ needed-in 0 (first_byte n start) [] b (omega arith) (omega arith)))
          (λ (a : n ≤ b). past b a)
          (cases_lt b n)

  -- the pieces are the line
  pub made-line : AllByRecursion (HasEnds label_spans (length line.text)) line.labels
      → PiecesAreLine tab line (pieces_of radius (parts_of label_spans tab line))
  unfolding made all_label_spans all_mark_spans
  made-line has = record {
    units = units-same;
    bytes = all-bytes;
    dots_are_many =
        many-pieces radius (needed_spans label_spans line) false [] 0
        (units_of tab (chars line.text));
    labels = both line.labels has (each-needed (label_spans (length line.text)) line.labels);
    marks =
        all-weaker
        (λ (m : LaneMark). (b : ℕ)
        → is_needed (mark_spans (length line.text) (leading_whitespace line.text) m.multi_label)
        b (b + 1) ≡ true
        → is_needed all_mark_spans b (b + 1) ≡ true)
        (λ (m : LaneMark). MarkIsKept made (length line.text) (leading_whitespace line.text)
        m.multi_label)
        (λ m h. mark-kept m.multi_label h) line.lanes.lane_marks
        (each-needed
        (λ (m : LaneMark). mark_spans (length line.text) (leading_whitespace line.text)
        m.multi_label) line.lanes.lane_marks);
  }
    where
      both : (xs : List LabelModel)
          → AllByRecursion (HasEnds label_spans (length line.text)) xs
          → AllByRecursion (λ x. (b : ℕ)
          → is_needed (label_spans (length line.text) x) b (b + 1) ≡ true
          → is_needed all_label_spans b (b + 1) ≡ true) xs
          → AllByRecursion (LabelIsKept made (length line.text)) xs
      both [] h k = tt
      both (x ∷ xs) h k = (label-kept x h.0 k.0, both xs h.1 k.1)

  -- where the spans of labels are whole, so are the labels
  whole-kept : (xs : List LabelModel)
      → AllByRecursion (λ x. (b : ℕ)
      → is_needed (label_spans (length line.text) x) b (b + 1) ≡ true
      → is_needed all_label_spans b (b + 1) ≡ true) xs
      → ((x : LabelModel) → label_spans (length line.text) x ≡ whole_span (length line.text) x)
      → AllByRecursion (λ (x : LabelModel). AreKept made x.start x.end) xs
  whole-kept [] h same = tt
  whole-kept (x ∷ xs) h same = (
    (λ b least less. ⊎_elim
        (λ (a : b < length line.text). needed b (of_label x h.0 b
        (ap (λ ss. is_needed ss b (b + 1)) (same x)
        ∙ needed-in (first_byte (length line.text) x.start) (last_byte (length line.text) x.end) []
        b (omega arith) (omega arith))))
        (λ (a : length line.text ≤ b). past b a)
        (cases_lt b (length line.text))),
    whole-kept xs h.1 same,
  )

  pub whole-labels :
      ((x : LabelModel) → label_spans (length line.text) x ≡ whole_span (length line.text) x)
      → AllByRecursion
      (λ (x : LabelModel). AreKept (pieces_of radius (parts_of label_spans tab line)) x.start
      x.end) line.labels
  unfolding made all_label_spans
  whole-labels same =
      whole-kept line.labels (each-needed (label_spans (length line.text)) line.labels) same
