-- For `LabelsStay`: each label of a line that is shortened is where it was.
use Rattle.codespan_core.proofs.Std.{◌≡◌, ℕ, ◌+◌, ◌-◌, ◌<◌, ◌≤◌, Bool, not, ◌&&◌, ◌||◌, nat_lt}
use Rattle.codespan_core.proofs.Std.{nat_le, List, [], ◌∷◌, map, Some, None, refl, sym, ap, ap₂}
use Rattle.codespan_core.proofs.Std.{◌∙◌, arith, ⊎_elim, cases_lt, lt-ltb, le-ltb, list_any}
use Rattle.codespan_core.proofs.Std.{AllByRecursion, if◌then◌else◌, nat_tests}
use Rattle.codespan_core.specs.Labels.{LabelModel, LaneMark, MultiLabel, Top, Left, Bottom}
use Rattle.codespan_core.specs.Labels.{is_primary, is_primary_style}
use Rattle.codespan_output.specs.declared.char_metrics.Metrics.{Metrics}
use Rattle.codespan_output.specs.{Line, Piece, moved, moved_label, moved_mark, moved_multi_label}
use Rattle.codespan_output.specs.{shown_line, is_overlapping, covers, style_of_any, starts_in}
use Rattle.codespan_output.specs.{multi_label_covers, hanging_labels, moved_char, CharIsKept}
use Rattle.codespan_output.specs.{AllOrNone, multi_label_has, LabelsStay, leading_whitespace}
use Rattle.codespan_output.specs.Types.{Primary, Secondary}
use Rattle.codespan_output.proofs.Fitting.HangingLabels.{StaysAfter, EndsStay, less-same}
use Rattle.codespan_output.proofs.Fitting.HangingLabels.{overlapping, hanging_labels-moved}
use Rattle.codespan_output.proofs.Fitting.KeptLabels.{KeepsLabels, EndsAreKept, MarkEndIsKept}
use Rattle.codespan_output.proofs.Fitting.KeptLabels.{ends-stay}
use Rattle.codespan_output.proofs.Fitting.Moved.{moved-rises, moved-strict}
use Rattle.codespan_output.proofs.Fitting.ShownBytes.{kept-strict, moved-run}

-- ---- a test of each label

-- a test of moved labels that each passes where it passed another passes one where that did
any-moved : {X : Type 0} (f : X → X) (p q : X → Bool) (xs : List X)
    → AllByRecursion (λ x. p (f x) ≡ q x) xs
    → list_any p (map f xs) ≡ list_any q xs
any-moved f p q [] h = refl
any-moved f p q (x ∷ xs) h = ap₂ (λ a b. a || b) h.0 (any-moved f p q xs h.1)

-- so it is with the style of the labels that pass
style-moved : (ps : List Piece) (p q : LabelModel → Bool) (xs : List LabelModel)
    → AllByRecursion (λ x. p (moved_label ps x) ≡ q x) xs
    → style_of_any p (map (moved_label ps) xs) ≡ style_of_any q xs
style-moved ps p q xs h =
    ap₂ (λ a b. if a then Some Primary else if b then Some Secondary else None)
    (any-moved (moved_label ps) (λ x. is_primary x && p x) (λ x. is_primary x && q x) xs
    (primary xs h))
    (any-moved (moved_label ps) p q xs h)
  where
    primary : (ys : List LabelModel) → AllByRecursion (λ x. p (moved_label ps x) ≡ q x) ys
        → AllByRecursion
        (λ x. (is_primary x && p (moved_label ps x)) ≡ (is_primary x && q x)) ys
    primary [] k = tt
    primary (y ∷ ys) k = (ap (λ b. is_primary y && b) k.0, primary ys k.1)

-- ---- all or none

-- indices that are moved to one are on the same side of one that what is before stays before
same-side : (ps : List Piece) (k x y : ℕ) → StaysAfter ps k → moved ps x ≡ moved ps y
    → nat_lt x k ≡ nat_lt y k
same-side ps k x y h e =
    ⊎_elim
    (λ (a : x < k). ⊎_elim
    (λ (b : y < k). lt-ltb x k a ∙ sym (lt-ltb y k b))
    (λ (b : k ≤ y). absurd (omega (arith, h x a, moved-rises ps k y b)))
    (cases_lt y k))
    (λ (a : k ≤ x). ⊎_elim
    (λ (b : y < k). absurd (omega (arith, h y b, moved-rises ps k x a)))
    (λ (b : k ≤ y). le-ltb x k a ∙ sym (le-ltb y k b))
    (cases_lt y k))
    (cases_lt x k)

has-byte : (x : LabelModel) (b : ℕ)
    → is_overlapping x b (b + 1) ≡ (not (nat_lt b x.start) && nat_lt b x.end)
has-byte x b = grind (arith, nat_tests)

le-not : (a b : ℕ) → nat_le a b ≡ not (nat_lt b a)
le-not a b = grind (arith, nat_tests)

next-le : (a b : ℕ) → nat_le (a + 1) b ≡ nat_lt a b
next-le a b = grind (arith, nat_tests)

module _ (tab : ℕ) (ps : List Piece) (line : Line) (keeps : KeepsLabels tab ps line) where
  -- ---- a kept character

  at-start : (c : Metrics) → CharIsKept ps c → StaysAfter ps c.byte_index
  at-start c k x less =
      kept-strict ps x c.byte_index less (k.are c.byte_index (omega arith)
      (omega (arith, k.has_bytes)))

  at-end : (c : Metrics) → CharIsKept ps c → StaysAfter ps (c.byte_index + c.bytes)
  at-end c k x less =
      moved-strict ps keeps.short x (c.byte_index + c.bytes)
      (k.are (c.byte_index + c.bytes - 1) (omega (arith, k.has_bytes))
      (omega (arith, k.has_bytes))) less

  end-moved : (c : Metrics) → CharIsKept ps c
      → moved ps c.byte_index + c.bytes ≡ moved ps (c.byte_index + c.bytes)
  end-moved c k = sym (moved-run ps keeps.short c.byte_index c.bytes k.are)

  -- it is covered by the same labels
  covered : (c : Metrics) → CharIsKept ps c → (x : LabelModel) → StaysAfter ps x.end
      → covers (moved_label ps x) (moved_char ps c) ≡ covers x c
  covered c k x h =
      ap (is_overlapping (moved_label ps x) (moved ps c.byte_index)) (end-moved c k)
      ∙ overlapping ps x (record x { start = c.byte_index; end = c.byte_index + c.bytes }) h
      (at-end c k)

  -- the same labels start in it
  started : (c : Metrics) → CharIsKept ps c → (x : LabelModel)
      → starts_in (moved_char ps c) (moved_label ps x) ≡ starts_in c x
  started c k x =
      ap₂ (λ a b. a && b)
      (le-not (moved ps c.byte_index) (moved ps x.start)
      ∙ ap not (less-same ps x.start c.byte_index (at-start c k))
      ∙ sym (le-not c.byte_index x.start))
      (ap (nat_lt (moved ps x.start)) (end-moved c k)
      ∙ less-same ps x.start (c.byte_index + c.bytes) (at-end c k))

  -- and the same multi-line labels cover it
  mark-covered : (c : Metrics) → CharIsKept ps c → (m : MultiLabel)
      → MarkEndIsKept ps (leading_whitespace line.text) m
      → multi_label_covers (moved_char ps c) (moved_multi_label ps m) ≡ multi_label_covers c m
  mark-covered c k (Top start) h =
      le-not (moved ps start) (moved ps c.byte_index)
      ∙ ap not (less-same ps c.byte_index start (λ x less. kept-strict ps x start less h.0))
      ∙ sym (le-not start c.byte_index)
  mark-covered c k Left h = refl
  mark-covered c k (Bottom end message) h =
      ap (λ n. nat_le n (moved ps end)) (end-moved c k)
      ∙ le-not (moved ps (c.byte_index + c.bytes)) (moved ps end)
      ∙ ap not (less-same ps end (c.byte_index + c.bytes) (at-end c k))
      ∙ sym (le-not (c.byte_index + c.bytes) end)

  -- ---- all labels

  covered-all : (c : Metrics) → CharIsKept ps c → (xs : List LabelModel) → EndsStay ps xs
      → AllByRecursion
      (λ (x : LabelModel). covers (moved_label ps x) (moved_char ps c) ≡ covers x c) xs
  covered-all c k [] h = tt
  covered-all c k (x ∷ xs) h = (covered c k x h.0, covered-all c k xs h.1)

  primary-covered : (c : Metrics) → CharIsKept ps c → (xs : List LabelModel) → EndsStay ps xs
      → AllByRecursion
      (λ (x : LabelModel). (is_primary x && covers (moved_label ps x) (moved_char ps c))
      ≡ (is_primary x && covers x c)) xs
  primary-covered c k [] h = tt
  primary-covered c k (x ∷ xs) h =
      (ap (λ b. is_primary x && b) (covered c k x h.0), primary-covered c k xs h.1)

  marks-covered : (c : Metrics) → CharIsKept ps c → (ms : List LaneMark)
      → AllByRecursion
      (λ (m : LaneMark). MarkEndIsKept ps (leading_whitespace line.text) m.multi_label) ms
      → AllByRecursion
      (λ (m : LaneMark). (is_primary_style m.style
      && multi_label_covers (moved_char ps c) (moved_multi_label ps m.multi_label))
      ≡ (is_primary_style m.style && multi_label_covers c m.multi_label)) ms
  marks-covered c k [] h = tt
  marks-covered c k (m ∷ ms) h = (
    ap (λ b. is_primary_style m.style && b) (mark-covered c k m.multi_label h.0),
    marks-covered c k ms h.1,
  )

  started-all : (c : Metrics) → CharIsKept ps c → (xs : List LabelModel)
      → AllByRecursion
      (λ (x : LabelModel). starts_in (moved_char ps c) (moved_label ps x) ≡ starts_in c x) xs
  started-all c k [] = tt
  started-all c k (x ∷ xs) = (started c k x, started-all c k xs)

  -- ---- dots

  label-dots : (xs : List LabelModel) → AllByRecursion (EndsAreKept ps) xs
      → AllByRecursion (λ (x : LabelModel). AllOrNone ps (λ b. is_overlapping x b (b + 1))) xs
  label-dots [] h = tt
  label-dots (x ∷ xs) h = (
    λ a b same. has-byte x a
        ∙ ap₂ (λ p q. not p && q)
        (same-side ps x.start a b (λ y less. kept-strict ps y x.start less h.0.start) same)
        (same-side ps x.end a b (λ y less. moved-strict ps keeps.short y x.end h.0.end less) same)
        ∙ sym (has-byte x b),
    label-dots xs h.1,
  )

  one-mark-dots : (m : MultiLabel) → MarkEndIsKept ps (leading_whitespace line.text) m
      → AllOrNone ps (multi_label_has m)
  one-mark-dots (Top start) h a b same =
      le-not start a
      ∙ ap not (same-side ps start a b (λ y less. kept-strict ps y start less h.0) same)
      ∙ sym (le-not start b)
  one-mark-dots Left h a b same = refl
  one-mark-dots (Bottom end message) h a b same =
      next-le a end
      ∙ same-side ps end a b (λ y less. moved-strict ps keeps.short y end h less) same
      ∙ sym (next-le b end)

  all-mark-dots : (ms : List LaneMark)
      → AllByRecursion
      (λ (m : LaneMark). MarkEndIsKept ps (leading_whitespace line.text) m.multi_label) ms
      → AllByRecursion (λ (m : LaneMark). AllOrNone ps (multi_label_has m.multi_label)) ms
  all-mark-dots [] h = tt
  all-mark-dots (m ∷ ms) h = (one-mark-dots m.multi_label h.0, all-mark-dots ms h.1)

  -- each label is where it was
  pub labels-stay : LabelsStay ps line (shown_line ps line)
  labels-stay =
      let ends = ends-stay ps keeps.short line.labels keeps.labels in
      record {
        carets =
            λ c k. style-moved ps (λ x. covers x (moved_char ps c)) (λ x. covers x c)
            line.labels (covered-all c k line.labels ends);
        colors =
            λ c k. ap₂ (λ a b. if a || b then Some Primary else None)
            (any-moved (moved_label ps) (λ x. is_primary x && covers x (moved_char ps c))
            (λ x. is_primary x && covers x c) line.labels
            (primary-covered c k line.labels ends))
            (any-moved (moved_mark ps)
            (λ (m : LaneMark). is_primary_style m.style
            && multi_label_covers (moved_char ps c) m.multi_label)
            (λ (m : LaneMark). is_primary_style m.style && multi_label_covers c m.multi_label)
            line.lanes.lane_marks (marks-covered c k line.lanes.lane_marks keeps.marks));
        pointers =
            λ c k. ap (style_of_any (starts_in (moved_char ps c)))
            (hanging_labels-moved ps keeps.short line.labels ends)
            ∙ style-moved ps (starts_in (moved_char ps c)) (starts_in c)
            (hanging_labels line.labels) (started-all c k (hanging_labels line.labels));
        dots = label-dots line.labels keeps.labels;
        mark_dots = all-mark-dots line.lanes.lane_marks keeps.marks;
      }
