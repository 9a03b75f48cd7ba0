-- For `ShortenedIsLine` and `CutAtEnd`: what is kept of a line that is shortened.
use Rattle.codespan_core.proofs.Std.{◌≡◌, ℕ, ◌+◌, ◌-◌, ◌<◌, ◌≤◌, true, false, nat_lt, nat_le, List}
use Rattle.codespan_core.proofs.Std.{[], ◌∷◌, ◌++◌, length, map, take, drop, refl, sym, ap, subst}
use Rattle.codespan_core.proofs.Std.{◌∙◌, arith, ⊎_elim, cases_lt, cond_both, AllByRecursion}
use Rattle.codespan_core.proofs.Std.{false≢true, true≢false, append_assoc, append-nil, drop_all}
use Rattle.codespan_core.proofs.Std.{flat_map, lt-ltb, chars, ◌&&◌, ◌||◌}
use Rattle.std.proofs.lemmas.Bool.{lt-leb, and_right, or_from}
use Rattle.codespan_core.specs.Labels.{LabelModel, LaneMark, Left}
use Rattle.codespan_output.specs.{TextUnit, Piece, Kept, Dots, Needed, Gap, Line, unit_bytes}
use Rattle.codespan_output.specs.{units_of, is_needed, parts_from, parts_of, pieces_of, leave_out}
use Rattle.codespan_output.specs.{count_within, fits_at, chosen_parts, shortened, greatest}
use Rattle.codespan_output.specs.{whole_span, end_spans, needed_spans, mark_spans}
use Rattle.codespan_output.specs.{leading_whitespace, piece_units, is_kept, AreKept, IsFittable}
use Rattle.codespan_output.specs.{ShortenedIsLine, CutAtEnd, or_line_start, first_byte, last_byte}
use Rattle.codespan_output.proofs.Fitting.FittedPieces.{shortened-line}
use Rattle.codespan_output.proofs.Fitting.Moved.{kept-in_unit, kept-after_unit, kept-in_dots}
use Rattle.codespan_output.proofs.Fitting.NeededBytes.{in-span, in-either, needed-in, needed-before}
use Rattle.codespan_output.proofs.Fitting.NeededBytes.{needed-behind}
use Rattle.codespan_output.proofs.Fitting.Pieces.{HaveBytes, units-have_bytes}
use Rattle.codespan_output.proofs.Fitting.ShownParts.{whole-labels, needed-shown}

-- ---- labels that fit are whole

whole-chosen : (cells tab : ℕ) (line : Line) → IsFittable line
    → fits_at cells (parts_of whole_span tab line) 0 ≡ true
    → AllByRecursion (λ (x : LabelModel). AreKept (shortened cells tab line) x.start x.end)
    line.labels
whole-chosen cells tab line h fits =
    let radius = greatest (fits_at cells (chosen_parts cells tab line)) cells in
    cond_both (fits_at cells (parts_of whole_span tab line) 0) (parts_of whole_span tab line)
    (parts_of end_spans tab line)
    (λ parts. AllByRecursion (λ (x : LabelModel). AreKept (pieces_of radius parts) x.start x.end)
    line.labels)
    (λ _. whole-labels whole_span radius tab line h (λ x. refl))
    (λ not. absurd (false≢true (sym not ∙ fits)))

-- the ends of labels are needed where labels are as a whole
whole-needed : (n : ℕ) (xs : List LabelModel)
    → AllByRecursion (λ (x : LabelModel). first_byte n x.start ≤ last_byte n x.end) xs
    → (y : ℕ) → is_needed (flat_map (end_spans n) xs) y (y + 1) ≡ true
    → is_needed (flat_map (whole_span n) xs) y (y + 1) ≡ true
whole-needed n [] f y h = h
whole-needed n (x ∷ xs) f y h =
    let first = first_byte n x.start in
    let last = last_byte n x.end in
    let rest = flat_map (whole_span n) xs in
    ⊎_elim
    (λ (a : (first ≤ y) × (y ≤ first)). needed-in first last rest y a.0 (omega (arith, f.0)))
    (λ (a : is_needed ((last, last) ∷ flat_map (end_spans n) xs) y (y + 1) ≡ true). ⊎_elim
    (λ (b : (last ≤ y) × (y ≤ last)). needed-in first last rest y (omega (arith, f.0)) b.1)
    (λ (b : is_needed (flat_map (end_spans n) xs) y (y + 1) ≡ true).
    needed-behind ((first, last) ∷ []) rest y (whole-needed n xs f.1 y b))
    (in-span last last (flat_map (end_spans n) xs) y a))
    (in-span first first ((last, last) ∷ flat_map (end_spans n) xs) y h)

or_start-whole : (n : ℕ) (xs : List LabelModel) (ss : List (ℕ × ℕ))
    → AllByRecursion (λ (x : LabelModel). first_byte n x.start ≤ last_byte n x.end) xs
    → (y : ℕ) → is_needed (or_line_start (flat_map (end_spans n) xs ++ ss)) y (y + 1) ≡ true
    → is_needed (or_line_start (flat_map (whole_span n) xs ++ ss)) y (y + 1) ≡ true
or_start-whole n [] ss f y h = h
or_start-whole n (x ∷ xs) ss f y h =
    ⊎_elim
    (λ (a : is_needed (flat_map (end_spans n) (x ∷ xs)) y (y + 1) ≡ true).
    needed-before (flat_map (whole_span n) (x ∷ xs)) ss y (whole-needed n (x ∷ xs) f y a))
    (λ (a : is_needed ss y (y + 1) ≡ true).
    needed-behind (flat_map (whole_span n) (x ∷ xs)) ss y a)
    (in-either (flat_map (end_spans n) (x ∷ xs)) ss y h)

needed-chosen : (cells tab : ℕ) (line : Line) → IsFittable line → (x : ℕ)
    → is_needed (needed_spans end_spans line) x (x + 1) ≡ true
    → is_kept (shortened cells tab line) x ≡ true
needed-chosen cells tab line h x needed =
    let radius = greatest (fits_at cells (chosen_parts cells tab line)) cells in
    cond_both (fits_at cells (parts_of whole_span tab line) 0) (parts_of whole_span tab line)
    (parts_of end_spans tab line) (λ parts. is_kept (pieces_of radius parts) x ≡ true)
    (λ _. needed-shown whole_span radius tab line h x
    (or_start-whole (length line.text) line.labels
    (flat_map
    (λ (m : LaneMark). mark_spans (length line.text) (leading_whitespace line.text)
    m.multi_label) line.lanes.lane_marks) h.forward x needed))
    (λ _. needed-shown end_spans radius tab line h x needed)

-- a line that is shortened keeps its labels
pub shortened-is-line : (cells tab : ℕ) (line : Line) → IsFittable line
    → ShortenedIsLine cells tab line
shortened-is-line cells tab line h = record {
  pieces = shortened-line cells tab line h;
  needed = needed-chosen cells tab line h;
  whole = whole-chosen cells tab line h;
}

-- ---- a line that is cut at its end

-- nothing is kept behind the first dots
abbrev EndsInDots : List Piece → Type 0
EndsInDots [] = Unit
EndsInDots (Kept u ∷ ps) = EndsInDots ps
EndsInDots (Dots us ∷ ps) = ps ≡ []

all-before : (ps : List Piece) → EndsInDots ps → (x : ℕ) → x < unit_bytes (piece_units ps)
    → is_kept ps x ≡ true → (y : ℕ) → y < x → is_kept ps y ≡ true
all-before [] h x less k y before = refl
all-before (Kept u ∷ ps) h x less k y before =
    ⊎_elim
    (λ (b : y < u.bytes). kept-in_unit u ps y b)
    (λ (b : u.bytes ≤ y). let a : u.bytes ≤ x = omega arith in
    kept-after_unit u ps y b
    ∙ all-before ps h (x - u.bytes) (omega arith) (sym (kept-after_unit u ps x a) ∙ k)
    (y - u.bytes) (omega arith))
    (cases_lt y u.bytes)
all-before (Dots us ∷ ps) h x less k y before =
    let none : unit_bytes (us ++ piece_units ps) ≡ unit_bytes us =
    ap (λ qs. unit_bytes (us ++ piece_units qs)) h ∙ ap unit_bytes (append-nil us) in
    absurd (false≢true (sym (kept-in_dots us ps x (omega (arith, none))) ∙ k))

kept-ends : (us : List TextUnit) (ps : List Piece) → EndsInDots ps
    → EndsInDots (map Kept us ++ ps)
kept-ends [] ps h = h
kept-ends (u ∷ us) ps h = kept-ends us ps h

only-kept : (us : List TextUnit) → EndsInDots (map Kept us)
only-kept [] = tt
only-kept (u ∷ us) = only-kept us

leave_out-ends : (first : ℕ) (us : List TextUnit) → EndsInDots (leave_out first (length us) us)
leave_out-ends first us =
    cond_both (nat_lt (first + 3) (length us))
    (map Kept (take first us) ++ Dots (drop first (take (length us) us))
    ∷ map Kept (drop (length us) us))
    (map Kept us) EndsInDots
    (λ _. kept-ends (take first us)
    (Dots (drop first (take (length us) us)) ∷ map Kept (drop (length us) us))
    (ap (map Kept) (drop_all (length us) us (omega arith))))
    (λ _. only-kept us)

-- the first unit alone is needed
start-alone : (gap : List TextUnit) (start : ℕ) (us : List TextUnit) → 0 < start
    → parts_from ((0, 0) ∷ []) true gap start us ≡ Gap true false (gap ++ us) ∷ []
start-alone gap start [] h = ap (λ vs. Gap true false vs ∷ []) (sym (append-nil gap))
start-alone gap start (u ∷ us) h =
    cond_both (is_needed ((0, 0) ∷ []) start (start + u.bytes))
    (Gap true true gap ∷ Needed u ∷ parts_from ((0, 0) ∷ []) true [] (start + u.bytes) us)
    (parts_from ((0, 0) ∷ []) true (gap ++ u ∷ []) (start + u.bytes) us)
    (λ parts. parts ≡ Gap true false (gap ++ u ∷ us) ∷ [])
    (λ yes. absurd (false≢true (sym
    (or_from (nat_lt 0 (start + u.bytes) && nat_le start 0) false
    (and_right (nat_lt 0 (start + u.bytes)) (nat_le start 0) (lt-leb start 0 h)) refl) ∙ yes)))
    (λ _. start-alone (gap ++ u ∷ []) (start + u.bytes) us (omega arith)
    ∙ ap (λ vs. Gap true false vs ∷ []) (append_assoc gap (u ∷ []) us))

start-ends : (radius : ℕ) (us : List TextUnit) → HaveBytes us
    → EndsInDots (pieces_of radius (parts_from ((0, 0) ∷ []) false [] 0 us))
start-ends radius [] h = tt
start-ends radius (u ∷ us) h =
    cond_both (is_needed ((0, 0) ∷ []) 0 (0 + u.bytes))
    (Gap false true [] ∷ Needed u ∷ parts_from ((0, 0) ∷ []) true [] (0 + u.bytes) us)
    (parts_from ((0, 0) ∷ []) false (u ∷ []) (0 + u.bytes) us)
    (λ parts. EndsInDots (pieces_of radius parts))
    (λ _. subst (λ parts. EndsInDots (pieces_of radius parts))
    (sym (start-alone [] (0 + u.bytes) us (omega (arith, h.0))))
    (subst EndsInDots (sym (append-nil (leave_out (count_within radius us) (length us) us)))
    (leave_out-ends (count_within radius us) us)))
    (λ out. absurd (true≢false (sym
    (ap (λ b. b && true || false) (lt-ltb 0 (0 + u.bytes) (omega (arith, h.0)))) ∙ out)))

no-spans : (label_spans : ℕ → LabelModel → List (ℕ × ℕ)) (line : Line) → line.labels ≡ []
    → AllByRecursion (λ (m : LaneMark). m.multi_label ≡ Left) line.lanes.lane_marks
    → needed_spans label_spans line ≡ (0, 0) ∷ []
no-spans label_spans line none left =
    ap (λ xs. or_line_start (flat_map (label_spans (length line.text)) xs
    ++ mark_list line.lanes.lane_marks)) none
    ∙ ap or_line_start (no_marks line.lanes.lane_marks left)
  where
    mark_list : List LaneMark → List (ℕ × ℕ)
    mark_list ms =
        flat_map
        (λ (m : LaneMark). mark_spans (length line.text) (leading_whitespace line.text)
        m.multi_label) ms

    no_marks : (ms : List LaneMark) → AllByRecursion (λ (m : LaneMark). m.multi_label ≡ Left) ms
        → mark_list ms ≡ []
    no_marks [] h = refl
    no_marks (m ∷ ms) h =
        ap
        (λ k. mark_spans (length line.text) (leading_whitespace line.text) k ++ mark_list ms)
        h.0
        ∙ no_marks ms h.1

pub cut-at-end : (cells tab : ℕ) (line : Line) → IsFittable line → CutAtEnd cells tab line
cut-at-end cells tab line h none left x less k y least before =
    all-before (shortened cells tab line) ends x
    (omega (arith, (shortened-line cells tab line h).bytes)) k y before
  where
    radius : ℕ
    radius = greatest (fits_at cells (chosen_parts cells tab line)) cells

    at : (label_spans : ℕ → LabelModel → List (ℕ × ℕ))
        → EndsInDots (pieces_of radius (parts_of label_spans tab line))
    at label_spans =
        subst
        (λ spans. EndsInDots
        (pieces_of radius (parts_from spans false [] 0 (units_of tab (chars line.text)))))
        (sym (no-spans label_spans line none left))
        (start-ends radius (units_of tab (chars line.text))
        (units-have_bytes tab (chars line.text)))

    ends : EndsInDots (shortened cells tab line)
    ends =
        cond_both (fits_at cells (parts_of whole_span tab line) 0)
        (parts_of whole_span tab line) (parts_of end_spans tab line)
        (λ parts. EndsInDots (pieces_of radius parts)) (λ _. at whole_span) (λ _. at end_spans)
