-- For `HasWidth`: how many cells a line has that is shortened.
use Rattle.codespan_core.proofs.Std.{◌≡◌, ℕ, ◌+◌, ◌-◌, ◌%◌, ◌<◌, ◌≤◌, max, Bool, true, false, ◌==◌}
use Rattle.codespan_core.proofs.Std.{nat_lt, nat_le, List, [], ◌∷◌, ◌++◌, length, take, drop, refl}
use Rattle.codespan_core.proofs.Std.{sym, ap, ◌∙◌, arith, ⊎_elim, ◌⊎◌, inl, inr, zero, suc}
use Rattle.codespan_core.proofs.Std.{cond_both, cases_lt, if◌then◌else◌, unwrap_or, sum_by-cons}
use Rattle.codespan_core.proofs.Std.{len_utf8, len_utf8_bounds, length-append, length-drop, chars}
use Rattle.codespan_core.proofs.Std.{ltb-true, lt-ltb}
use Rattle.std.proofs.lemmas.Bool.{leb-true}
use Rattle.std.proofs.lemmas.List.{length-take}
use Rattle.std.proofs.lemmas.Str.{encodes-chars}
use Rattle.unicode_width.specs.Width.{char_width}
use Rattle.codespan_output.specs.declared.char_metrics.Metrics.{Metrics}
use Rattle.codespan_output.specs.{Line, RowContext, Piece, Kept, Dots, unit_bytes, moved}
use Rattle.codespan_output.specs.{char_metrics, metrics_then, width_at, width_of, cells_at_most}
use Rattle.codespan_output.specs.{shown_text, shown_line, piece_units, piece_cells, past_end, dots}
use Rattle.codespan_output.specs.{line_cells, room, max_label_end, fits_at, parts_of, pieces_of}
use Rattle.codespan_output.specs.{chosen_parts, whole_span, end_spans, greatest, shortened}
use Rattle.codespan_output.specs.{IsFittable, needed_cells, HasWidth}
use Rattle.codespan_output.proofs.Fitting.FittedPieces.{shortened-line}
use Rattle.codespan_output.proofs.Fitting.HangingLabels.{greatest-end}
use Rattle.codespan_output.proofs.Fitting.KeptLabels.{line-keeps}
use Rattle.codespan_output.proofs.Fitting.Moved.{DotsShorten, moved-after_unit, moved-after_dots}
use Rattle.codespan_output.proofs.Fitting.Moved.{moved-rises}
use Rattle.codespan_output.proofs.Fitting.Pieces.{unit_bytes-append}
use Rattle.codespan_output.proofs.Fitting.Spelled.{most_cells, spelled_bytes, PiecesSpell}
use Rattle.codespan_output.proofs.Fitting.Spelled.{shown_chars, chars-shown, spelled-append}
use Rattle.codespan_output.proofs.Fitting.Spelled.{length-encodes}

-- ---- characters

-- a tab has at most the cells between two tab stops
width-most : (tab column c : ℕ) → width_at tab column c ≤ cells_at_most tab c
width-most tab column c = by_test (c == 9)
  where
    by_test : (b : Bool)
        → (if b then (if tab == 0 then 0 else tab - column % tab)
        else unwrap_or (char_width false c) 0)
        ≤ (if b then tab else unwrap_or (char_width false c) 0)
    by_test true =
        cond_both (tab == 0) 0 (tab - column % tab) (λ n. n ≤ tab) (λ _. omega arith)
        (λ _. omega arith)
    by_test false = omega arith

metrics-most : (tab byte_index column : ℕ) (cs : List ℕ)
    → width_of (metrics_then (λ _ _. []) tab byte_index column cs) ≤ most_cells tab cs
metrics-most tab byte_index column [] = omega arith
metrics-most tab byte_index column (c ∷ cs) =
    let m : Metrics = record {
      ch = c;
      byte_index = byte_index;
      bytes = len_utf8 c;
      column = column;
      unicode_width = width_at tab column c;
    } in
    let rest = metrics_then (λ _ _. []) tab (byte_index + len_utf8 c)
    (column + width_at tab column c) cs in
    omega (
      arith,
      sum_by-cons (λ (n : Metrics). n.unicode_width) m rest,
      width-most tab column c,
      metrics-most tab (byte_index + len_utf8 c) (column + width_at tab column c) cs,
    )

most-append : (tab : ℕ) (cs ds : List ℕ)
    → most_cells tab (cs ++ ds) ≡ most_cells tab cs + most_cells tab ds
most-append tab [] ds = omega arith
most-append tab (c ∷ cs) ds = omega (arith, most-append tab cs ds)

most-dots : (tab : ℕ) → most_cells tab dots ≡ 3
unfolding char_width
most-dots tab = refl

-- what is shown has at most the cells of its pieces
shown-most : (tab : ℕ) (ps : List Piece) (cs : List ℕ) (h : PiecesSpell tab ps cs)
    → unit_bytes (piece_units ps) ≡ spelled_bytes cs
    → most_cells tab (shown_chars tab ps cs h) ≤ piece_cells ps
shown-most tab [] [] h all = omega arith
shown-most tab [] (c ∷ cs) h all = absurd (omega (arith, (len_utf8_bounds c).0))
shown-most tab (Kept u ∷ ps) cs h all =
    let rest = shown_chars tab ps h.1 h.4 in
    let left : unit_bytes (piece_units ps) ≡ spelled_bytes h.1 =
    omega (arith, ap spelled_bytes h.2, spelled-append h.0 h.1, h.3) in
    omega (arith, most-append tab h.0 rest, h.5, shown-most tab ps h.1 h.4 left)
shown-most tab (Dots us ∷ ps) cs h all =
    let rest = shown_chars tab ps h.1 h.4 in
    let left : unit_bytes (piece_units ps) ≡ spelled_bytes h.1 =
    omega (
      arith,
      ap spelled_bytes h.2,
      spelled-append h.0 h.1,
      h.3,
      unit_bytes-append us (piece_units ps),
    ) in
    omega (arith, most-append tab dots rest, most-dots tab, shown-most tab ps h.1 h.4 left)

-- so has the text
pub text-most : (tab : ℕ) (ps : List Piece) (line : Line) → IsFittable line
    → PiecesSpell tab ps (chars line.text)
    → unit_bytes (piece_units ps) ≡ length line.text
    → width_of (char_metrics tab (shown_text ps line.text)) ≤ piece_cells ps
text-most tab ps line h spell all =
    let cs = chars line.text in
    let shown = shown_chars tab ps cs spell in
    let same : chars (shown_text ps line.text) ≡ shown =
    chars-shown tab ps line.text h.is_utf8 spell in
    let bytes : unit_bytes (piece_units ps) ≡ spelled_bytes cs =
    all ∙ ap length (sym (encodes-chars line.text h.is_utf8)) ∙ length-encodes cs in
    omega (
      arith,
      ap (λ ds. width_of (metrics_then (λ _ _. []) tab 0 0 ds)) same,
      metrics-most tab 0 0 shown,
      shown-most tab ps cs spell bytes,
    )

-- ---- the cell past the end

-- the end of the text is moved to that of what is shown
pub shown-length : (ps : List Piece) (text : List ℕ) → unit_bytes (piece_units ps) ≤ length text
    → length (shown_text ps text) ≡ moved ps (length text)
shown-length [] text h = refl
shown-length (Kept u ∷ ps) text h =
    let left = length-drop u.bytes text in
    omega (
      arith,
      length-append (take u.bytes text) (shown_text ps (drop u.bytes text)),
      length-take u.bytes text,
      moved-after_unit u ps (length text) (omega arith),
      shown-length ps (drop u.bytes text) (omega (arith, left)),
      ap (moved ps) left,
    )
shown-length (Dots us ∷ ps) text h =
    let split = unit_bytes-append us (piece_units ps) in
    let left = length-drop (unit_bytes us) text in
    omega (
      arith,
      length-append dots (shown_text ps (drop (unit_bytes us) text)),
      moved-after_dots us ps (length text) (omega (arith, split)),
      shown-length ps (drop (unit_bytes us) text) (omega (arith, left, split)),
      ap (moved ps) left,
    )

pub past-less : (ps : List Piece) (line : Line) → DotsShorten ps
    → unit_bytes (piece_units ps) ≤ length line.text
    → past_end (shown_line ps line) ≤ past_end line
past-less ps line short within =
    ⊎_elim
    (λ (a : length line.text < max_label_end line.labels).
    cond_both
    (nat_lt (length (shown_text ps line.text)) (max_label_end (shown_line ps line).labels)) 1 0
    (λ n. n ≤ past_end line)
    (λ _. omega (
      arith,
      ap {B = ℕ} (λ b. if b then 1 else 0)
          (lt-ltb (length line.text) (max_label_end line.labels) a),
    ))
    (λ _. omega arith))
    (λ (a : max_label_end line.labels ≤ length line.text).
    cond_both
    (nat_lt (length (shown_text ps line.text)) (max_label_end (shown_line ps line).labels)) 1 0
    (λ n. n ≤ past_end line)
    (λ more. absurd (omega (
      arith,
      ltb-true (length (shown_text ps line.text)) (max_label_end (shown_line ps line).labels) more,
      greatest-end ps short line.labels,
      shown-length ps line.text within,
      moved-rises ps (max_label_end line.labels) (length line.text) a,
    )))
    (λ _. omega arith))
    (cases_lt (length line.text) (max_label_end line.labels))

-- ---- the radius

pub greatest-passes : (passes : ℕ → Bool) (n : ℕ)
    → (passes (greatest passes n) ≡ true) ⊎ (greatest passes n ≡ 0)
greatest-passes passes zero = inr refl
greatest-passes passes (suc n) =
    cond_both (passes (suc n)) (suc n) (greatest passes n)
    (λ k. (passes k ≡ true) ⊎ (k ≡ 0)) (λ yes. inl yes) (λ _. greatest-passes passes n)

-- a line that is shortened has at most so many cells, or those that are needed
shortened-cells : (cells tab : ℕ) (line : Line)
    → piece_cells (shortened cells tab line)
    ≤ max cells (piece_cells (pieces_of 0 (parts_of end_spans tab line)))
shortened-cells cells tab line =
    ⊎_elim
    (λ (a : fits_at cells (chosen_parts cells tab line) radius ≡ true).
    omega (arith, leb-true (piece_cells (shortened cells tab line)) cells a))
    (λ (a : radius ≡ 0).
    omega (arith, ap (λ r. piece_cells (pieces_of r (chosen_parts cells tab line))) a, least))
    (greatest-passes (fits_at cells (chosen_parts cells tab line)) cells)
  where
    radius : ℕ
    radius = greatest (fits_at cells (chosen_parts cells tab line)) cells

    least : piece_cells (pieces_of 0 (chosen_parts cells tab line))
        ≤ max cells (piece_cells (pieces_of 0 (parts_of end_spans tab line)))
    least =
        cond_both (fits_at cells (parts_of whole_span tab line) 0)
        (parts_of whole_span tab line) (parts_of end_spans tab line)
        (λ parts. piece_cells (pieces_of 0 parts)
        ≤ max cells (piece_cells (pieces_of 0 (parts_of end_spans tab line))))
        (λ fits. omega (
          arith,
          leb-true (piece_cells (pieces_of 0 (parts_of whole_span tab line))) cells fits,
        ))
        (λ _. omega arith)

-- ---- lines that fit

pub has-width : (width : ℕ) (context : RowContext) (line : Line) → IsFittable line
    → HasWidth width context line
has-width width context line h =
    cond_both (nat_le (line_cells tab line) left) [] (shortened (left - past_end line) tab line)
    (λ ps. line_cells tab (shown_line ps line) ≤ max left (needed_cells tab line))
    (λ fits. omega (
      arith,
      leb-true (line_cells tab line) left fits,
      past-less [] line tt (omega arith),
    ))
    (λ _. short)
  where
    tab : ℕ
    tab = context.tab_width

    left : ℕ
    left = room width context.padding line.lanes

    short : line_cells tab (shown_line (shortened (left - past_end line) tab line) line)
        ≤ max left (needed_cells tab line)
    short =
        let ps = shortened (left - past_end line) tab line in
        let is_line = shortened-line (left - past_end line) tab line h in
        let keeps = line-keeps tab line ps is_line in
        let cells : width_of (char_metrics tab (shown_text ps line.text)) ≤ piece_cells ps =
        text-most tab ps line h keeps.spell is_line.bytes in
        let past : past_end (shown_line ps line) ≤ past_end line =
        past-less ps line keeps.short (omega (arith, is_line.bytes)) in
        let most = shortened-cells (left - past_end line) tab line in
        omega (arith, cells, past, most)
