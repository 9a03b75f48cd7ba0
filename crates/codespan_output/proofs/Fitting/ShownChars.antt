-- For `CharsAreShown`: a kept character of a line is one of the line that is shown.
use Rattle.codespan_core.proofs.Std.{◌≡◌, ℕ, ◌+◌, ◌-◌, ◌<◌, ◌≤◌, true, List, [], ◌∷◌, ◌++◌, ◌⊎◌}
use Rattle.codespan_core.proofs.Std.{inl, inr, sym, ap, subst, ◌∙◌, arith, ⊎_elim, len_utf8}
use Rattle.codespan_core.proofs.Std.{len_utf8_bounds, chars, false≢true, Contains}
use Rattle.std.proofs.lemmas.List.Elements.{Contains-append_left, Contains-append_right}
use Rattle.std.proofs.lemmas.List.Elements.{Contains-append_cases, Contains-push}
use Rattle.std.proofs.lemmas.List.Elements.{Contains-push_cases}
use Rattle.codespan_output.specs.declared.char_metrics.Metrics.{Metrics}
use Rattle.codespan_output.specs.{HasCharAt, char_metrics, CharsAreShown, IsFittable, Line}
use Rattle.codespan_output.specs.{shown_text, Piece, Kept, Dots, unit_bytes, moved, is_kept, dots}
use Rattle.codespan_output.specs.{metrics_then, width_at}
use Rattle.codespan_output.proofs.Fitting.KeptLabels.{KeepsLabels}
use Rattle.codespan_output.proofs.Fitting.Moved.{moved-in_unit, moved-after_unit, moved-after_dots}
use Rattle.codespan_output.proofs.Fitting.Moved.{kept-after_unit, kept-in_dots, kept-after_dots}
use Rattle.codespan_output.proofs.Fitting.Spelled.{PiecesSpell, shown_chars, spelled_bytes}
use Rattle.codespan_output.proofs.Fitting.Spelled.{chars-shown}

-- the character begins at this byte of these
abbrev pub BeginsAt : ℕ → ℕ → List ℕ → Type 0
BeginsAt c x [] = ⊥
BeginsAt c x (d ∷ ds) =
    ((c ≡ d) × (x ≡ 0)) ⊎ ((len_utf8 d ≤ x) × BeginsAt c (x - len_utf8 d) ds)

-- it does so in one of two lists
begins-parts : (c x : ℕ) (ds es : List ℕ) → BeginsAt c x (ds ++ es)
    → ((x < spelled_bytes ds) × BeginsAt c x ds)
    ⊎ ((spelled_bytes ds ≤ x) × BeginsAt c (x - spelled_bytes ds) es)
begins-parts c x [] es h =
    let e : x ≡ x - 0 = omega arith in
    inr ((omega arith, subst (λ n. BeginsAt c n es) e h))
begins-parts c x (d ∷ ds) es (inl a) =
    inl ((omega (arith, a.1, (len_utf8_bounds d).0), inl a))
begins-parts c x (d ∷ ds) es (inr a) =
    ⊎_elim
    (λ (b : (x - len_utf8 d < spelled_bytes ds) × BeginsAt c (x - len_utf8 d) ds).
    inl ((omega (arith, a.0, b.0), inr ((a.0, b.1)))))
    (λ (b : (spelled_bytes ds ≤ x - len_utf8 d)
    × BeginsAt c (x - len_utf8 d - spelled_bytes ds) es).
    let e : x - len_utf8 d - spelled_bytes ds ≡ x - (len_utf8 d + spelled_bytes ds) =
    omega arith in
    inr ((omega (arith, a.0, b.0), subst (λ n. BeginsAt c n es) e b.1)))
    (begins-parts c (x - len_utf8 d) ds es a.1)

begins-first : (c x : ℕ) (ds es : List ℕ) → BeginsAt c x ds → BeginsAt c x (ds ++ es)
begins-first c x [] es h = absurd h
begins-first c x (d ∷ ds) es (inl a) = inl a
begins-first c x (d ∷ ds) es (inr a) = inr ((a.0, begins-first c (x - len_utf8 d) ds es a.1))

begins-later : (c x : ℕ) (ds es : List ℕ) → BeginsAt c x es
    → BeginsAt c (spelled_bytes ds + x) (ds ++ es)
begins-later c x [] es h =
    let e : x ≡ 0 + x = omega arith in subst (λ n. BeginsAt c n es) e h
begins-later c x (d ∷ ds) es h =
    let e : spelled_bytes ds + x ≡ len_utf8 d + spelled_bytes ds + x - len_utf8 d =
    omega arith in
    inr ((omega arith, subst (λ n. BeginsAt c n (ds ++ es)) e (begins-later c x ds es h)))

-- a character that is kept is shown where it is moved to
pub begins-moved : (tab : ℕ) (ps : List Piece) (cs : List ℕ) (h : PiecesSpell tab ps cs)
    → (c x : ℕ) → is_kept ps x ≡ true → BeginsAt c x cs
    → BeginsAt c (moved ps x) (shown_chars tab ps cs h)
begins-moved tab [] cs h c x k at = at
begins-moved tab (Kept u ∷ ps) cs h c x k at =
    ⊎_elim
    (λ (a : (x < spelled_bytes h.0) × BeginsAt c x h.0).
    subst (λ n. BeginsAt c n (h.0 ++ shown_chars tab ps h.1 h.4))
    (sym (moved-in_unit u ps x (omega (arith, a.0, h.3))))
    (begins-first c x h.0 (shown_chars tab ps h.1 h.4) a.1))
    (λ (a : (spelled_bytes h.0 ≤ x) × BeginsAt c (x - spelled_bytes h.0) h.1).
    let b : u.bytes ≤ x = omega (arith, a.0, h.3) in
    let e : x - spelled_bytes h.0 ≡ x - u.bytes = omega (arith, h.3) in
    let f : spelled_bytes h.0 + moved ps (x - u.bytes) ≡ moved (Kept u ∷ ps) x =
    omega (arith, moved-after_unit u ps x b, h.3) in
    subst (λ n. BeginsAt c n (h.0 ++ shown_chars tab ps h.1 h.4)) f
    (begins-later c (moved ps (x - u.bytes)) h.0 (shown_chars tab ps h.1 h.4)
    (begins-moved tab ps h.1 h.4 c (x - u.bytes) (sym (kept-after_unit u ps x b) ∙ k)
    (subst (λ n. BeginsAt c n h.1) e a.1))))
    (begins-parts c x h.0 h.1 (subst (BeginsAt c x) h.2 at))
begins-moved tab (Dots us ∷ ps) cs h c x k at =
    ⊎_elim
    (λ (a : (x < spelled_bytes h.0) × BeginsAt c x h.0).
    absurd (false≢true (sym (kept-in_dots us ps x (omega (arith, a.0, h.3))) ∙ k)))
    (λ (a : (spelled_bytes h.0 ≤ x) × BeginsAt c (x - spelled_bytes h.0) h.1).
    let b : unit_bytes us ≤ x = omega (arith, a.0, h.3) in
    let e : x - spelled_bytes h.0 ≡ x - unit_bytes us = omega (arith, h.3) in
    let f : 3 + moved ps (x - unit_bytes us) ≡ moved (Dots us ∷ ps) x =
    omega (arith, moved-after_dots us ps x b) in
    subst (λ n. BeginsAt c n (dots ++ shown_chars tab ps h.1 h.4)) f
    (begins-later c (moved ps (x - unit_bytes us)) dots (shown_chars tab ps h.1 h.4)
    (begins-moved tab ps h.1 h.4 c (x - unit_bytes us) (sym (kept-after_dots us ps x b) ∙ k)
    (subst (λ n. BeginsAt c n h.1) e a.1))))
    (begins-parts c x h.0 h.1 (subst (BeginsAt c x) h.2 at))

-- ---- characters with their cells

-- where each character begins
metrics-begin : (tab byte_index column : ℕ) (cs : List ℕ) (m : Metrics)
    → Contains (metrics_then (λ _ _. []) tab byte_index column cs) m
    → (byte_index ≤ m.byte_index) × BeginsAt m.ch (m.byte_index - byte_index) cs
metrics-begin tab byte_index column [] m h = absurd (omega (arith, h.1))
metrics-begin tab byte_index column (c ∷ cs) m h =
    ⊎_elim
    (λ (a : Contains (first ∷ []) m). ⊎_elim
    (λ (b : Contains [] m). absurd (omega (arith, b.1)))
    (λ (b : first ≡ m).
    let at : byte_index ≡ m.byte_index = ap (λ (n : Metrics). n.byte_index) b in
    (omega arith, inl ((sym (ap (λ (n : Metrics). n.ch) b), omega arith))))
    (Contains-push_cases [] first m a))
    (λ (a : Contains rest m).
    let later = metrics-begin tab (byte_index + len_utf8 c) (column + width_at tab column c) cs m
    a in
    let e : m.byte_index - (byte_index + len_utf8 c) ≡ m.byte_index - byte_index - len_utf8 c =
    omega arith in (
      omega (arith, later.0),
      inr ((omega (arith, later.0), subst (λ n. BeginsAt m.ch n cs) e later.1)),
    ))
    (Contains-append_cases (first ∷ []) rest m h)
  where
    first : Metrics
    first = record {
      ch = c;
      byte_index = byte_index;
      bytes = len_utf8 c;
      column = column;
      unicode_width = width_at tab column c;
    }

    rest : List Metrics
    rest =
        metrics_then (λ _ _. []) tab (byte_index + len_utf8 c) (column + width_at tab column c) cs

-- there is a character where one begins
begin-metrics : (tab byte_index column : ℕ) (cs : List ℕ) (c x : ℕ) → BeginsAt c x cs
    → HasCharAt (metrics_then (λ _ _. []) tab byte_index column cs) c (byte_index + x)
begin-metrics tab byte_index column [] c x h = absurd h
begin-metrics tab byte_index column (d ∷ ds) c x (inl a) =
    let first : Metrics = record {
      ch = d;
      byte_index = byte_index;
      bytes = len_utf8 d;
      column = column;
      unicode_width = width_at tab column d;
    } in
    let rest = metrics_then (λ _ _. []) tab (byte_index + len_utf8 d)
    (column + width_at tab column d) ds in
    record {
      metrics = first;
      contains = Contains-append_left (first ∷ []) rest first (Contains-push [] first);
      is_char = sym a.0;
      is_there = omega (arith, a.1);
    }
begin-metrics tab byte_index column (d ∷ ds) c x (inr a) =
    let first : Metrics = record {
      ch = d;
      byte_index = byte_index;
      bytes = len_utf8 d;
      column = column;
      unicode_width = width_at tab column d;
    } in
    let rest = metrics_then (λ _ _. []) tab (byte_index + len_utf8 d)
    (column + width_at tab column d) ds in
    let later = begin-metrics tab (byte_index + len_utf8 d) (column + width_at tab column d) ds c
    (x - len_utf8 d) a.1 in
    record {
      metrics = later.metrics;
      contains = Contains-append_right (first ∷ []) rest later.metrics later.contains;
      is_char = later.is_char;
      is_there = omega (arith, later.is_there, a.0);
    }

-- a kept character is shown where it is moved to
pub chars-are-shown : (tab : ℕ) (ps : List Piece) (line : Line) → IsFittable line
    → KeepsLabels tab ps line
    → CharsAreShown tab ps line
chars-are-shown tab ps line h keeps c has kept =
    let at = metrics-begin tab 0 0 (chars line.text) c has in
    let e : c.byte_index - 0 ≡ c.byte_index = omega arith in
    let there = begins-moved tab ps (chars line.text) keeps.spell c.ch c.byte_index
    (kept.are c.byte_index (omega arith) (omega (arith, kept.has_bytes)))
    (subst (λ n. BeginsAt c.ch n (chars line.text)) e at.1) in
    let zero : 0 + moved ps c.byte_index ≡ moved ps c.byte_index = omega arith in
    subst (HasCharAt (char_metrics tab (shown_text ps line.text)) c.ch) zero
    (begin-metrics tab 0 0 (chars (shown_text ps line.text)) c.ch (moved ps c.byte_index)
    (subst (BeginsAt c.ch (moved ps c.byte_index))
    (sym (chars-shown tab ps line.text h.is_utf8 keeps.spell)) there))
