-- For `text_fits`: the cells of the characters of a text, one after another.
use Rattle.codespan_core.proofs.Std.{◌≡◌, ℕ, zero, suc, ◌+◌, ◌-◌, ◌<◌, ◌≤◌}
use Rattle.codespan_core.proofs.Std.{List, [], ◌∷◌, ◌++◌, length, take, drop, get_or, refl}
use Rattle.codespan_core.proofs.Std.{ap, sym, ◌∙◌, subst, arith, nat_le, true, false}
use Rattle.codespan_core.proofs.Std.{le-leb, lt-leb, ⊎_elim, cases_lt}
use Rattle.codespan_core.proofs.Std.{length-drop, get_or-drop, length-take-le, IsUtf8, chars}
use Rattle.codespan_core.proofs.Std.{encode_utf8, len_utf8, sum_by-cons}
use Rattle.std.proofs.lemmas.List.{get_or-take}
use Rattle.std.proofs.lemmas.Str.{IsUtf8-past_char, chars_past_char, chars-nil, encode_ascii}
use Rattle.codespan_output.specs.declared.char_metrics.Metrics.{Metrics}
use Rattle.codespan_output.specs.CharMetrics.{char_metrics, metrics_then, width_at, width_of}
use Rattle.codespan_fitting.specs.Walks.{IsPrintableAt}
use Rattle.codespan_fitting.proofs.CellSteps.{width_at-printable}

-- ---- printable bytes

-- a block of them more
pub printable-more : (bytes : List ℕ) (len n : ℕ)
    → ((k : ℕ) → k < len → IsPrintableAt bytes k)
    → ((k : ℕ) → k < length (take n (drop len bytes))
    → IsPrintableAt (take n (drop len bytes)) k)
    → len + n ≤ length bytes → (k : ℕ) → k < len + n → IsPrintableAt bytes k
printable-more bytes len n before block room k h =
    ⊎_elim (before k)
    (λ past.
    let size : length (take n (drop len bytes)) ≡ n =
    length-take-le n (drop len bytes) (omega (arith, length-drop len bytes, room)) in
    let short : k - len < n = omega (arith, h, past) in
    let same : get_or (take n (drop len bytes)) (k - len) 0 ≡ get_or bytes k 0 =
    get_or-take n (drop len bytes) (k - len) 0 short
    ∙ get_or-drop len bytes (k - len) 0
    ∙ ap (λ i. get_or bytes i 0) (omega (arith, past)) in
    subst (λ x. (32 ≤ x) × (x ≤ 126)) same (block (k - len) (omega (arith, size, short))))
    (cases_lt k len)

-- ---- cells

-- the cells of these characters, the first at this column
abbrev pub cells_from : ℕ → ℕ → List ℕ → ℕ
cells_from tab column [] = 0
cells_from tab column (c ∷ cs) =
    width_at tab column c + cells_from tab (column + width_at tab column c) cs

-- these are the cells of a line
metrics-cells : (tab byte_index column : ℕ) (cs : List ℕ)
    → width_of (metrics_then (λ _ _. []) tab byte_index column cs) ≡ cells_from tab column cs
metrics-cells tab byte_index column [] = refl
metrics-cells tab byte_index column (c ∷ cs) =
    sum_by-cons (λ (m : Metrics). m.unicode_width)
    (record {
      ch = c;
      byte_index = byte_index;
      bytes = len_utf8 c;
      column = column;
      unicode_width = width_at tab column c;
    })
    (metrics_then (λ _ _. []) tab (byte_index + len_utf8 c) (column + width_at tab column c) cs)
    ∙ ap (λ n. width_at tab column c + n)
    (metrics-cells tab (byte_index + len_utf8 c) (column + width_at tab column c) cs)

pub text-cells : (tab : ℕ) (text : List ℕ)
    → width_of (char_metrics tab text) ≡ cells_from tab 0 (chars text)
text-cells tab text = metrics-cells tab 0 0 (chars text)

-- printable bytes at the start of a text have a cell each
pub cells-plain : (tab column : ℕ) (text : List ℕ) (n : ℕ) → IsUtf8 text
    → n ≤ length text
    → ((k : ℕ) → k < n → IsPrintableAt text k)
    → cells_from tab column (chars text)
    ≡ n + cells_from tab (column + n) (chars (drop n text))
cells-plain tab column text zero u within plain =
    let same : column + 0 ≡ column = omega arith in
    omega (arith, ap (λ at. cells_from tab at (chars text)) same)
cells-plain tab column [] (suc n) u within plain = absurd (omega arith)
cells-plain tab column (b ∷ bs) (suc n) u within plain =
    let first = plain 0 (omega arith) in
    let one : b ∷ bs ≡ encode_utf8 b ++ bs =
    ap (λ xs. xs ++ bs) (sym (encode_ascii b (omega (arith, first.1)))) in
    let cell : 1 ≡ width_at tab column b = width_at-printable tab column b first.0 first.1 in
    let rest = cells-plain tab (column + 1) bs n (IsUtf8-past_char (b ∷ bs) bs b u one)
    (omega arith) (λ k h. plain (suc k) (omega arith)) in
    let from : column + 1 + n ≡ column + suc n = omega arith in
    ap (cells_from tab column) (chars_past_char (b ∷ bs) bs b u one)
    ∙ ap (λ w. w + cells_from tab (column + w) (chars bs)) (sym cell)
    ∙ omega (arith, rest, ap (λ at. cells_from tab at (chars (drop n bs))) from)

-- one character more
pub cells-step : (tab column cells c : ℕ) (rest next : List ℕ) → IsUtf8 rest
    → rest ≡ encode_utf8 c ++ next → cells ≡ width_at tab column c
    → cells_from tab column (chars rest)
    ≡ cells + cells_from tab (column + cells) (chars next)
cells-step tab column cells c rest next u e is = rw (chars_past_char rest next c u e, is) refl

-- none is left
pub cells-end : (tab column : ℕ) (rest : List ℕ) → length rest ≡ 0
    → cells_from tab column (chars rest) ≡ 0
cells-end tab column [] e = ap (cells_from tab column) chars-nil
cells-end tab column (b ∷ bs) e = absurd (omega arith)

-- ---- what `text_fits` returns

pub fits-not : (tab left : ℕ) (text : List ℕ) → left < cells_from tab 0 (chars text)
    → false ≡ nat_le (width_of (char_metrics tab text)) left
fits-not tab left text more =
    sym (lt-leb (width_of (char_metrics tab text)) left (omega (arith, text-cells tab text, more)))

pub fits-all : (tab left : ℕ) (text : List ℕ) → cells_from tab 0 (chars text) ≤ left
    → true ≡ nat_le (width_of (char_metrics tab text)) left
fits-all tab left text fits =
    sym (le-leb (width_of (char_metrics tab text)) left (omega (arith, text-cells tab text, fits)))
