-- The lines of a text are between its starts of lines, for the clause of `lines_of`.
use Rattle.codespan_core.proofs.Std.{inl, inr, ◌≡◌, ◌≢◌, ℕ, zero, suc, ◌+◌}
use Rattle.codespan_core.proofs.Std.{◌-◌, ◌<◌, ◌≤◌, Bool, true, false, cond, List, []}
use Rattle.codespan_core.proofs.Std.{◌∷◌, ◌++◌, length, get_or, take, drop, refl, sym, ap}
use Rattle.codespan_core.proofs.Std.{◌∙◌, subst, arith, append_assoc, append-nil, length-drop}
use Rattle.codespan_core.proofs.Std.{◌==◌, slice_range, cases_lt, nat_tests, drop_more}
use Rattle.codespan_core.proofs.Std.{drop_all, get_or-drop, drop-drop, nat_lt, if◌then◌else◌}
use Rattle.codespan_core.proofs.Std.{lt-ltb, le-ltb, eq-eqb, ltb-true, ltb-false, eqb-true}
use Rattle.codespan_core.proofs.Std.{true≢false, IsUtf8, IsCharBoundary}
use Rattle.codespan_core.specs.Lines.{line_starts_of, starts_after}
use Rattle.codespan_core.specs.Lemmas.Simple.{start_cut, ascending}
use Rattle.codespan_edits.specs.Diffs.{byte_before, lines}

-- a byte that is no newline does not end a line
no-newline : (b : ℕ) → b ≢ 10 → (b == 10) ≡ false
no-newline b h = grind (arith, nat_tests)

-- the first line of a text, up to its first newline
cut-line : (n : ℕ) (bs : List ℕ) → n < length bs →
    ((k : ℕ) → k < n → get_or bs k 0 ≢ 10)
    → get_or bs n 0 ≡ 10 → lines bs ≡ take (n + 1) bs ∷ lines (drop (n + 1) bs)
cut-line n [] h none newline = absurd (omega (arith, h))
cut-line zero (b ∷ bs) h none newline = rw newline refl
cut-line (suc n) (b ∷ bs) h none newline =
    let step : suc n + 1 ≡ suc (n + 1) = omega arith in
    ap (λ t. cond t ((b ∷ []) ∷ lines bs) (byte_before b (lines bs)))
    (no-newline b (none 0 (omega arith)))
    ∙ (ap (byte_before b)
    (cut-line n bs (omega (arith, h)) (λ k i. none (suc k) (omega (arith, i))) newline)
    ∙ ap (λ m. take m (b ∷ bs) ∷ lines (drop m (b ∷ bs))) (sym step))

-- the only line of a text without a newline
last-line : (bs : List ℕ) → 0 < length bs →
    ((k : ℕ) → k < length bs → get_or bs k 0 ≢ 10)
    → lines bs ≡ bs ∷ []
last-line [] h none = absurd (omega (arith, h))
last-line (b ∷ []) h none =
    ap (λ t. cond t ((b ∷ []) ∷ []) (byte_before b [])) (no-newline b (none 0 (omega arith)))
last-line (b ∷ (c ∷ cs)) h none =
    ap (λ t. cond t ((b ∷ []) ∷ lines (c ∷ cs)) (byte_before b (lines (c ∷ cs))))
    (no-newline b (none 0 (omega arith)))
    ∙ ap (byte_before b)
    (last-line (c ∷ cs) (omega arith) (λ k i. none (suc k) (omega (arith, i))))

-- one more byte is no newline
unbroken-more : (text : List ℕ) (start i : ℕ)
    → ((k : ℕ) → start + k < i → get_or text (start + k) 0 ≢ 10) → get_or text i 0 ≢
    10
    → (k : ℕ) → start + k < i + 1 → get_or text (start + k) 0 ≢ 10
unbroken-more text start i unbroken other k h =
    elim (cases_lt (start + k) i) [
      | inl before ↦ unbroken k before
      | inr after ↦
          let here : i ≡ start + k = omega (arith, h, after) in
          subst (λ n. get_or text n 0 ≢ 10) here other
    ]

-- the parts of a text between starts of lines, of which the first is given, and what follows the
-- last one
abbrev pub cut_at : List ℕ → ℕ → List ℕ → List (List ℕ)
cut_at text s [] = if nat_lt s (length text) then drop s text ∷ [] else []
cut_at text s (n ∷ ns) = slice_range text s n ∷ cut_at text n ns

-- what follows the last start is the last line
cut-last : (text : List ℕ) (s : ℕ)
    → ((k : ℕ) → s + k < length text → get_or text (s + k) 0 ≢ 10)
    → cut_at text s [] ≡ lines (drop s text)
cut-last text s unbroken = by_test (nat_lt s (length text)) refl where
  by_test : (t : Bool) → nat_lt s (length text) ≡ t
      → (if t then drop s text ∷ [] else []) ≡ lines (drop s text)
  by_test true h =
      let inside : s < length text = ltb-true s (length text) h in
      sym (last-line (drop s text) (omega (arith, length-drop s text, inside))
      (λ k i. subst (λ b. b ≢ 10) (sym (get_or-drop s text k 0))
      (unbroken k (omega (arith, i, length-drop s text)))))
  by_test false h = ap lines (sym (drop_all s text (ltb-false s (length text) h)))

-- from a start on, where no newline is up to an index, the parts are the lines
cut-lines : (text : List ℕ) (s i : ℕ) (bs : List ℕ) → s ≤ i → i ≤ length text
    → drop i text ≡ bs → ((k : ℕ) → s + k < i → get_or text (s + k) 0 ≢ 10)
    → cut_at text s (starts_after i bs) ≡ lines (drop s text)
cut-lines text s i [] up within is unbroken =
    let end : length text ≤ i = omega (arith, length-drop i text, ap length is) in
    cut-last text s (λ k h. unbroken k (omega (arith, h, end)))
cut-lines text s i (b ∷ bs) up within is unbroken =
    by_test (b == 10) refl (cut-lines text (i + 1) (i + 1) bs (omega arith) next rest
    (λ k h. absurd (omega (arith, h))))
    (λ other. cut-lines text s (i + 1) bs (omega (arith, up)) next rest
    (unbroken-more text s i unbroken other))
  where
    next : i + 1 ≤ length text
    next = omega (arith, length-drop i text, ap length is)

    rest : drop (i + 1) text ≡ bs
    rest = sym (drop-drop 1 i text) ∙ ap (drop 1) is

    here : get_or text i 0 ≡ b
    here =
        ap (λ n. get_or text n 0) (omega arith)
        ∙ (sym (get_or-drop i text 0 0) ∙ ap (λ xs. get_or xs 0 0) is)

    by_test : (t : Bool) → (b == 10) ≡ t
        → cut_at text (i + 1) (starts_after (i + 1) bs) ≡ lines (drop (i + 1) text)
        → (get_or text i 0 ≢ 10
        → cut_at text s (starts_after (i + 1) bs) ≡ lines (drop s text))
        → cut_at text s (if t then (i + 1) ∷ starts_after (i + 1) bs
        else starts_after (i + 1) bs) ≡ lines (drop s text)
    by_test true h later on =
        let n = i - s in
        let size : i - s + 1 ≡ i + 1 - s = omega (arith, up) in
        let end : s + (i - s + 1) ≡ i + 1 = omega (arith, up) in
        let last : s + (i - s) ≡ i = omega (arith, up) in
        let cut : lines (drop s text)
        ≡ take (n + 1) (drop s text) ∷ lines (drop (n + 1) (drop s text)) =
        cut-line n (drop s text) (omega (arith, length-drop s text, up, next))
        (λ k g. subst (λ x. x ≢ 10) (sym (get_or-drop s text k 0))
        (unbroken k (omega (arith, g, up))))
        (get_or-drop s text n 0 ∙ (ap (λ m. get_or text m 0) last
        ∙ (here ∙ eqb-true b 10 h))) in
        ap (λ ls. slice_range text s (i + 1) ∷ ls) later
        ∙ (ap (λ m. take m (drop s text) ∷ lines (drop (i + 1) text)) (sym size)
        ∙ (ap (λ xs. take (n + 1) (drop s text) ∷ lines xs)
        (sym (drop-drop (n + 1) s text ∙ ap (λ m. drop m text) end)) ∙ sym cut))
    by_test false h later on = on (λ e. true≢false (sym (eq-eqb b 10 (sym here ∙ e)) ∙ h))

-- all parts are the lines of the text
pub cut-all : (text starts : List ℕ) → starts ≡ line_starts_of text
    → cut_at text (get_or starts (1 - 1) 0) (drop 1 starts) ≡ lines text
cut-all text starts is =
    ap (λ xs. cut_at text (get_or xs (1 - 1) 0) (drop 1 xs)) is
    ∙ cut-lines text 0 0 text (omega arith) (omega arith) refl (λ k h. absurd (omega (arith, h)))

-- in the loop over the starts, at the index i: one more part
pub cut-more : (text starts : List ℕ) (i : ℕ) (done new all : List (List ℕ)) (part : List ℕ)
    → 1 ≤ i → i < length starts → new ≡ done ++ part ∷ []
    → part ≡ slice_range text (get_or starts (i - 1) 0) (get_or starts i 0)
    → done ++ cut_at text (get_or starts (i - 1) 0) (drop i starts) ≡ all
    → new ++ cut_at text (get_or starts (i + 1 - 1) 0) (drop (i + 1) starts) ≡ all
cut-more text starts i done new all part from inside pushed is was =
    let same : i + 1 - 1 ≡ i = omega arith in
    let s = get_or starts (i - 1) 0 in
    let rest = cut_at text (get_or starts i 0) (drop (i + 1) starts) in
    rw (same, pushed, is)
    (append_assoc done (slice_range text s (get_or starts i 0) ∷ []) rest
    ∙ (ap (λ xs. done ++ cut_at text s xs) (sym (drop_more starts i 0 inside)) ∙ was))

-- what follows the last start, if there is something
pub cut-end : (text starts : List ℕ) (i last : ℕ) (done new all : List (List ℕ))
    (part : List ℕ)
    → i ≡ length starts → last ≡ get_or starts (length starts - 1) 0 → last < length text
    → new ≡ done ++ part ∷ [] → part ≡ drop last text
    → done ++ cut_at text (get_or starts (i - 1) 0) (drop i starts) ≡ all → new ≡ all
cut-end text starts i last done new all part end is inside pushed part_is was =
    pushed ∙ (ap (λ l. done ++ l ∷ []) part_is
    ∙ (ap (λ t. done ++ (if t then drop last text ∷ [] else []))
    (sym (lt-ltb last (length text) inside))
    ∙ (ap (λ s. done ++ cut_at text s []) (is ∙ ap (λ n. get_or starts (n - 1) 0) (sym end))
    ∙ (ap (λ xs. done ++ cut_at text (get_or starts (i - 1) 0) xs)
    (sym (drop_all i starts (omega (arith, end)))) ∙ was))))

-- or nothing
pub cut-none : (text starts : List ℕ) (i last : ℕ) (done all : List (List ℕ))
    → i ≡ length starts → last ≡ get_or starts (length starts - 1) 0
    → length text ≤ last
    → done ++ cut_at text (get_or starts (i - 1) 0) (drop i starts) ≡ all → done ≡ all
cut-none text starts i last done all end is past was =
    sym (append-nil done)
    ∙ (ap (λ t. done ++ (if t then drop last text ∷ [] else []))
    (sym (le-ltb last (length text) past))
    ∙ (ap (λ s. done ++ cut_at text s []) (is ∙ ap (λ n. get_or starts (n - 1) 0) (sym end))
    ∙ (ap (λ xs. done ++ cut_at text (get_or starts (i - 1) 0) xs)
    (sym (drop_all i starts (omega (arith, end)))) ∙ was)))

-- a start is a boundary of characters
pub start-boundary : (text starts : List ℕ) (i n : ℕ) → IsUtf8 text
    → starts ≡ line_starts_of text
    → i < length starts → n ≡ get_or starts i 0 → IsCharBoundary text n
start-boundary text starts i n utf8 is inside n_is =
    subst (IsCharBoundary text) (sym (n_is ∙ ap (λ xs. get_or xs i 0) is))
    (start_cut text utf8 i (subst (λ xs. i < length xs) is inside))

-- and at the next one or before it
pub start-before : (text starts : List ℕ) (i n m : ℕ) → starts ≡ line_starts_of text
    → 1 ≤ i → i < length starts → n ≡ get_or starts (i - 1) 0 → m ≡ get_or starts i 0
    → n ≤ m
start-before text starts i n m is from inside n_is m_is =
    let prior : i - 1 + 1 ≡ i = omega (arith, from) in
    let there : i < length (line_starts_of text) = subst (λ xs. i < length xs) is inside in
    let up = ascending text (i - 1) (omega (arith, prior, there)) in
    omega (
      arith,
      up,
      n_is ∙ ap (λ xs. get_or xs (i - 1) 0) is,
      m_is ∙ ap (λ xs. get_or xs i 0) is,
      ap (λ k. get_or (line_starts_of text) k 0) prior,
    )
