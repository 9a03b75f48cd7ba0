-- A safe text, as it is made: for the clauses of `safe::push_safe` and `terminal::push_text`.
use Rattle.std.proofs.Common.{◌≡◌, ◌≤◌, ◌-◌, ℕ, Option, None, Some, List, []}
use Rattle.std.proofs.Common.{◌∷◌, ◌++◌, drop, get_or, length, map, take, refl, sym, ap}
use Rattle.std.proofs.Common.{◌∙◌, append_assoc, append-nil, arith, string_bytes}
use Rattle.std.specs.Char.{encode_utf8}
use Rattle.std.specs.List.{cons_option}
use Rattle.std.specs.Str.{encode_utf8_all}
use Rattle.std.proofs.lemmas.List.{take_all}
use Rattle.std.proofs.lemmas.List.Elements.{filter_map-append}
use Rattle.std.proofs.lemmas.Str.{encodes-append}
use Rattle.codespan_base.specs.declared.term.config.styles.Styles.{Styles}
use Rattle.codespan_styled.specs.declared.text.Run.{Run}
use Rattle.codespan_styled.specs.Runs.{run_view}
use Rattle.codespan_styled.specs.SafeText.{safe_characters, safe_text, shown_character}
use Rattle.codespan_styled.specs.Terminal.{first_sequences, runs_bytes, terminal_text}

-- what is shown for the next character goes to the end
pub pushed_shown : (start now next cs : List ℕ) (c shown : ℕ)
    → now ≡ start ++ encode_utf8_all (safe_characters cs) → shown_character c ≡ Some shown
    → next ≡ now ++ encode_utf8 shown
    → next ≡ start ++ encode_utf8_all (safe_characters (cs ++ c ∷ []))
pushed_shown start now next cs c shown h is e =
    let before = encode_utf8_all (safe_characters cs) in
    let kept : safe_characters (cs ++ c ∷ []) ≡ safe_characters cs ++ shown ∷ [] =
    filter_map-append shown_character cs (c ∷ [])
    ∙ ap (λ (o : Option ℕ). safe_characters cs ++ cons_option o []) is in
    let bytes : encode_utf8_all (safe_characters (cs ++ c ∷ [])) ≡ before ++ encode_utf8 shown =
    ap encode_utf8_all kept ∙ encodes-append (safe_characters cs) (shown ∷ [])
    ∙ ap (λ (l : List ℕ). before ++ l) (append-nil (encode_utf8 shown)) in
    e ∙ ap (λ (l : List ℕ). l ++ encode_utf8 shown) h
    ∙ append_assoc start before (encode_utf8 shown)
    ∙ ap (λ (l : List ℕ). start ++ l) (sym bytes)

-- nothing is shown for it
pub left_out : (start now cs : List ℕ) (c : ℕ)
    → now ≡ start ++ encode_utf8_all (safe_characters cs) → shown_character c ≡ None
    → now ≡ start ++ encode_utf8_all (safe_characters (cs ++ c ∷ []))
left_out start now cs c h is =
    let kept : safe_characters (cs ++ c ∷ []) ≡ safe_characters cs =
    filter_map-append shown_character cs (c ∷ [])
    ∙ ap (λ (o : Option ℕ). safe_characters cs ++ cons_option o []) is
    ∙ append-nil (safe_characters cs) in
    h ∙ ap (λ (l : List ℕ). start ++ encode_utf8_all l) (sym kept)

-- the same function of each character
map_same : (cs : List ℕ) → map (λ (c : ℕ). c) cs ≡ cs
map_same [] = refl
map_same (c ∷ cs) = ap (λ (l : List ℕ). c ∷ l) (map_same cs)

-- all characters were read
pub all_safe : (start now read cs : List ℕ)
    → now ≡ start ++ encode_utf8_all (safe_characters read)
    → map (λ (c : ℕ). c) read ≡ cs
    → now ≡ start ++ encode_utf8_all (safe_characters cs)
all_safe start now read cs h e =
    h ∙ ap (λ (l : List ℕ). start ++ encode_utf8_all (safe_characters l))
    (sym (map_same read) ∙ e)

-- the first run, and the runs after it
pub first-written : (styles : Styles) (runs : List Run) (first : Run) (old shown : List ℕ)
    → 1 ≤ length runs → first ≡ get_or runs 0 first
    → shown ≡ old ++ (first_sequences styles first.style ++ safe_text (string_bytes first.text))
    → shown ++ runs_bytes styles
    (map run_view (take (length runs - 1) (drop 1 runs))) ≡ old
    ++ terminal_text styles (map run_view runs)
first-written styles [] first old shown some at is = absurd (omega arith)
first-written styles (run ∷ rest) first old shown some at is =
    let more = runs_bytes styles (map run_view rest) in
    let text = λ (r : Run). first_sequences styles r.style ++ safe_text (string_bytes r.text) in
    ap (λ rs. shown ++ runs_bytes styles (map run_view rs))
    (take_all (length (run ∷ rest) - 1) rest (omega arith))
    ∙ ap (λ s. s ++ more) (is ∙ ap (λ r. old ++ text r) at)
    ∙ append_assoc old (text run) more
