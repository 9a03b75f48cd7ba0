-- Lines as rows show them, for the clause of `laws::sources_and_output_give_texts`.
use Rattle.codespan_core.proofs.Std.{◌≡◌, ◌∙◌, ℕ, ◌+◌, ◌-◌, ◌==◌}
use Rattle.codespan_core.proofs.Std.{Bool, true, false, if◌then◌else◌, List, [], ◌∷◌}
use Rattle.codespan_core.proofs.Std.{◌++◌, length, flat_map, replicate}
use Rattle.codespan_core.proofs.Std.{refl, sym, ap, subst, arith}
use Rattle.codespan_core.proofs.Std.{nat_tests, zero, suc}
use Rattle.codespan_core.proofs.Std.{true≢false, encode_utf8, encode_utf8_all, IsUtf8}
use Rattle.codespan_core.proofs.Std.{chars, take-append-drop}
use Rattle.codespan_core.proofs.Std.{cond_both}
use Rattle.codespan_core.proofs.Std.{len_utf8}
use Rattle.std.specs.List.{suffix_len}
use Rattle.std.proofs.lemmas.Str.{encodes-chars}
use Rattle.codespan_output.specs.CharMetrics.{is_line_end, text_without_line_end, metrics_then}
use Rattle.codespan_output.specs.CharMetrics.{width_at}
use Rattle.codespan_output.proofs.Utf8.DrawnLines.{drawn-utf8}
use Rattle.codespan_suggestions.specs.DrawnText.{shown_char, shown_text, line_end}
use Rattle.codespan_suggestions.specs.ReadableChars.{IsOneRow}
use Rattle.codespan_suggestions.specs.ReadingLaws.{HasNoTab}
use Rattle.codespan_suggestions.proofs.ReadTexts.{all-append, all-first, all-second, all-take}
use Rattle.codespan_suggestions.proofs.ReadTexts.{IsLine, text-one}

-- ---- texts as they are shown

one-spaces : (n : ℕ) → IsOneRow (replicate n 32)
one-spaces zero = tt
one-spaces (suc n) = (refl, one-spaces n)

shown-characters : (tab i column : ℕ) (cs : List ℕ) → IsOneRow (encode_utf8_all cs)
    → IsOneRow (flat_map shown_char (metrics_then (λ _ _. []) tab i column cs))
shown-characters tab i column [] one = tt
shown-characters tab i column (c ∷ cs) one =
    let w = width_at tab column c in
    all-append (λ b. (b == 10) ≡ false)
    (if c == 9 then replicate w 32 else encode_utf8 c) _
    (cond_both (c == 9) (replicate w 32) (encode_utf8 c) IsOneRow (λ _. one-spaces w)
    (λ _. all-first (λ b. (b == 10) ≡ false) (encode_utf8 c) (encode_utf8_all cs) one))
    (shown-characters tab (i + len_utf8 c) (column + w) cs
    (all-second (λ b. (b == 10) ≡ false) (encode_utf8 c) (encode_utf8_all cs) one))

-- a shown line is one row
pub shown-one : (tab : ℕ) (line : List ℕ) → IsUtf8 line → IsLine line
    → IsOneRow (shown_text tab line)
shown-one tab line u is =
    let text = text_without_line_end line in
    shown-characters tab 0 0 (chars text)
    (subst IsOneRow (sym (encodes-chars text (drawn-utf8 line u))) (text-one line is))

-- a character of a text without tabs is shown as it is
no-tab : (c width : ℕ) (t : Bool) → (c == 9) ≡ t → HasNoTab (encode_utf8 c)
    → (if t then replicate width 32 else encode_utf8 c) ≡ encode_utf8 c
unfolding encode_utf8
no-tab c width true is free =
    let code : c ≡ 9 = grind (arith, nat_tests, is) in
    let bad : HasNoTab (encode_utf8 9) = subst (λ k. HasNoTab (encode_utf8 k)) code free in
    absurd (true≢false bad.0)
no-tab c width false is free = refl

shown-same : (tab i column : ℕ) (cs : List ℕ) → HasNoTab (encode_utf8_all cs)
    → flat_map shown_char (metrics_then (λ _ _. []) tab i column cs) ≡ encode_utf8_all cs
shown-same tab i column [] none = refl
shown-same tab i column (c ∷ cs) none =
    ap (λ xs. xs ++ flat_map shown_char
    (metrics_then (λ _ _. []) tab (i + len_utf8 c) (column + width_at tab column c) cs))
    (no-tab c (width_at tab column c) (c == 9) refl
    (all-first (λ b. (b == 9) ≡ false) (encode_utf8 c) (encode_utf8_all cs) none))
    ∙ ap (λ xs. encode_utf8 c ++ xs)
    (shown-same tab (i + len_utf8 c) (column + width_at tab column c) cs
    (all-second (λ b. (b == 9) ≡ false) (encode_utf8 c) (encode_utf8_all cs) none))

-- where a line has no tab, its text and its end are the line
pub shown-whole : (tab : ℕ) (line : List ℕ) → IsUtf8 line → HasNoTab line
    → shown_text tab line ++ line_end line ≡ line
shown-whole tab line u none =
    let text = text_without_line_end line in
    let v = drawn-utf8 line u in
    ap (λ xs. xs ++ line_end line)
    (shown-same tab 0 0 (chars text)
    (subst HasNoTab (sym (encodes-chars text v))
    (all-take (λ b. (b == 9) ≡ false) _ line none))
    ∙ encodes-chars text v)
    ∙ take-append-drop (length line - suffix_len is_line_end line) line
