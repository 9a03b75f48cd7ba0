-- Texts and runs that are appended to an element one by one: for the clause `element` of
-- `to_html`.
use Rattle.std.proofs.Common.{◌≡◌, ℕ, List, [], ◌∷◌, ◌++◌, length, map, sym, ap}
use Rattle.std.proofs.Common.{◌∙◌, append_assoc, append-nil, arith, codes, refl, Option, None}
use Rattle.std.proofs.Common.{Some}
use Rattle.std.specs.Char.{encode_utf8}
use Rattle.std.specs.List.{cons_option, flat_map}
use Rattle.std.specs.Str.{IsUtf8, chars}
use Rattle.std.proofs.lemmas.Str.{chars-nil, chars_past_char}
use Rattle.codespan_styled.specs.declared.text.Run.{Run}
use Rattle.codespan_styled.specs.Html.{escaped_text, html_cell, html_element, html_run, html_span}
use Rattle.codespan_styled.specs.Html.{span_tag}
use Rattle.codespan_styled.specs.Runs.{run_view}
use Rattle.codespan_styled.specs.SafeText.{safe_characters, shown_character}

module _ (front whole rest more : List ℕ) (c : ℕ) (u : IsUtf8 rest)
    (e : rest ≡ encode_utf8 c ++ more) (before : front ++ escaped_text rest ≡ whole)
  where
    -- the text that is left begins with what is shown for the next character
    from-next : (o : Option ℕ) → shown_character c ≡ o
        → front ++ flat_map html_cell (cons_option o (safe_characters (chars more))) ≡ whole
    from-next o is =
        ap (λ s. front ++ flat_map html_cell (cons_option s (safe_characters (chars more))))
        (sym is)
        ∙ ap (λ cs. front ++ flat_map html_cell (safe_characters cs))
        (sym (chars_past_char rest more c u e))
        ∙ before

    -- it is shown
    pub text-more : (next : List ℕ) (shown : ℕ) → shown_character c ≡ Some shown
        → next ≡ front ++ html_cell shown
        → next ++ escaped_text more ≡ whole
    text-more next shown is appended =
        ap (λ f. f ++ escaped_text more) appended
        ∙ append_assoc front (html_cell shown) (escaped_text more) ∙ from-next (Some shown) is

    -- it is left out
    pub text-same : shown_character c ≡ None → front ++ escaped_text more ≡ whole
    text-same is = from-next None is

-- no text is left
pub text-end : (front whole rest : List ℕ) → length rest ≡ 0
    → front ++ escaped_text rest ≡ whole
    → front ≡ whole
text-end front whole [] none before =
    sym (append-nil front)
    ∙ ap (λ cs. front ++ flat_map html_cell (safe_characters cs)) (sym chars-nil) ∙ before
text-end front whole (b ∷ rest) none before = absurd (omega arith)

regrouped : (front tag content end : List ℕ)
    → ((front ++ tag) ++ content) ++ end ≡ front ++ ((tag ++ content) ++ end)
regrouped front tag content end = simp append_assoc

-- a `span` of a class
pub span-written : (front b1 b2 b3 class named content : List ℕ) → named ≡ class
    → b1 ≡ front ++ span_tag named → b2 ≡ b1 ++ content → b3 ≡ b2 ++ codes "</span>"
    → b3 ≡ front ++ html_span class content
span-written front b1 b2 b3 class named content is e1 e2 e3 =
    rw (e3, e2, e1, is) (regrouped front (span_tag class) content (codes "</span>"))

-- the whole element
pub element-written : (runs slice : List Run) (b0 b1 b2 b3 : List ℕ) → b0 ≡ []
    → b1 ≡ b0 ++ codes "<pre class=\"diagnostic\">\n" → slice ≡ runs
    → b2 ≡ b1 ++ flat_map html_run (map run_view slice)
    → b3 ≡ b2 ++ codes "</pre>" → b3 ≡ html_element (map run_view runs)
element-written runs slice b0 b1 b2 b3 e0 e1 same e2 e3 = rw (e3, e2, same, e1, e0) refl
