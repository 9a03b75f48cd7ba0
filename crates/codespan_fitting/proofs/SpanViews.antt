-- For `refill_spans`: the spans of the labels and lane marks, or the line's first byte.
use Rattle.codespan_core.proofs.Std.{◌≡◌, ℕ, ◌≤◌, List, [], ◌∷◌, ◌++◌, length, drop}
use Rattle.codespan_core.proofs.Std.{refl, ap, sym, ◌∙◌, arith, append-nil, drop_all}
use Rattle.codespan_output.specs.FittedParts.{or_line_start}
use Rattle.codespan_fitting.specs.Fitting.{span_view, span_views}
use Rattle.codespan_fitting.specs.declared.spans.Span.{Span}

-- nothing is left to come
pub views-all : {X : Type 0} (views_of : List X → List (ℕ × ℕ)) (n : ℕ) (xs : List X)
    (views all : List (ℕ × ℕ))
    → views_of [] ≡ [] → length xs ≤ n → views ++ views_of (drop n xs) ≡ all → views ≡ all
views-all views_of n xs views all none past is =
    sym (append-nil views)
    ∙ ap (λ vs. views ++ vs) (sym (ap views_of (drop_all n xs past) ∙ none))
    ∙ is

-- without a span it is the line's first byte
pub line-start : (ss ts : List Span) (x : Span) (all : List (ℕ × ℕ)) → span_views ss ≡ all
    → length ss ≡ 0
    → ts ≡ ss ++ x ∷ [] → span_view x ≡ (0, 0) → or_line_start all ≡ span_views ts
line-start [] ts x all is none ends start =
    ap or_line_start (sym is) ∙ ap (λ s. s ∷ []) (sym start) ∙ sym (ap span_views ends)
line-start (s ∷ ss) ts x all is none ends start = absurd (omega (arith, none))

pub no-line-start : (ss : List Span) (all : List (ℕ × ℕ)) → span_views ss ≡ all
    → (length ss ≡ 0 → ⊥)
    → or_line_start all ≡ span_views ss
no-line-start [] all is some = absurd (some refl)
no-line-start (s ∷ ss) all is some = ap or_line_start (sym is) ∙ is-views s ss
  where
    is-views : (s : Span) (ss : List Span)
        → or_line_start (span_views (s ∷ ss)) ≡ span_views (s ∷ ss)
    is-views s ss = refl
