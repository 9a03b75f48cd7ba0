-- For `refill_gaps`: the code's spans, gaps and cells in a step.
use Rattle.codespan_core.proofs.Std.{◌≡◌, ℕ, ◌+◌, ◌<◌, ◌≤◌, List, [], ◌∷◌, ◌++◌}
use Rattle.codespan_core.proofs.Std.{length, take, drop, get_or, Option, Some, None, ap}
use Rattle.codespan_core.proofs.Std.{sym, ◌∙◌, subst, arith, max, ⊎_elim, cases_lt}
use Rattle.codespan_core.proofs.Std.{take-append-drop, map-append, drop_more, take_more}
use Rattle.codespan_core.proofs.Std.{get_or-drop, length-drop, get_or_default, suc}
use Rattle.std.specs.Prelude.{MatchOption}
use Rattle.std.specs.List.Sorted.{IsNonDecreasingBy}
use Rattle.codespan_fitting.specs.Fitting.{span_view, span_views}
use Rattle.codespan_fitting.specs.declared.spans.Span.{Span}
use Rattle.codespan_fitting.proofs.GapSteps.{AreFrom}
use Rattle.codespan_fitting.proofs.UnitCuts.{IsCut}

-- ---- a span among the spans

pub record IsSpanAt (spans : List Span) (i : ℕ) (span : Span) : Type 0 where
  pub split : span_views spans
      ≡ span_views (take i spans) ++ span_view span ∷ span_views (drop (i + 1) spans)
  pub taken : span_views (take (i + 1) spans) ≡ span_views (take i spans) ++ span_view span ∷ []
  pub later : AreFrom span.first (span_views (drop (i + 1) spans))

are-from : (first : ℕ) (spans : List Span)
    → ((k : ℕ) (d : Span) → k < length spans → first ≤ (get_or spans k d).first)
    → AreFrom first (span_views spans)
are-from first [] h = tt
are-from first (s ∷ ss) h =
    (h 0 s (omega arith), are-from first ss (λ k d below. h (suc k) d (omega (arith, below))))

pub span-at : (spans : List Span) (i : ℕ) (d : Span)
    → IsNonDecreasingBy (λ (s : Span). s.first) spans → i < length spans
    → IsSpanAt spans i (get_or spans i d)
span-at spans i d sorted within =
    record {
      split =
          ap span_views (sym (take-append-drop i spans))
          ∙ map-append span_view (take i spans) (drop i spans)
          ∙ ap (λ ss. span_views (take i spans) ++ span_views ss) (drop_more spans i d within);
      taken =
          ap span_views (take_more spans i d within)
          ∙ map-append span_view (take i spans) (get_or spans i d ∷ []);
      later =
          are-from (get_or spans i d).first (drop (i + 1) spans)
          (λ k e below.
          let place : i + 1 + k < length spans =
          omega (arith, below, length-drop (i + 1) spans) in
          subst (λ (s : Span). (get_or spans i d).first ≤ s.first)
          (sym (get_or-drop (i + 1) spans k e))
          (subst (λ (s : Span). (get_or spans i d).first ≤ s.first)
          (get_or_default spans (i + 1 + k) d e place)
          (sorted i (i + 1 + k) d (omega arith) place)));
    }

-- ---- where a text is cut

pub max-cut : (tab : ℕ) (text : List ℕ) (m n : ℕ) → IsCut tab text m → IsCut tab text n
    → IsCut tab text (max m n)
max-cut tab text m n h k =
    ⊎_elim
    (λ low. let e : n ≡ max m n = omega (arith, low) in subst (IsCut tab text) e k)
    (λ high. let e : m ≡ max m n = omega (arith, high) in subst (IsCut tab text) e h)
    (cases_lt m n)

-- ---- the cells that are left

-- after units of so many cells
pub rest-step : (old new : Option ℕ) (left all from to cells : ℕ) → from ≡ cells + to
    → MatchOption old (left + from < all) (λ r. r + all ≡ left + from)
    → MatchOption old (new ≡ None) (λ r. MatchOption new (r < cells) (λ q. q + cells ≡ r))
    → MatchOption new (left + to < all) (λ r. r + all ≡ left + to)
rest-step None new left all from to cells sum h step =
    subst (λ n. MatchOption n (left + to < all) (λ r. r + all ≡ left + to)) (sym step)
    (omega (arith, sum, h))
rest-step (Some r) None left all from to cells sum h step = omega (arith, sum, h, step)
rest-step (Some r) (Some q) left all from to cells sum h step = omega (arith, sum, h, step)

-- after the last span
pub rest-end : (rest : Option ℕ) (left all from : ℕ) → from ≡ 0
    → MatchOption rest (left + from < all) (λ r. r + all ≡ left + from)
    → MatchOption rest (left < all) (λ r. r + all ≡ left)
rest-end None left all from none h = omega (arith, none, h)
rest-end (Some r) left all from none h = omega (arith, none, h)
