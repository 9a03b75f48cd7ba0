-- Texts that are appended to a string: for the clauses of `html::push_character`,
-- `html::push_runs`, `svg::push_character` and `terminal::push_runs`.
use Rattle.std.proofs.Common.{◌≡◌, ℕ, ◌+◌, ◌<◌, ◌≤◌, List, ◌∷◌}
use Rattle.std.proofs.Common.{◌++◌, drop, get_or, length, map, sym, ap, ◌∙◌, append_assoc}
use Rattle.std.proofs.Common.{append-nil, Result, Ok, Err}
use Rattle.std.specs.Prelude.{OnOk, is_ok, if◌then◌else◌}
use Rattle.std.specs.List.{flat_map}
use Rattle.std.proofs.lemmas.List.{drop_all, drop_more}
use Rattle.codespan_styled.specs.declared.text.Run.{Run}
use Rattle.codespan_styled.specs.Runs.{RunView, run_view}

-- a text that a call appends where it succeeds
pub pushed : {E : Type 0} (r : Result (Unit {0}) E) (old new text written : List ℕ)
    → new ≡ (if is_ok r then old ++ text else old) → text ≡ written
    → OnOk r (new ≡ old ++ written)
pushed (Ok done) old new text written is same = is ∙ ap (λ t. old ++ t) same
pushed (Err error) old new text written is same = tt

module _ (text : RunView → List ℕ) (runs : List Run) (i : ℕ) where
  -- a run of those that are left
  pub run-more : (run : Run) (front next whole : List ℕ) → i < length runs
      → run ≡ get_or runs i run
      → next ≡ front ++ text (run_view run)
      → front ++ flat_map text (map run_view (drop i runs)) ≡ whole
      → next ++ flat_map text (map run_view (drop (i + 1) runs)) ≡ whole
  run-more run front next whole inside at is before =
      let rest = flat_map text (map run_view (drop (i + 1) runs)) in
      let left : drop i runs ≡ run ∷ drop (i + 1) runs =
      drop_more runs i run inside ∙ ap (λ r. r ∷ drop (i + 1) runs) (sym at) in
      ap (λ f. f ++ rest) is ∙ append_assoc front (text (run_view run)) rest
      ∙ ap (λ rs. front ++ flat_map text (map run_view rs)) (sym left) ∙ before

  -- no run is left
  pub run-end : (front whole : List ℕ) → length runs ≤ i
      → front ++ flat_map text (map run_view (drop i runs)) ≡ whole → front ≡ whole
  run-end front whole past before =
      sym (append-nil front)
      ∙ ap (λ rs. front ++ flat_map text (map run_view rs)) (sym (drop_all i runs past))
      ∙ before
