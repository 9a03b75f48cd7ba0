-- The first fault of files that are gone through one by one, for the clause `failed` of calls over
-- files.
use Rattle.codespan_core.proofs.Std.{◌≡◌, ℕ, ◌+◌, ◌<◌, List, ◌∷◌, map, drop}
use Rattle.codespan_core.proofs.Std.{length, get_or, sym, ◌∙◌, ap, drop_more, Option, Some}
use Rattle.codespan_core.proofs.Std.{None}
use Rattle.std.specs.Option.{option_or}
use Rattle.codespan_suggestions.specs.Faults.{first_fault}
use Rattle.codespan_suggestions.specs.declared.error.SuggestionError.{SuggestionError}

module _ {X : Type 0} (fault : X → Option SuggestionError) (items : List X) (i : ℕ) (x : X)
    (inside : i < length items) (is : x ≡ get_or items i x) (o : Option SuggestionError)
    (was : o ≡ first_fault (map fault (drop i items))) where
  -- the file is the next one
  opened : o ≡ option_or (fault x) (first_fault (map fault (drop (i + 1) items)))
  opened =
      was
      ∙ ap (λ (xs : List X). first_fault (map fault xs))
      (drop_more items i x inside ∙ ap (λ (y : X). y ∷ drop (i + 1) items) (sym is))

  -- nothing is wrong with it
  pub fault-more : fault x ≡ None → o ≡ first_fault (map fault (drop (i + 1) items))
  fault-more none =
      opened
      ∙ ap (λ (a : Option SuggestionError).
      option_or a (first_fault (map fault (drop (i + 1) items)))) none

  -- or this is
  pub fault-here : (e : SuggestionError) → fault x ≡ Some e → o ≡ Some e
  fault-here e here =
      opened
      ∙ ap (λ (a : Option SuggestionError).
      option_or a (first_fault (map fault (drop (i + 1) items)))) here
