-- The first lookup that fails, and the first error of lookups one after another, for the clauses
-- `failed` of `collect_lines` and `collect`.
use Rattle.codespan_core.proofs.Std.{common_steps, ◌≡◌, zero, suc, List, [], ◌∷◌}
use Rattle.codespan_core.proofs.Std.{◌++◌, Option, None, Some, refl, sym, ap, ◌∙◌, arith}
use Rattle.codespan_core.proofs.Std.{map-append}
use Rattle.codespan_core.specs.FileModel.{Lookup, or_failure}
use Rattle.codespan_output.specs.Types.{Error}
use Rattle.codespan_output.specs.Lookups.{Failures, lookups_of_file, first_error, AllSucceed}

-- ---- errors, one after another

-- nothing fails after these
pub or_failure-none : (o : Option Error) → or_failure o None ≡ o
or_failure-none o = grind (arith, common_steps)

-- an error of the first lookups is that of all, whatever is looked up after them
pub or_failure-some : (o p : Option Error) (e : Error) → o ≡ Some e
    → or_failure o p ≡ Some e
or_failure-some o p e h = ap (λ (x : Option Error). or_failure x p) h

module _ {Id : Type 0} (failure : Failures Id) where
  -- the first error of some lookups and of others after them
  pub first_error-append : (ls ms : List (Id × Lookup))
      → first_error failure (ls ++ ms) ≡ or_failure (first_error failure ls)
      (first_error failure ms)
  first_error-append [] ms = refl
  first_error-append (l ∷ ls) ms = grind (arith, common_steps, first_error-append ls ms)

  -- an error of some lookups is also that of these with more after them
  pub first_error-some : (ls ms : List (Id × Lookup)) (e : Error)
      → first_error failure ls ≡ Some e
      → first_error failure (ls ++ ms) ≡ Some e
  first_error-some ls ms e h = grind (arith, common_steps, first_error-append)

  -- where some lookups succeed, those after them decide what all fail with
  pub first_error-none : (ls ms : List (Id × Lookup)) → first_error failure ls ≡ None
      → first_error failure (ls ++ ms) ≡ first_error failure ms
  first_error-none ls ms h = grind (arith, common_steps, first_error-append)

  first_succeeded : (o p : Option Error) → or_failure o p ≡ None
      → (o ≡ None) × (p ≡ None)
  first_succeeded o p h = grind (arith, common_steps)

  -- where nothing fails, each lookup succeeds
  pub all_succeed : (ls : List (Id × Lookup)) → first_error failure ls ≡ None
      → AllSucceed failure ls
  all_succeed [] h id lookup (k, low, same) = absurd (omega arith)
  all_succeed (l ∷ ls) h id lookup (zero, low, same) =
      ap (λ (m : Id × Lookup). failure m.0 m.1) (sym same) ∙ (first_succeeded _ _ h).0
  all_succeed (l ∷ ls) h id lookup (suc k, low, same) =
      all_succeed ls (first_succeeded _ _ h).1 id lookup (k, omega arith, same)

  -- the same of lookups of one file
  pub first_error-lookups : (id : Id) (ls ms : List Lookup)
      → first_error failure (lookups_of_file id (ls ++ ms)) ≡ or_failure
      (first_error failure (lookups_of_file id ls)) (first_error failure (lookups_of_file id ms))
  first_error-lookups id ls ms = grind (arith, common_steps, map-append, first_error-append)
