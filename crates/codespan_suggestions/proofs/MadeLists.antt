-- Lists that are made item by item, and the first error of their items, for the clauses of
-- `action`.
use Rattle.codespan_core.proofs.Std.{◌≡◌, List, [], ◌∷◌, ◌++◌, map, sym, ap}
use Rattle.codespan_core.proofs.Std.{◌∙◌, append_assoc, map-append, Option, Some, None}
use Rattle.codespan_core.specs.FileModel.{or_failure}
use Rattle.codespan_core.specs.declared.files.error.Error.{Error}
use Rattle.codespan_lsp.specs.Positions.{first_failure}

-- what is made of one more item is added
pub made-more : {X Y Z : Type 0} (view : X → Z) (made : Y → Z) (old new : List X) (x : X)
    (left rest : List Y) (y : Y) (whole : List Z) → new ≡ old ++ x ∷ [] → view x ≡ made y
    → left ≡ y ∷ rest → map view old ++ map made left ≡ whole
    → map view new ++ map made rest ≡ whole
made-more {X} {Y} {Z} view made old new x left rest y whole added is next was =
    ap (λ (xs : List X). map view xs ++ map made rest) added
    ∙ ap (λ (zs : List Z). zs ++ map made rest) (map-append view old (x ∷ []))
    ∙ append_assoc (map view old) (view x ∷ []) (map made rest)
    ∙ ap (λ (z : Z). map view old ++ z ∷ map made rest) is
    ∙ ap (λ (ys : List Y). map view old ++ map made ys) (sym next)
    ∙ was

module _ {Y : Type 0} (failure : Y → Option Error) (left rest : List Y) (y : Y)
    (next : left ≡ y ∷ rest) (o : Option Error) (was : o ≡ first_failure (map failure left))
  where
    opened : o ≡ or_failure (failure y) (first_failure (map failure rest))
    opened = was ∙ ap (λ (ys : List Y). first_failure (map failure ys)) next

    -- the item has no error
    pub failure-more : failure y ≡ None → o ≡ first_failure (map failure rest)
    failure-more none =
        opened ∙ ap (λ (a : Option Error). or_failure a (first_failure (map failure rest))) none

    -- or its error is the first one
    pub failure-here : (e : Error) → failure y ≡ Some e → o ≡ Some e
    failure-here e here =
        opened ∙ ap (λ (a : Option Error). or_failure a (first_failure (map failure rest))) here
