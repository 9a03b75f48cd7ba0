-- The line of a fix-it, and such lines one after another, for the clauses of `fix_it`.
use Rattle.codespan_core.proofs.Std.{◌≡◌, ℕ, List, [], ◌∷◌, ◌++◌, sym, ap}
use Rattle.codespan_core.proofs.Std.{◌∙◌, append_assoc, append-nil, flat_map}

-- seven parts that are appended one after another
pub seven-parts : (o0 o1 o2 o3 o4 o5 o6 o7 a b c d e f g : List ℕ) → o1 ≡ o0 ++ a
    → o2 ≡ o1 ++ b → o3 ≡ o2 ++ c → o4 ≡ o3 ++ d → o5 ≡ o4 ++ e → o6 ≡ o5 ++ f
    → o7 ≡ o6 ++ g → o7 ≡ o0 ++ (a ++ (b ++ (c ++ (d ++ (e ++ (f ++ g))))))
seven-parts o0 o1 o2 o3 o4 o5 o6 o7 a b c d e f g e1 e2 e3 e4 e5 e6 e7 =
    rw (e7, e6, e5, e4, e3, e2, e1) (simp append_assoc)

module _ {X : Type 0} (line : X → List ℕ) where
  -- the line of the first of some items is appended
  pub line-more : (front next whole : List ℕ) (xs : List X) (x : X) (rest : List X)
      → xs ≡ x ∷ rest → next ≡ front ++ line x → front ++ flat_map line xs ≡ whole
      → next ++ flat_map line rest ≡ whole
  line-more front next whole xs x rest is made before =
      ap (λ (o : List ℕ). o ++ flat_map line rest) made
      ∙ append_assoc front (line x) (flat_map line rest)
      ∙ ap (λ (ys : List X). front ++ flat_map line ys) (sym is)
      ∙ before

  -- no item is left
  pub line-end : (front whole : List ℕ) (xs : List X) → xs ≡ []
      → front ++ flat_map line xs ≡ whole → front ≡ whole
  line-end front whole xs none before =
      sym (append-nil front)
      ∙ ap (λ (ys : List X). front ++ flat_map line ys) (sym none)
      ∙ before
