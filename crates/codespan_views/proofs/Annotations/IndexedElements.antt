-- Elements of lists at their indices, for the clauses of `collect` and `find_file`.
use Rattle.codespan_core.proofs.Std.{common_steps, ◌≡◌, ℕ, ◌+◌, ◌<◌, List, []}
use Rattle.codespan_core.proofs.Std.{◌∷◌, ◌++◌, length, take, drop, get_or, arith}
use Rattle.codespan_core.proofs.Std.{drop-cons, take_more}

-- the element at an index of a list
pub record IsElementAt {X : Type 0} (xs : List X) (index : ℕ) (x : X) : Type 0 where
  pub inside : index < length xs
  pub is : x ≡ get_or xs index x

-- it is there in an equal list
pub element-equal : {X : Type 0} {ys xs : List X} {index : ℕ} {x : X} → ys ≡ xs
    → index < length ys
    → x ≡ get_or ys index x → IsElementAt xs index x
element-equal equal inside is = grind (arith, common_steps)

-- the elements up to it are those before it, and it
pub take-at : {X : Type 0} {xs : List X} {index : ℕ} {x : X} → IsElementAt xs index x
    → take (index + 1) xs ≡ take index xs ++ x ∷ []
take-at at = grind (arith, common_steps, take_more)

-- the elements from one on: that one, and those after it
pub drop-one : {X : Type 0} (xs : List X) (k : ℕ) (x : X) → k < length xs
    → x ≡ get_or xs k x
    → drop k xs ≡ x ∷ drop (k + 1) xs
drop-one {X} xs k x inside is = grind (arith, common_steps, drop-cons, inside, is)
