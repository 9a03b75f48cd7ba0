-- Kept lines are rows as they are, for the clauses of `keep` and `keep_line`.
use Rattle.codespan_core.proofs.Std.{◌≡◌, ℕ, ◌<◌, Bool, true, false, cond, List, []}
use Rattle.codespan_core.proofs.Std.{◌∷◌, ◌++◌, length, get_or, map, refl, sym, ap}
use Rattle.codespan_core.proofs.Std.{◌∙◌, subst, ◌==◌, flat_map, get_or-map, length-map}
use Rattle.codespan_core.proofs.Std.{AllByRecursion, All-from_recursion, arith, nat_tests}
use Rattle.codespan_core.proofs.Std.{nil_from_length}
use Rattle.std.specs.Borrow.{Bor}
use Rattle.std.proofs.lemmas.Slice.Eq.{bytes_eq-Decides}
use Rattle.codespan_edits.specs.Diffs.{byte_before, lines, is_whole, Change, Row, kept, no_change}
use Rattle.codespan_edits.specs.Diffs.{block_rows, blocks_from}
use Rattle.codespan_edits.specs.declared.rows.RowSign.TheVariants.{Kept}
use Rattle.codespan_edits.proofs.DiffBlocks.{push-block}

-- a text is one line
abbrev IsLine : List ℕ → Type 0
IsLine l = lines l ≡ l ∷ []

-- the lines of a text are
each-line : (text : List ℕ) → AllByRecursion IsLine (lines text)
each-line [] = tt
each-line (b ∷ bs) = by_test (b == 10) refl (lines bs) (each-line bs) where
  before : (t : Bool) → (b == 10) ≡ t → t ≡ false → (ls : List (List ℕ))
      → AllByRecursion IsLine ls
      → AllByRecursion IsLine (byte_before b ls)
  before t h off [] all = (rw (h ∙ off) refl, tt)
  before t h off (l ∷ ls) all = (rw (h ∙ off) (ap (byte_before b) all.0), all.1)

  by_test : (t : Bool) → (b == 10) ≡ t → (ls : List (List ℕ)) → AllByRecursion IsLine ls
      → AllByRecursion IsLine (cond t ((b ∷ []) ∷ ls) (byte_before b ls))
  by_test true h ls all = (rw h refl, all)
  by_test false h ls all = before false h refl ls all

-- so is the line at an index
pub line-at : (text : List ℕ) (ls : List (Bor (List ℕ))) (k : ℕ) (d : Bor (List ℕ))
    → k < length ls
    → map (λ x. x.now) ls ≡ lines text → IsLine (get_or ls k d).now
line-at text ls k d inside is =
    subst IsLine (get_or-map (λ (x : Bor (List ℕ)). x.now) ls k d [] inside)
    (All-from_recursion IsLine (map (λ x. x.now) ls)
    (subst (AllByRecursion IsLine) (sym is) (each-line text)) k [] (rw length-map inside))

-- the rows of a line that is kept
kept-rows : (l : List ℕ) → IsLine l
    → block_rows (kept l) ≡ (record { sign = Kept; line = l }) ∷ []
kept-rows l one = rw (one, (bytes_eq-Decides l l).1 refl) refl

-- where nothing is held, a whole line that is kept adds its row
pub kept-line : (rows newer : List Row) (a b l : List ℕ) (ps : List Change) → a ≡ []
    → b ≡ []
    → is_whole l ≡ true → IsLine l
    → newer ≡ rows ++ (record { sign = Kept; line = l }) ∷ []
    → newer ++ flat_map block_rows (blocks_from (record { old = a; new = b }) ps)
    ≡ rows ++ flat_map block_rows (blocks_from (record { old = a; new = b }) (kept l ∷ ps))
kept-line rows newer a b l ps no_a no_b whole one is =
    rw (no_a, no_b)
    (push-block rows newer no_change (kept l) no_change ps (rw whole refl)
    (is ∙ ap (λ rs. rows ++ rs) (sym (kept-rows l one))) refl)

-- a text whose length was found to be 0 is empty
pub no-bytes : (xs ys : List ℕ) (t : Bool) → xs ≡ ys → t ≡ (length xs == 0) → t ≡ true
    → ys ≡ []
no-bytes xs ys t same is h = sym same ∙ nil_from_length xs (grind (arith, nat_tests, is, h))
