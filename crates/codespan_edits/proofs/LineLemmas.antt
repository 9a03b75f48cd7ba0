-- The lines of a text, for the clause of `laws::diff_has_all_lines`.
use Rattle.codespan_core.proofs.Std.{◌≡◌, ℕ, ◌<◌, Bool, true, false, cond, List, []}
use Rattle.codespan_core.proofs.Std.{◌∷◌, ◌++◌, length, refl, ap, ◌∙◌, arith}
use Rattle.codespan_core.proofs.Std.{◌==◌, flat_map}
use Rattle.codespan_edits.specs.Diffs.{byte_before, lines, is_whole}

-- a text that is not empty has a line
some-line : (b : ℕ) (bs : List ℕ) → 0 < length (lines (b ∷ bs))
some-line b bs = by_test (b == 10) (lines bs) where
  by_test : (t : Bool) (ls : List (List ℕ))
      → 0 < length (cond t ((b ∷ []) ∷ ls) (byte_before b ls))
  by_test true ls = omega arith
  by_test false [] = omega arith
  by_test false (l ∷ ls) = omega arith

-- a byte before some lines and others
before-append : (b : ℕ) (ls ms : List (List ℕ)) → 0 < length ls
    → byte_before b (ls ++ ms) ≡ byte_before b ls ++ ms
before-append b [] ms h = absurd (omega (arith, h))
before-append b (l ∷ ls) ms h = refl

-- the lines of a whole text and another one are those of both
pub lines-append : (x y : List ℕ) → is_whole x ≡ true → lines (x ++ y) ≡ lines x ++ lines
    y
lines-append [] y w = refl
lines-append (b ∷ []) y w = rw w refl
lines-append (b ∷ (c ∷ cs)) y w = by_test (lines-append (c ∷ cs) y w) (b == 10) where
  by_test : lines ((c ∷ cs) ++ y) ≡ lines (c ∷ cs) ++ lines y → (t : Bool)
      → cond t ((b ∷ []) ∷ lines ((c ∷ cs) ++ y)) (byte_before b (lines ((c ∷ cs) ++ y)))
      ≡ cond t ((b ∷ []) ∷ lines (c ∷ cs)) (byte_before b (lines (c ∷ cs))) ++ lines y
  by_test rest true = ap (λ ls. (b ∷ []) ∷ ls) rest
  by_test rest false =
      ap (byte_before b) rest ∙ before-append b (lines (c ∷ cs)) (lines y) (some-line c cs)

-- the lines of a text make it
pub lines-whole : (x : List ℕ) → flat_map (λ l. l) (lines x) ≡ x
lines-whole [] = refl
lines-whole (b ∷ bs) = by_test (b == 10) (lines bs) (lines-whole bs) where
  by_test : (t : Bool) (ls : List (List ℕ)) → flat_map (λ l. l) ls ≡ bs
      → flat_map (λ l. l) (cond t ((b ∷ []) ∷ ls) (byte_before b ls)) ≡ b ∷ bs
  by_test true ls rest = ap (λ xs. b ∷ xs) rest
  by_test false [] rest = ap (λ xs. b ∷ xs) rest
  by_test false (l ∷ ls) rest = ap (λ xs. b ∷ xs) rest
