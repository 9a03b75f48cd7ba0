-- Where lines start, for the clause `start` of `TextLines::line_index`.
use Rattle.codespan_core.proofs.Std.{◌≡◌, ℕ, zero, suc, ◌+◌, ◌-◌, ◌<◌}
use Rattle.codespan_core.proofs.Std.{◌≤◌, List, length, get_or, arith, add-zero, Ok, Err}
use Rattle.codespan_core.proofs.Std.{nat_cmp}
use Rattle.std.proofs.lemmas.List.Sorted.{searched}
use Rattle.std.specs.List.Sorted.{IsBinarySearchResult}
use Rattle.codespan_core.specs.Lines.{line_starts_of}
use Rattle.codespan_core.specs.Lemmas.Simple.{ascending}

-- a line starts no earlier than one before it
starts-rise : (text : List ℕ) (i d : ℕ) → i + d < length (line_starts_of text)
    → get_or (line_starts_of text) i 0 ≤ get_or (line_starts_of text) (i + d) 0
starts-rise text i zero h = rw add-zero (omega arith)
starts-rise text i (suc d) h =
    let e : i + suc d ≡ (i + d) + 1 = omega arith in
    rw e (omega (
      arith,
      starts-rise text i d (omega (arith, h)),
      ascending text (i + d) (omega (arith, h)),
    ))

-- what a search for a byte finds among the starts
module _ (text xs : List ℕ) (byte i : ℕ) (is : xs ≡ line_starts_of text) where
  in-order : (j k : ℕ) → j ≤ k → k < length (line_starts_of text)
      → get_or (line_starts_of text) j 0 ≤ get_or (line_starts_of text) k 0
  in-order j k h inside =
      let e : k ≡ j + (k - j) = omega arith in
      rw e (starts-rise text j (k - j) (omega (arith, inside, h)))

  -- a line starts at the byte
  pub found-start : IsBinarySearchResult (λ y. nat_cmp y byte) xs (Ok i)
      → (i < length xs) × (get_or xs i 0 ≤ byte)
  found-start found =
      let f = searched (line_starts_of text) byte (Ok i) (rw is at found) in-order in
      rw is (f.0, omega (arith, f.1))

  -- or the byte is in the line before
  pub found-inside : 1 ≤ i → IsBinarySearchResult (λ y. nat_cmp y byte) xs (Err i)
      → (i - 1 < length xs) × (get_or xs (i - 1) 0 ≤ byte)
  found-inside some found =
      let f = searched (line_starts_of text) byte (Err i) (rw is at found) in-order in
      rw is (omega (arith, f.0, some), omega (arith, f.1 (i - 1) (omega (arith, some))))
