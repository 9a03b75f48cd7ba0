-- For `left_out`: the texts that it walks over have the units of the gap.
use Rattle.codespan_core.proofs.Std.{◌≡◌, ℕ, ◌+◌, ◌<◌, ◌≤◌, Bool, List, []}
use Rattle.codespan_core.proofs.Std.{◌∷◌, length, take, drop, refl, ap, ◌∙◌, subst}
use Rattle.codespan_core.proofs.Std.{arith, le-ltb, lt-ltb, IsUtf8}
use Rattle.codespan_output.specs.FittedParts.{Gap, part_pieces, piece_cells, unit_bytes, unit_cells}
use Rattle.codespan_fitting.specs.LeftOut.{dot_ranges, left_out_ranges}
use Rattle.codespan_fitting.specs.Walks.{first_count, last_count, text_units}
use Rattle.codespan_fitting.proofs.GapPieces.{between, gap-few, gap-more}
use Rattle.codespan_fitting.proofs.SplitUnits.{text-split}

-- nothing is left out, or something
pub same-ranges : (n : ℕ) → left_out_ranges n n ≡ []
same-ranges n = rw (le-ltb n n (omega arith)) refl

pub more-ranges : (m n : ℕ) → 0 < n → left_out_ranges m (m + n) ≡ (m, m + n) ∷ []
more-ranges m n some = rw (lt-ltb m (m + n) (omega (arith, some))) refl

module _ (tab r : ℕ) (a b : Bool) (text rest mid : List ℕ) (start first end last : ℕ)
    (utf8 : IsUtf8 text) (rest-utf8 : IsUtf8 rest)
    (start-is : start
    ≡ unit_bytes (take (first_count a r (text_units tab text)) (text_units tab text)))
    (first-is : first
    ≡ unit_cells (take (first_count a r (text_units tab text)) (text_units tab text)))
    (rest-is : rest ≡ drop start text)
    (end-is : end ≡ unit_bytes
    (take (last_count b r (text_units tab rest)) (text_units tab rest)))
    (last-is : last
    ≡ unit_cells (drop (last_count b r (text_units tab rest)) (text_units tab rest)))
    (mid-is : mid ≡ take end rest) where
  after : text_units tab rest ≡ drop (first_count a r (text_units tab text)) (text_units tab text)
  after =
      ap (text_units tab) (rest-is ∙ ap (λ n. drop n text) start-is)
      ∙ (text-split tab text (first_count a r (text_units tab text)) utf8).rest

  last-after : last
      ≡ unit_cells
      (drop (last_count b r (drop (first_count a r (text_units tab text)) (text_units tab text)))
      (drop (first_count a r (text_units tab text)) (text_units tab text)))
  last-after = last-is ∙ ap (λ us. unit_cells (drop (last_count b r us) us)) after

  middle : text_units tab mid
      ≡ between a b r (text_units tab text) first last first-is last-after
  middle =
      ap (text_units tab) (mid-is ∙ ap (λ n. take n rest) end-is)
      ∙ (text-split tab rest (last_count b r (text_units tab rest)) rest-utf8).first
      ∙ ap (λ us. take (last_count b r us) us) after

  -- nothing is left out
  pub text-few : (cells : ℕ) → cells ≡ unit_cells (text_units tab mid)
      → length (text_units tab mid) ≤ 3
      → (first + last + cells ≡ piece_cells (part_pieces r (Gap a b (text_units tab text))))
      × ([] ≡ dot_ranges 0 (part_pieces r (Gap a b (text_units tab text))))
  text-few cells is few =
      gap-few a b r (text_units tab text) first last first-is last-after cells
      (is ∙ ap unit_cells middle) (subst (λ us. length us ≤ 3) middle few)

  -- what is between is left out
  pub text-more : 3 < length (text_units tab mid)
      → (first + last + 3 ≡ piece_cells (part_pieces r (Gap a b (text_units tab text))))
      × ((start, start + end) ∷ []
      ≡ dot_ranges 0 (part_pieces r (Gap a b (text_units tab text))))
  text-more more =
      gap-more a b r (text_units tab text) first last first-is last-after start end start-is
      (end-is ∙ ap (λ us. unit_bytes (take (last_count b r us) us)) after)
      (subst (λ us. 3 < length us) middle more)
