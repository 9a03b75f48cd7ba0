-- The known numbers of filled lines, taken one after another, and what is between two shown lines:
-- for the clauses of `render_lines` and `render_snippets`.
use Rattle.codespan_core.proofs.Std.{◌≡◌, ℕ, ◌-◌, ◌<◌, List, [], ◌∷◌}
use Rattle.codespan_core.proofs.Std.{◌++◌, length, drop, Bor, Option, refl, ap, arith, flat_map}
use Rattle.codespan_core.proofs.Std.{slice_get, common_steps, nil_from_length}
use Rattle.std.specs.Option.{option_copied}
use Rattle.std.specs.Slice.Iter.{iter_rest, iter_steps}
use Rattle.std.specs.declared.slice.Iter.{Iter}
use Rattle.codespan_core.specs.FileModel.{FileModel}
use Rattle.codespan_output.specs.Types.{Layout, Classic, Unbroken}
use Rattle.codespan_output.specs.Lookups.{filled_line_lookups}
use Rattle.codespan_views.specs.Private.{Annotation, known_numbers, AreNumbersOf, gap_lines}
use Rattle.codespan_views.specs.Private.{lookups_with, Break, Filled}

-- ---- what is between two shown lines

module _ (hidden next : List Annotation) (d : ℕ) where
  -- one line
  pub gap-filled : (n : ℕ) → n ≡ 1
      → gap_lines hidden next d n ≡ Filled (d - 1) hidden ∷ []
  gap-filled n is = ap (gap_lines hidden next d) is

  -- more
  pub gap-break : (n : ℕ) → 1 < n → gap_lines hidden next d n ≡ Break next ∷ []
  gap-break n more = grind (arith, common_steps)

  -- none
  pub gap-none : (n : ℕ) → n < 1 → gap_lines hidden next d n ≡ []
  gap-none n none = grind (arith, common_steps)

-- ---- the numbers that a layout knows

-- in the classic layout no number is left
abbrev pub IsLaterIn : Layout → List ℕ → Type 0
IsLaterIn Classic later = later ≡ []
IsLaterIn Unbroken later = Unit {0}

module _ (f : FileModel) where
  -- of these numbers a layout knows those of the first of them for these lines, and then come
  -- `later` ones
  pub record AreKnown (layout : Layout) (ls numbers later : List ℕ) : Type 0 where
    pub lookups : lookups_with numbers ls ≡ flat_map (filled_line_lookups layout) ls
    pub are : AreNumbersOf f numbers ls
    pub taken : drop (length ls) numbers ≡ later

  -- none is known
  unknown : (ls : List ℕ) → AreKnown Classic ls [] []
  unknown [] = record { lookups = refl; are = tt; taken = refl }
  unknown (l ∷ ls) = grind (arith, common_steps, unknown ls)

  -- or all are
  all-known : (ls later : List ℕ)
      → AreKnown Unbroken ls (known_numbers Unbroken f ls ++ later) later
  all-known [] later = record { lookups = refl; are = tt; taken = refl }
  all-known (l ∷ ls) later = grind (arith, common_steps, all-known ls later)

  pub are-known : (layout : Layout) (ls later : List ℕ) → IsLaterIn layout later
      → AreKnown layout ls (known_numbers layout f ls ++ later) later
  are-known Classic ls later none = rw none (unknown ls)
  are-known Unbroken ls later none = all-known ls later

-- ---- the next known number, of an iterator

module _ (s t : Iter ℕ) (r : Option (Bor ℕ)) (steps : iter_steps s r t) where
  -- it is the first one that is left, if there is one
  pub next-number : option_copied r ≡ slice_get (iter_rest s) 0
  next-number = grind (arith, common_steps, nil_from_length)
