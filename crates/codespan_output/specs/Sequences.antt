-- Items in the order of their lines, and what is between two consecutive ones.
use Rattle.std.specs.Prelude.{ℕ, ◌+◌, ◌==◌, List, [], ◌∷◌, ◌++◌, Option, Some}
use Rattle.std.specs.Prelude.{if◌then◌else◌, nat_le}
use Rattle.std.specs.Option.{option_map_or}

-- the elements of these items, `own` of each, and between those of two consecutive items what is
-- between their lines, `item_line` of each; `previous` is the line before them all
abbrev pub in_sequence : {X A : Type 0}
    → (X → ℕ) → (ℕ → ℕ → List A) → (X → List A) → Option ℕ → List X
    → List A
in_sequence item_line between own previous [] = []
in_sequence item_line between own previous (x ∷ xs) =
    option_map_or (λ c. between c (item_line x)) previous [] ++ own x
    ++ in_sequence item_line between own (Some (item_line x)) xs

-- between two drawn lines: a break, where two or more lines are left out, or nothing
abbrev pub break_between : {A : Type 0} → (ℕ → List A) → ℕ → ℕ → List A
break_between of_break c d = if nat_le (c + 3) d then of_break d else []

-- between two shown lines: the filled line, where one line is between them, a break, or nothing
abbrev pub gap_between : {A : Type 0} → (ℕ → List A) → (ℕ → List A) → ℕ → ℕ
    → List A
gap_between of_filled of_break c d =
    if d == c + 2 then of_filled (c + 1) else break_between of_break c d
