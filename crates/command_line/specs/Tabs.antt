-- Which texts have a tab.
use Rattle.std.specs.Prelude.{◌≡◌, ℕ, ◌<◌, List, length, get_or}

-- the byte of a text at this index is a tab (9)
abbrev pub IsTab : List ℕ → ℕ → Type 0
IsTab text i = (i < length text) × (get_or text i 0 ≡ 9)

-- a text has a tab
abbrev pub HasTab : List ℕ → Type 0
HasTab text = (i : ℕ) × IsTab text i
