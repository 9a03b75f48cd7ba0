-- The cells of a character.
use Rattle.std.specs.Prelude.{ℕ, false, unwrap_or}
use Rattle.unicode_width.specs.Width.{char_width}

-- the number of cells that a character occupies: the width that `unicode_width` returns for it, or
-- 0 where it returns none; it is 3 at most
abbrev pub character_cells : ℕ → ℕ
character_cells c = unwrap_or (char_width false c) 0
