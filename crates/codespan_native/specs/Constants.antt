-- Constants of the header: the ABI version, the greatest tab width, and the greatest length of the
-- texts of statuses and arguments.
use Rattle.std.specs.Prelude.{ℕ}

-- the ABI version, which fixes the layouts of the structs
abbrev pub ABI : ℕ
ABI = 2

-- the greatest tab width, in cells
abbrev pub TAB_WIDTH_MAX : ℕ
TAB_WIDTH_MAX = 1024

-- the greatest length of the text of a status or an argument, in bytes
abbrev pub STATUS_TEXT_MAX : ℕ
STATUS_TEXT_MAX = 128
