-- The bytes of a token.
use Rattle.std.specs.Prelude.{ℕ}
use Rattle.std.specs.declared.ops.Range.{Range}
use Rattle.examples.specs.declared.config.front_end.Token.{Token}

-- the range of a token
abbrev pub byte_range : Token → Range ℕ
byte_range token = record { start = token.start; end = token.end }
