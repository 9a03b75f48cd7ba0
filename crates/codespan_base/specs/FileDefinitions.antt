-- The definitions that have to be unfolded for the clauses of `worked` to compute.
use Rattle.std.specs.Char.{encode_utf8}
use Rattle.codespan_core.specs.FileModel.{line_of}

-- unfolds what is not unfolded by itself
unfoldable pub file_definitions : Unit {0}
unfolding encode_utf8 line_of
file_definitions = tt
