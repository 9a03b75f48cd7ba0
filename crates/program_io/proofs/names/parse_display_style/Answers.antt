use Rattle.codespan_core.proofs.Std.{refl}
use Rattle.program_io.specs.Names.{display_style_named}
use Rattle.program_io.proofs.names.parse_display_style.Goals as goal

-- the style of the word `short`
pub returns-in-short : goal.returns-in-short
unfolding display_style_named
returns-in-short c = rw c.in-short.is refl
