use Rattle.codespan_core.proofs.Std.{refl, encode_utf8}
use Rattle.codespan_core.proofs.term.config.chars.Chars.box_drawing.Goals as goal

pub returns-clause-equal : goal.returns-clause-equal
unfolding encode_utf8
returns-clause-equal c = record { start = refl; others = refl }
