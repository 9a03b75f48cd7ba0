use Rattle.std.proofs.Common.{rules}
use Rattle.codespan_native.specs.Converted.{styles_of}
use Rattle.codespan_native.proofs.convert.forms.styles_of.Goals as goal

pub returns-in-2 : goal.returns-in-2
unfolding styles_of
returns-in-2 c = rw c.in-2.is c.convert_styles.ensures

pub returns-in_default : goal.returns-in_default
unfolding styles_of
returns-in_default c = search rules
