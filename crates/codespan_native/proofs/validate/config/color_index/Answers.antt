use Rattle.std.proofs.Common.{rules}
use Rattle.codespan_native.proofs.FirstInvalid.{where_chosen}
use Rattle.codespan_native.proofs.validate.config.color_index.Goals as goal

pub returns : goal.returns
returns c = where_chosen _ _ _ (search rules) c.first_invalid_color.ensures
