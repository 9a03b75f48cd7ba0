use Rattle.std.proofs.Common.{rules, subst}
use Rattle.std.specs.Char.{InScalarRange}
use Rattle.codespan_native.proofs.FirstInvalid.{by_index, where_chosen}
use Rattle.codespan_native.specs.Validity.{FindsFirstInvalid, HoldsIfAt}
use Rattle.codespan_native.proofs.validate.config.character_index.Goals as goal

pub returns : goal.returns
returns c =
    where_chosen _ _ _ (search rules)
    (subst (λ codes. FindsFirstInvalid (HoldsIfAt InScalarRange codes) c.code_point_index.result)
    c.code_points_of.ensures
    (by_index InScalarRange c.code_points_of.result c.code_point_index.result
    c.code_point_index.ensures))
