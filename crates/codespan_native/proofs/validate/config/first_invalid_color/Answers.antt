use Rattle.std.proofs.Common.{subst}
use Rattle.codespan_native.proofs.FirstInvalid.{by_index}
use Rattle.codespan_native.specs.Validity.{FindsFirstInvalid, HoldsIfAt, IsValidColorSpec}
use Rattle.codespan_native.proofs.validate.config.first_invalid_color.Goals as goal

pub returns : goal.returns
returns c =
    subst (λ specs. FindsFirstInvalid (HoldsIfAt IsValidColorSpec specs) c.color_spec_index.result)
    c.color_specs_of.ensures
    (by_index IsValidColorSpec c.color_specs_of.result c.color_spec_index.result
    c.color_spec_index.ensures)
