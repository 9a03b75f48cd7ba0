use Rattle.codespan_output.specs.OutputStreams.{output}
use Rattle.codespan_laws.proofs.ColorLemmas as colors
use Rattle.codespan_laws.proofs.laws.colors_change_no_text.Goals as goal

pub returns-clause-spelled : goal.returns-clause-spelled
returns-clause-spelled g c =
    λ spelling style renderer_config view_config files d loci. colors.colors_change_no_text
    spelling
    (output style renderer_config view_config files d loci)

pub returns-clause-colorless : goal.returns-clause-colorless
returns-clause-colorless g c =
    λ styles style renderer_config view_config files d loci. colors.no_color_is_plain styles
    (output style renderer_config view_config files d loci)
