use Rattle.codespan_output.proofs.Utf8.Outputs.{output_is_utf8, picture_is_utf8}
use Rattle.codespan_laws.proofs.laws.outputs_are_utf8.Goals as goal

pub returns-clause-output : goal.returns-clause-output
returns-clause-output g c =
    λ style renderer view files d. output_is_utf8 style renderer view files d

pub returns-clause-picture : goal.returns-clause-picture
returns-clause-picture g c =
    λ style renderer view files d. picture_is_utf8 style renderer view files d
