use Rattle.codespan_styled.proofs.Rendering.{runs_are_utf8}
use Rattle.codespan_styled.proofs.render.laws.runs_are_utf8.Goals as goal

pub returns : goal.returns
returns g c = λ config files d. runs_are_utf8 config files d
