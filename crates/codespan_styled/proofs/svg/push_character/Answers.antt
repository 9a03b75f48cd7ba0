use Rattle.std.proofs.Common.{sym, ap}
use Rattle.codespan_styled.specs.Svg.{xml_character}
use Rattle.codespan_styled.proofs.Appending.{pushed}
use Rattle.codespan_styled.proofs.svg.push_character.Goals as goal

-- the entity of a less-than sign
pub returns-in-60 : goal.returns-in-60
returns-in-60 c =
    pushed c.push_str-in-60.result _ _ _ _ c.push_str-in-60.ensures.bytes
    (ap xml_character (sym c.in-60.is))
