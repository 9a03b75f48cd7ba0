use Rattle.std.proofs.Common.{◌≡◌, sym, ap, arith}
use Rattle.std.specs.Char.{encode_utf8}
use Rattle.std.proofs.lemmas.Bool.Decides.{nat_tests}
use Rattle.codespan_styled.specs.Html.{html_character}
use Rattle.codespan_styled.proofs.Appending.{pushed}
use Rattle.codespan_styled.proofs.html.push_character.Goals as goal

-- the entity of an ampersand
pub returns-in-38 : goal.returns-in-38
returns-in-38 c =
    pushed c.push_str.result _ _ _ _ c.push_str.ensures.bytes (ap html_character (sym c.in-38.is))

-- the entity of a quotation mark
pub returns-in-34 : goal.returns-in-34
returns-in-34 c =
    pushed c.push_str-in-34.result _ _ _ _ c.push_str-in-34.ensures.bytes
    (ap html_character (sym c.in-34.is))

-- any other character is shown
pub returns-in_default : goal.returns-in_default
returns-in_default c =
    let other : encode_utf8 c.args.c ≡ html_character c.args.c = grind (arith, nat_tests) in
    pushed c.push.result _ _ _ (html_character c.args.c) c.push.ensures.bytes other
