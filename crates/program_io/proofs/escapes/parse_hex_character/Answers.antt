use Rattle.program_io.proofs.Escaping.{hex_of_number, no_hex}
use Rattle.program_io.proofs.escapes.parse_hex_character.Goals as goal

pub returns-in-Ok : goal.returns-in-Ok
returns-in-Ok c =
    hex_of_number c.args.digits.now c.in-Ok.number c.from_u32.result c.in-Ok.ensures.value
    c.from_u32.ensures.value

pub returns-in-Err : goal.returns-in-Err
returns-in-Err c = no_hex c.args.digits.now c.in-Err.ensures.value
