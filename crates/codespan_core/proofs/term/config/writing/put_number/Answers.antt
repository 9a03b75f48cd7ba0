use Rattle.codespan_core.proofs.Std.{arith, ◌≡◌, ◌-◌, take, drop, length-drop, take_all}
use Rattle.codespan_core.proofs.term.config.writing.put_number.Goals as goal

-- the digits that were written are those of the number
pub returns : goal.returns
returns g c =
    let start = c.write_digits-start.result in
    let digits = c.write_digits-start.new.digits in
    let whole : take (20 - start) (drop start digits) ≡ drop start digits =
    take_all (20 - start) (drop start digits) (omega (arith, length-drop start digits)) in
    rw (whole, c.write_digits-start.ensures.value) at c.put_all.ensures
