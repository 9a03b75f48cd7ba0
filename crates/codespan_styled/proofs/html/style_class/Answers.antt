use Rattle.std.proofs.Common.{refl}
use Rattle.codespan_styled.proofs.html.style_class.Goals as goal

-- the class of the header of a warning
pub returns-in-Warning : goal.returns-in-Warning
returns-in-Warning c = rw (c.in-Header.is, c.in-Warning.is) refl

-- the class of a secondary label, of any severity
pub returns-in-Label-default-Secondary : goal.returns-in-Label-default-Secondary
returns-in-Label-default-Secondary c =
    let secondary = rw c.in-Label-default-Secondary.is at c.in-Label-default-Secondary.field-1-is in
    rw (c.in-Label-default-Secondary.is, secondary) refl
