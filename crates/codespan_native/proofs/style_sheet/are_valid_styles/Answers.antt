use Rattle.std.proofs.Common.{rules}
use Rattle.codespan_native.proofs.style_sheet.are_valid_styles.Goals as goal

-- the color at the index is invalid
pub returns-in-Some : goal.returns-in-Some
returns-in-Some c =
    (λ claimed. search rules, λ valid. absurd (c.in-Some.ensures.invalid (valid c.in-Some.field-0)))
