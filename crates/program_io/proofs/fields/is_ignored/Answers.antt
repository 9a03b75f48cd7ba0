use Rattle.codespan_core.proofs.Std.{◌≡◌, ◌∙◌, ◌==◌, ℕ, false, List, []}
use Rattle.codespan_core.proofs.Std.{◌∷◌, length, get_or, lit<, refl, sym}
use Rattle.program_io.specs.Fields.{is_ignored_text}
use Rattle.program_io.proofs.fields.is_ignored.Goals as goal

-- a line that is not empty is ignored by its first byte
first_decides : (line : List ℕ) → (length line == 0) ≡ false
    → (get_or line 0 0 == 35) ≡ is_ignored_text line
first_decides [] filled = absurd (cc filled)
first_decides (b ∷ bs) filled = refl

pub returns-else-is_empty : goal.returns-else-is_empty
returns-else-is_empty c =
    c.starts_with.ensures.byte (lit< tt) (lit< tt) (λ w o k. k)
    ∙ first_decides c.args.line.now (sym c.is_empty.ensures ∙ c.if-is_empty.false)
