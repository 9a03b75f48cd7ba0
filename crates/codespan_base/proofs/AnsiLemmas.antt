-- For the clauses of `write_color`: the bytes of a color, as they are written.
use Rattle.codespan_core.proofs.Std.{◌≡◌, ℕ, ◌+◌, ◌-◌, ◌<◌, ◌≤◌, Bool}
use Rattle.codespan_core.proofs.Std.{true, false, List, [], ◌∷◌, None, Some, refl, arith}
use Rattle.std.specs.Fmt.{digits}
use Rattle.codespan_base.specs.declared.term.config.color.Color.{Color}
use Rattle.codespan_base.specs.declared.term.config.color.Color.TheVariants.{Black, Red, Green}
use Rattle.codespan_base.specs.declared.term.config.color.Color.TheVariants.{Yellow, Blue, Magenta}
use Rattle.codespan_base.specs.declared.term.config.color.Color.TheVariants.{Cyan, White}
use Rattle.codespan_base.specs.Ansi.{color_number, escape, ansi_color}

-- without a color nothing is written
pub ansi_color-none : (plane : List ℕ) (b : Bool) → ansi_color plane b None ≡ []
unfolding ansi_color
ansi_color-none plane b = refl

-- a color that is not intense
pub ansi_color-plain : (plane : ℕ) (c : Color)
    → ansi_color (plane ∷ []) false (Some c)
    ≡ 0x1b ∷ 91 ∷ plane ∷ (48 + color_number c) ∷ 109 ∷ []
unfolding ansi_color escape digits
ansi_color-plain plane Black = refl
ansi_color-plain plane Red = refl
ansi_color-plain plane Green = refl
ansi_color-plain plane Yellow = refl
ansi_color-plain plane Blue = refl
ansi_color-plain plane Magenta = refl
ansi_color-plain plane Cyan = refl
ansi_color-plain plane White = refl

-- an intense color whose number plus 8 has one digit
pub ansi_color-intense : (plane : ℕ) (c : Color) → color_number c < 2
    → ansi_color (plane ∷ []) true
    (Some c) ≡ 0x1b ∷ 91 ∷ plane ∷ 56 ∷ 59 ∷ 53 ∷ 59 ∷ (56 + color_number c) ∷ 109
    ∷ []
unfolding ansi_color escape digits
ansi_color-intense plane Black h = refl
ansi_color-intense plane Red h = refl
ansi_color-intense plane Green h = absurd (omega arith)
ansi_color-intense plane Yellow h = absurd (omega arith)
ansi_color-intense plane Blue h = absurd (omega arith)
ansi_color-intense plane Magenta h = absurd (omega arith)
ansi_color-intense plane Cyan h = absurd (omega arith)
ansi_color-intense plane White h = absurd (omega arith)

-- an intense color whose number plus 8 has two digits
pub ansi_color-intense_two : (plane : ℕ) (c : Color) → 2 ≤ color_number c
    → ansi_color (plane ∷ []) true
    (Some c) ≡ 0x1b ∷ 91 ∷ plane ∷ 56 ∷ 59 ∷ 53 ∷ 59 ∷ 49 ∷
    (48 + (color_number c - 2)) ∷ 109 ∷ []
unfolding ansi_color escape digits
ansi_color-intense_two plane Black h = absurd (omega arith)
ansi_color-intense_two plane Red h = absurd (omega arith)
ansi_color-intense_two plane Green h = refl
ansi_color-intense_two plane Yellow h = refl
ansi_color-intense_two plane Blue h = refl
ansi_color-intense_two plane Magenta h = refl
ansi_color-intense_two plane Cyan h = refl
ansi_color-intense_two plane White h = refl

-- the sequences of a color
pub ruleset sequences =
    (ansi_color-none, ansi_color-plain, ansi_color-intense, ansi_color-intense_two)
