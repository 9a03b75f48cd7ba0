-- Inks: what a style is in an SVG document.
use Rattle.std.specs.Prelude.{ℕ, ◌==◌, Bool, not, ◌&&◌, Option, Some, None}
use Rattle.std.specs.Prelude.{if◌then◌else◌}
use Rattle.codespan_base.specs.declared.term.config.color.Color.{Color}
use Rattle.codespan_base.specs.declared.term.config.color.ColorSpec.{ColorSpec}
use Rattle.codespan_base.specs.Ansi.{color_number}
use Rattle.codespan_styled.specs.declared.svg.ink.Ink.{Ink}

-- the ink of a `ColorSpec`: its text color, and whether it is bold
abbrev pub ink_of : ColorSpec → Ink
ink_of spec = record { color = spec.fg; bold = spec.bold }

-- the number of a color, or 8 for `None`
abbrev pub optional_color_number : Option Color → ℕ
optional_color_number None = 8
optional_color_number (Some color) = color_number color

-- two inks have one color, and both are bold or neither is
abbrev pub same_ink : Ink → Ink → Bool
same_ink x y =
    optional_color_number x.color == optional_color_number y.color
    && (if x.bold then y.bold else not y.bold)
