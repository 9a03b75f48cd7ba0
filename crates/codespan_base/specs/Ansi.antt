-- The bytes of a style in escape sequences.
use Rattle.std.specs.Prelude.{ℕ, ◌+◌, Bool, true, false, List, [], ◌∷◌, ◌++◌}
use Rattle.std.specs.Prelude.{Option, Some, None, codes, decimal}
use Rattle.codespan_base.specs.declared.term.config.color.Color.{Color}
use Rattle.codespan_base.specs.declared.term.config.color.Color.TheVariants.{Black, Red, Green}
use Rattle.codespan_base.specs.declared.term.config.color.Color.TheVariants.{Yellow, Blue, Magenta}
use Rattle.codespan_base.specs.declared.term.config.color.Color.TheVariants.{Cyan, White}
use Rattle.codespan_base.specs.declared.term.config.color.ColorSpec.{ColorSpec}

-- the number of a color
abbrev pub color_number : Color → ℕ
color_number Black = 0
color_number Red = 1
color_number Green = 2
color_number Yellow = 3
color_number Blue = 4
color_number Magenta = 5
color_number Cyan = 6
color_number White = 7

-- one escape sequence
unfoldable pub escape : List ℕ → List ℕ
escape parameters = 0x1b ∷ codes "[" ++ parameters ++ codes "m"

-- the sequence that turns all styles off
unfoldable pub ansi_reset : List ℕ
ansi_reset = escape (codes "0")

-- the sequence that turns bold on, where it is on
unfoldable pub ansi_bold : Bool → List ℕ
ansi_bold true = escape (codes "1")
ansi_bold false = []

-- the sequence that sets a color: the plane is `3` for the text and `4` for the background
unfoldable pub ansi_color : List ℕ → Bool → Option Color → List ℕ
ansi_color plane intense None = []
ansi_color plane true (Some color) =
    escape (plane ++ codes "8;5;" ++ decimal (8 + color_number color))
ansi_color plane false (Some color) = escape (plane ++ decimal (color_number color))

-- the sequences of a style, whose first one turns all styles off
unfoldable pub ansi_style : ColorSpec → List ℕ
ansi_style spec =
    ansi_reset ++ ansi_bold spec.bold ++ ansi_color (codes "3") spec.intense spec.fg
    ++ ansi_color (codes "4") spec.intense spec.bg
