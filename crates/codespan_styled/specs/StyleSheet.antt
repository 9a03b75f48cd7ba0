-- The style sheet of HTML elements, by the colors and the weights of a `Styles`.
use Rattle.std.specs.Prelude.{ℕ, Bool, List, [], ◌∷◌, ◌++◌, codes, Option, Some, None}
use Rattle.std.specs.Prelude.{if◌then◌else◌}
use Rattle.std.specs.List.{flat_map}
use Rattle.codespan_base.specs.declared.diagnostic.LabelStyle.TheVariants.{Primary, Secondary}
use Rattle.codespan_base.specs.declared.diagnostic.Severity.TheVariants.{Bug, Error, Warning, Note}
use Rattle.codespan_base.specs.declared.diagnostic.Severity.TheVariants.{Help}
use Rattle.codespan_base.specs.declared.term.config.color.Color.{Color}
use Rattle.codespan_base.specs.declared.term.config.color.Color.TheVariants.{Black, Red, Green}
use Rattle.codespan_base.specs.declared.term.config.color.Color.TheVariants.{Yellow, Blue, Magenta}
use Rattle.codespan_base.specs.declared.term.config.color.Color.TheVariants.{Cyan, White}
use Rattle.codespan_base.specs.declared.term.config.color.ColorSpec.{ColorSpec}
use Rattle.codespan_base.specs.declared.term.config.style_mark.StyleMark.{StyleMark}
use Rattle.codespan_base.specs.declared.term.config.style_mark.StyleMark.TheVariants.{Header}
use Rattle.codespan_base.specs.declared.term.config.style_mark.StyleMark.TheVariants.{HeaderMessage}
use Rattle.codespan_base.specs.declared.term.config.style_mark.StyleMark.TheVariants.{LineNumber}
use Rattle.codespan_base.specs.declared.term.config.style_mark.StyleMark.TheVariants.{NoteBullet}
use Rattle.codespan_base.specs.declared.term.config.style_mark.StyleMark.TheVariants.{SourceBorder}
use Rattle.codespan_base.specs.declared.term.config.style_mark.StyleMark.TheVariants.{Label, Reset}
use Rattle.codespan_base.specs.declared.term.config.styles.Styles.{Styles}
use Rattle.codespan_base.specs.StyleSpellings.{header_color_spec, label_color_spec, unset}
use Rattle.codespan_styled.specs.Html.{style_class}

-- ---- colors

-- the CSS color of a terminal color, as xterm shows it by default
abbrev pub normal_color : Color → List ℕ
normal_color Black = codes "#000000"
normal_color Red = codes "#cd0000"
normal_color Green = codes "#00cd00"
normal_color Yellow = codes "#cdcd00"
normal_color Blue = codes "#0000ee"
normal_color Magenta = codes "#cd00cd"
normal_color Cyan = codes "#00cdcd"
normal_color White = codes "#e5e5e5"

-- the CSS color of its bright variant
abbrev pub bright_color : Color → List ℕ
bright_color Black = codes "#7f7f7f"
bright_color Red = codes "#ff0000"
bright_color Green = codes "#00ff00"
bright_color Yellow = codes "#ffff00"
bright_color Blue = codes "#5c5cff"
bright_color Magenta = codes "#ff00ff"
bright_color Cyan = codes "#00ffff"
bright_color White = codes "#ffffff"

-- ---- rules

-- a color after its property; nothing where there is no color
abbrev pub color_declaration : List ℕ → Bool → Option Color → List ℕ
color_declaration property intense None = []
color_declaration property intense (Some color) =
    property ++ (if intense then bright_color color else normal_color color) ++ codes "; "

-- the declaration of bold text
abbrev pub weight_declaration : Bool → List ℕ
weight_declaration bold = if bold then codes "font-weight: bold; " else []

-- the declarations of colors and a weight
abbrev pub declarations : ColorSpec → List ℕ
declarations spec =
    color_declaration (codes "color: ") spec.intense spec.fg
    ++ color_declaration (codes "background-color: ") spec.intense spec.bg
    ++ weight_declaration spec.bold

-- the colors and the weight that `styles` has for a style
abbrev pub color_spec_of_style : Styles → StyleMark → ColorSpec
color_spec_of_style styles Reset = unset
color_spec_of_style styles (Header severity) = header_color_spec styles severity
color_spec_of_style styles HeaderMessage = styles.header_message
color_spec_of_style styles LineNumber = styles.line_number
color_spec_of_style styles NoteBullet = styles.note_bullet
color_spec_of_style styles SourceBorder = styles.source_border
color_spec_of_style styles (Label severity style) = label_color_spec styles severity style

-- the rule of the class of a style
abbrev pub rule : Styles → StyleMark → List ℕ
rule styles style =
    codes ".diagnostic ." ++ style_class style ++ codes " { "
    ++ declarations (color_spec_of_style styles style) ++ codes "}\n"

-- one style of each class
abbrev pub classed_styles : List StyleMark
classed_styles =
    Header Bug ∷ Header Error ∷ Header Warning ∷ Header Note ∷ Header Help ∷ HeaderMessage
    ∷ Label Bug Primary ∷ Label Error Primary ∷ Label Warning Primary ∷ Label Note Primary
    ∷ Label Help Primary ∷ Label Error Secondary ∷ LineNumber ∷ SourceBorder ∷ NoteBullet
    ∷ []

-- the rule of the element, whose characters are from left to right in the order of its text, and
-- those of the boxes of wide characters, as wide as the cells that the characters occupy
abbrev pub layout_rules : List ℕ
layout_rules =
    codes ".diagnostic { direction: ltr; unicode-bidi: isolate-override; }\n"
    ++ codes ".diagnostic .wide { display: inline-block; width: 2ch; }\n"
    ++ codes ".diagnostic .wide-3 { display: inline-block; width: 3ch; }\n"

-- the style sheet: a rule for each class of styles, and those of the layout
abbrev pub style_sheet : Styles → List ℕ
style_sheet styles = flat_map (rule styles) classed_styles ++ layout_rules
