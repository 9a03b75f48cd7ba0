-- SVG documents of styled text.
use Rattle.std.specs.Prelude.{ℕ, ◌+◌, ◌*◌, ◌==◌, Bool, true, false}
use Rattle.std.specs.Prelude.{List, [], ◌∷◌, ◌++◌, codes, decimal, Option, Some, None}
use Rattle.std.specs.Prelude.{encode_utf8, if◌then◌else◌}
use Rattle.codespan_base.specs.declared.term.config.color.Color.{Color}
use Rattle.codespan_base.specs.declared.term.config.color.Color.TheVariants.{Black, Red, Green}
use Rattle.codespan_base.specs.declared.term.config.color.Color.TheVariants.{Yellow, Blue, Magenta}
use Rattle.codespan_base.specs.declared.term.config.color.Color.TheVariants.{Cyan, White}
use Rattle.codespan_styled.specs.declared.svg.glyph.Glyph.{Glyph}
use Rattle.codespan_styled.specs.declared.svg.ink.Ink.{Ink}
use Rattle.codespan_styled.specs.declared.svg.position.CellPosition.{CellPosition}
use Rattle.codespan_styled.specs.declared.svg.Pen.{Pen}
use Rattle.codespan_styled.specs.Glyphs.{after_glyph, cells_of, extent_from, follows, joins_next}
use Rattle.codespan_styled.specs.Glyphs.{is_white_space, joined_cells, start}

-- ---- characters

-- a character as XML escapes it: `&`, `<` and `>` as entities
abbrev pub xml_character : ℕ → List ℕ
xml_character c =
    if c == 38 then codes "&amp;"
    else if c == 60 then codes "&lt;"
    else if c == 62 then codes "&gt;"
    else encode_utf8 c

-- ---- tags

-- the CSS color of a terminal color, chosen to be legible on the dark background
abbrev pub color_on_dark : Color → List ℕ
color_on_dark Black = codes "#6e7681"
color_on_dark Red = codes "#ff7b72"
color_on_dark Green = codes "#7ee787"
color_on_dark Yellow = codes "#e3b341"
color_on_dark Blue = codes "#79c0ff"
color_on_dark Magenta = codes "#d2a8ff"
color_on_dark Cyan = codes "#56d4dd"
color_on_dark White = codes "#b1bac4"

-- the attribute of a color; that of plain text has none
abbrev pub color_attribute : Option Color → List ℕ
color_attribute None = []
color_attribute (Some color) = codes " fill=\"" ++ color_on_dark color ++ codes "\""

-- the attribute of bold text
abbrev pub weight_attribute : Bool → List ℕ
weight_attribute true = codes " font-weight=\"bold\""
weight_attribute false = []

-- the pixels left of a position: a margin, and nine for each cell
abbrev pub x_of : CellPosition → ℕ
x_of position = 12 + 9 * position.column

-- the pixels above the baseline of a position: 25 in the first row, eighteen more in each other
abbrev pub y_of : CellPosition → ℕ
y_of position = 25 + 18 * position.row

-- the content of the tag that begins a `text` element of this many cells at a position: its
-- position, its length and its ink
abbrev pub text_tag_content : CellPosition → ℕ → Ink → List ℕ
text_tag_content position cells ink =
    codes "text x=\"" ++ decimal (x_of position) ++ codes "\" y=\"" ++ decimal (y_of position)
    ++ codes "\" textLength=\"" ++ decimal (9 * cells) ++ codes "\""
    ++ color_attribute ink.color ++ weight_attribute ink.bold

-- that tag
abbrev pub text_tag : CellPosition → ℕ → Ink → List ℕ
text_tag position cells ink = codes "<" ++ text_tag_content position cells ink ++ codes ">"

-- ---- texts

-- the pen before the first glyph
abbrev pub first_pen : Pen
first_pen = record { position = start; before = None }

-- the pen after a glyph
abbrev pub next_pen : Pen → Glyph → Pen
next_pen pen glyph = record { position = after_glyph pen.position glyph; before = Some glyph }

-- a glyph before others: white space is between the `text` elements, where it is not shown; any
-- other is part of one `text` element with those that it joins
abbrev pub glyph_text : Pen → Glyph → List Glyph → List ℕ
glyph_text pen glyph others =
    if is_white_space glyph then encode_utf8 glyph.character
    else (if follows pen.before glyph
    then []
    else text_tag pen.position (cells_of glyph + joined_cells glyph others) glyph.ink)
    ++ xml_character glyph.character ++ (if joins_next glyph others then [] else codes "</text>")

-- glyphs, one after another
abbrev pub texts_from : Pen → List Glyph → List ℕ
texts_from pen [] = []
texts_from pen (glyph ∷ glyphs) =
    glyph_text pen glyph glyphs ++ texts_from (next_pen pen glyph) glyphs

-- ---- the document

-- its width and its height, in pixels: those of the rows, and a margin on each side
abbrev pub width : CellPosition → ℕ
width extent = 24 + 9 * extent.column

abbrev pub height : CellPosition → ℕ
height extent = 24 + 18 * extent.row

-- the content of its first tag begins with its size
abbrev pub svg_tag_start : CellPosition → List ℕ
svg_tag_start extent =
    codes "svg xmlns=\"http://www.w3.org/2000/svg\" width=\"" ++ decimal (width extent)
    ++ codes "\" height=\"" ++ decimal (height extent)
    ++ codes "\" viewBox=\"0 0 " ++ decimal (width extent)
    ++ codes " " ++ decimal (height extent) ++ codes "\""

-- and ends with the font and the color of plain text
unfoldable pub font_attributes : List ℕ
font_attributes =
    codes " font-family=\"DejaVu Sans Mono, Menlo, Consolas, monospace\" font-size=\"15\""
    ++ codes " fill=\"#e6edf3\""

-- that content
abbrev pub svg_tag_content : CellPosition → List ℕ
svg_tag_content extent = svg_tag_start extent ++ font_attributes

-- the content of the tag of the dark background
unfoldable pub background_tag_content : List ℕ
background_tag_content = codes "rect width=\"100%\" height=\"100%\" rx=\"6\" fill=\"#161b22\"/"

-- the document that shows glyphs
abbrev pub svg_document : List Glyph → List ℕ
svg_document glyphs =
    codes "<" ++ svg_tag_content (extent_from start glyphs) ++ codes ">\n<"
    ++ background_tag_content ++ codes ">\n" ++ texts_from first_pen glyphs ++ codes "</svg>\n"
