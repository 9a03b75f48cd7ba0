-- How an SVG document is read back, by the reader of `HtmlReading`: its tags, and the text between
-- them, and in which cells the characters of its texts are.
use Rattle.std.specs.Prelude.{◌≡◌, ℕ, ◌+◌, ◌==◌, Bool, true, false, not, ◌&&◌}
use Rattle.std.specs.Prelude.{◌||◌}
use Rattle.std.specs.Prelude.{List, [], ◌∷◌, ◌++◌, map, codes, encode_utf8}
use Rattle.std.specs.Prelude.{if◌then◌else◌}
use Rattle.std.specs.List.{AllByRecursion, flat_map}
use Rattle.codespan_styled.specs.declared.svg.glyph.Glyph.{Glyph}
use Rattle.codespan_styled.specs.declared.svg.ink.Ink.{Ink}
use Rattle.codespan_styled.specs.declared.svg.position.CellPosition.{CellPosition}
use Rattle.codespan_styled.specs.declared.svg.Pen.{Pen}
use Rattle.codespan_styled.specs.Glyphs.{after_glyph, cells_of, extent_from, follows}
use Rattle.codespan_styled.specs.Glyphs.{is_white_space, joins, runs_left, start}
use Rattle.codespan_styled.specs.HtmlReading.{Token, Tag, TextByte}
use Rattle.codespan_styled.specs.Runs.{RunView, joined}
use Rattle.codespan_styled.specs.SafeText.{CharacterInColumn, safe_text}
use Rattle.codespan_styled.specs.Svg.{first_pen, background_tag_content, next_pen}
use Rattle.codespan_styled.specs.Svg.{svg_tag_content, text_tag_content}

-- ---- characters

-- the characters of glyphs, in UTF-8
abbrev pub shown_glyphs : List Glyph → List ℕ
shown_glyphs glyphs = flat_map (λ (glyph : Glyph). encode_utf8 glyph.character) glyphs

-- what a document of runs shows: what is shown for their text, after the line ends of its first two
-- tags, and before one
abbrev pub shown_svg_text : List RunView → List ℕ
shown_svg_text runs = 10 ∷ 10 ∷ safe_text (joined runs) ++ 10 ∷ []

-- ---- pieces

-- a piece of a document: a character of white space, or a `text` element: the position where it
-- begins, its first glyph, and the others
pub data Piece : Type 0 where
  WhiteSpace : ℕ → Piece
  Text : CellPosition → Glyph → List Glyph → Piece

-- the glyphs that follow this one in its `text` element
abbrev pub joined_glyphs : Glyph → List Glyph → List Glyph
joined_glyphs before [] = []
joined_glyphs before (glyph ∷ glyphs) =
    if joins before glyph then glyph ∷ joined_glyphs glyph glyphs else []

-- the number of cells of glyphs
abbrev pub text_width : List Glyph → ℕ
text_width [] = 0
text_width (glyph ∷ glyphs) = cells_of glyph + text_width glyphs

-- the pieces of glyphs: white space is one alone, and any other glyph that does not follow the one
-- before it begins a `text` element
abbrev pub pieces_from : Pen → List Glyph → List Piece
pieces_from pen [] = []
pieces_from pen (glyph ∷ glyphs) =
    let rest = pieces_from (next_pen pen glyph) glyphs in
    if is_white_space glyph then WhiteSpace glyph.character ∷ rest
    else if follows pen.before glyph then rest
    else Text pen.position glyph (joined_glyphs glyph glyphs) ∷ rest

-- ---- the tokens of a document

-- a `text` element has two tags, and is as long as its cells
abbrev pub piece_tokens : Piece → List Token
piece_tokens (WhiteSpace character) = TextByte character ∷ []
piece_tokens (Text position first others) =
    Tag (text_tag_content position (text_width (first ∷ others)) first.ink)
    ∷ map TextByte (shown_glyphs (first ∷ others)) ++ Tag (codes "/text") ∷ []

-- all of a document: no other tag, and no other text
abbrev pub svg_tokens : List Glyph → List Token
svg_tokens glyphs =
    Tag (svg_tag_content (extent_from start glyphs)) ∷ TextByte 10 ∷ Tag background_tag_content
    ∷ TextByte 10 ∷ flat_map piece_tokens (pieces_from first_pen glyphs)
    ++ Tag (codes "/svg") ∷ TextByte 10 ∷ []

-- ---- cells

-- a character, its ink, and the position of its cell
pub record CharacterInCell : Type 0 where
  pub character : ℕ
  pub ink : Ink
  pub position : CellPosition

-- the characters of a `text` element, in one ink, the first one at this position
abbrev pub text_characters : Ink → CellPosition → List Glyph → List CharacterInCell
text_characters ink position [] = []
text_characters ink position (glyph ∷ glyphs) =
    record { character = glyph.character; ink = ink; position = position }
    ∷ text_characters ink (after_glyph position glyph) glyphs

-- the characters of a piece
abbrev pub piece_characters : Piece → List CharacterInCell
piece_characters (WhiteSpace character) = []
piece_characters (Text position first others) = text_characters first.ink position
    (first ∷ others)

-- the characters of glyphs from a position on but white space, each in its ink and in the cell that
-- it has among all of them
abbrev pub characters_from : CellPosition → List Glyph → List CharacterInCell
characters_from position [] = []
characters_from position (glyph ∷ glyphs) =
    let rest = characters_from (after_glyph position glyph) glyphs in
    if is_white_space glyph then rest
    else record { character = glyph.character; ink = glyph.ink; position = position } ∷ rest

-- a character, and the column of its cell
abbrev pub in_column : CharacterInCell → CharacterInColumn
in_column c = (c.character, c.position.column)

-- ---- white space

-- a `text` element has the character: it is no white space, neither a newline nor a space nor a tab
abbrev pub is_in_text_element : CharacterInColumn → Bool
is_in_text_element p = not ((p.0 == 10) || (p.0 == 32) || (p.0 == 9))

-- ---- order

-- the glyph is a letter of a right-to-left script: a character of one that occupies a cell
abbrev pub is_right_to_left_letter : Glyph → Bool
is_right_to_left_letter glyph = runs_left glyph && not (cells_of glyph == 0)

-- the glyphs of a `text` element are shown from left to right: only the first may be a letter of
-- a right-to-left script, and then the others occupy no cell
abbrev pub KeepsOrder : Piece → Type 0
KeepsOrder (WhiteSpace character) = Unit {0}
KeepsOrder (Text position first others) =
    AllByRecursion (λ (glyph : Glyph). is_right_to_left_letter glyph ≡ false) others
    × (is_right_to_left_letter first ≡ true
    → AllByRecursion (λ (glyph : Glyph). cells_of glyph ≡ 0) others)

-- ---- bytes

-- the bytes that a piece shows: white space between `text` elements is not shown
abbrev pub shown_bytes : Piece → List ℕ
shown_bytes (WhiteSpace character) = []
shown_bytes (Text position first others) = shown_glyphs (first ∷ others)

-- the byte is white space to a reader of XML, which may collapse or drop it: a tab, a newline, a
-- carriage return or a space
abbrev pub is_collapsible : ℕ → Bool
is_collapsible byte = (byte == 9) || (byte == 10) || (byte == 13) || (byte == 32)
