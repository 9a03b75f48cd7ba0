-- Each character of an SVG document has its cell and its ink: for
-- `svg::laws::characters_are_in_their_cells`.
use Rattle.std.proofs.Common.{◌≡◌, ℕ, true, false, List, [], ◌∷◌, ◌++◌, refl, sym}
use Rattle.std.proofs.Common.{ap, ◌∙◌, None, Some, Option}
use Rattle.std.specs.Prelude.{Bool, ◌==◌, ◌&&◌, not, if◌then◌else◌}
use Rattle.std.specs.List.{flat_map}
use Rattle.codespan_base.specs.declared.term.config.color.Color.{Color}
use Rattle.codespan_base.specs.declared.term.config.color.Color.TheVariants.{Black, Red, Green}
use Rattle.codespan_base.specs.declared.term.config.color.Color.TheVariants.{Yellow, Blue, Magenta}
use Rattle.codespan_base.specs.declared.term.config.color.Color.TheVariants.{Cyan, White}
use Rattle.codespan_styled.specs.declared.svg.glyph.Glyph.{Glyph}
use Rattle.codespan_styled.specs.declared.svg.ink.Ink.{Ink}
use Rattle.codespan_styled.specs.declared.svg.position.CellPosition.{CellPosition}
use Rattle.codespan_styled.specs.declared.svg.Pen.{Pen}
use Rattle.codespan_styled.specs.Glyphs.{follows, is_narrow, is_white_space, joins, keeps_order}
use Rattle.codespan_styled.specs.Glyphs.{start}
use Rattle.codespan_styled.specs.Inks.{optional_color_number, same_ink}
use Rattle.codespan_styled.specs.Svg.{first_pen, next_pen}
use Rattle.codespan_styled.specs.SvgReading.{CharacterInCell, Piece, WhiteSpace, Text}
use Rattle.codespan_styled.specs.SvgReading.{text_characters, piece_characters, joined_glyphs}
use Rattle.codespan_styled.specs.SvgReading.{pieces_from, characters_from}
use Rattle.codespan_styled.proofs.HtmlReading.{and_true, is_code}
use Rattle.codespan_styled.proofs.SvgPieces.{two_ifs, white_space_joins, follows_white_space}

-- ---- inks by their numbers

-- the color of a number
abbrev color_of : ℕ → Option Color
color_of n =
    if n == 0 then Some Black else if n == 1 then Some Red else if n == 2 then Some Green
    else if n == 3 then Some Yellow
    else if n == 4 then Some Blue else if n == 5 then Some Magenta else if n == 6 then Some Cyan
    else if n == 7 then Some White else None

color_is : (color : Option Color) → color_of (optional_color_number color) ≡ color
color_is None = refl
color_is (Some Black) = refl
color_is (Some Red) = refl
color_is (Some Green) = refl
color_is (Some Yellow) = refl
color_is (Some Blue) = refl
color_is (Some Magenta) = refl
color_is (Some Cyan) = refl
color_is (Some White) = refl

-- colors of one number are one color
one_color : (x y : Option Color) → optional_color_number x == optional_color_number y ≡ true
    → y ≡ x
one_color x y e = sym (color_is y) ∙ ap color_of (sym (is_code _ _ e)) ∙ color_is x

one_weight : (x y : Bool) → (if x then y else not y) ≡ true → y ≡ x
one_weight true y e = e
one_weight false true e = absurd (cc)
one_weight false false e = refl

abbrev inked : Option Color → Bool → Ink
inked color bold = record { color = color; bold = bold }

-- inks that are the same are one ink
one_ink : (x y : Ink) → same_ink x y ≡ true → y ≡ x
one_ink x y e =
    let same = and_true (optional_color_number x.color == optional_color_number y.color)
    (if x.bold then y.bold else not y.bold) e in
    ap (λ (color : Option Color). inked color y.bold) (one_color x.color y.color same.0)
    ∙ ap (λ (bold : Bool). inked x.color bold) (one_weight x.bold y.bold same.1)

-- glyphs of one `text` element have one ink
joined_inks : (glyph next : Glyph) → joins glyph next ≡ true → next.ink ≡ glyph.ink
joined_inks glyph next e =
    let drawn = is_narrow glyph && is_narrow next in
    one_ink glyph.ink next.ink
    (and_true drawn (same_ink glyph.ink next.ink)
    (and_true (drawn && same_ink glyph.ink next.ink) (keeps_order glyph next) e).0).1

-- ---- cells

-- the cells of the text that goes on, if one does
abbrev cells_left : Option Glyph → CellPosition → List Glyph → List CharacterInCell
cells_left before position [] = []
cells_left before position (glyph ∷ glyphs) =
    if follows before glyph then text_characters glyph.ink position
    (glyph ∷ joined_glyphs glyph glyphs)
    else []

-- of the text of this glyph
left_in : (glyph : Glyph) (position : CellPosition) (others : List Glyph)
    → cells_left (Some glyph) position others ≡ text_characters glyph.ink position
    (joined_glyphs glyph others)
left_in glyph position [] = refl
left_in glyph position (next ∷ others) =
    two_ifs (joins glyph next)
    (text_characters next.ink position (next ∷ joined_glyphs next others)) []
    (next ∷ joined_glyphs next others) []
    (λ cells glyphs. cells ≡ text_characters glyph.ink position glyphs)
    (λ e. ap (λ ink. text_characters ink position (next ∷ joined_glyphs next others))
    (joined_inks glyph next e))
    (λ _. refl)

cells_by_pieces : (pen : Pen) (glyphs : List Glyph)
    → characters_from pen.position glyphs ≡ cells_left pen.before pen.position glyphs
    ++ flat_map
    piece_characters (pieces_from pen glyphs)
cells_by_pieces pen [] = refl
cells_by_pieces pen (glyph ∷ glyphs) = all (cells_by_pieces (next_pen pen glyph) glyphs)
  where
    next : Pen
    next = next_pen pen glyph

    rest : List Piece
    rest = pieces_from next glyphs

    cells : List CharacterInCell
    cells = flat_map piece_characters rest

    own : List CharacterInCell
    own = text_characters glyph.ink pen.position (glyph ∷ joined_glyphs glyph glyphs)

    first : CharacterInCell
    first = record { character = glyph.character; ink = glyph.ink; position = pen.position }

    piece : Piece
    piece = Text pen.position glyph (joined_glyphs glyph glyphs)

    Rest : Type 0
    Rest =
        characters_from next.position glyphs ≡ cells_left (Some glyph) next.position glyphs
        ++ cells

    whole : Rest → first ∷ characters_from next.position glyphs ≡ own ++ cells
    whole is =
        ap (λ (cs : List CharacterInCell). first ∷ cs)
        (is ∙ ap (λ (cs : List CharacterInCell). cs ++ cells)
        (left_in glyph next.position glyphs))

    character : Rest
        → first ∷ characters_from next.position
        glyphs ≡ (if follows pen.before glyph then own else [])
        ++ flat_map piece_characters (if follows pen.before glyph then rest else piece ∷ rest)
    character is =
        two_ifs (follows pen.before glyph) own [] rest (piece ∷ rest)
        (λ (left : List CharacterInCell) (pieces : List Piece). first
        ∷ characters_from next.position glyphs ≡ left ++ flat_map piece_characters pieces)
        (λ _. whole is) (λ _. whole is)

    none_left : (others : List Glyph) → is_white_space glyph ≡ true
        → cells_left (Some glyph) next.position others ≡ []
    none_left [] e = refl
    none_left (other ∷ others) e =
        ap
        (λ t. if t then text_characters other.ink next.position
        (other ∷ joined_glyphs other others)
        else [])
        (white_space_joins glyph other e)

    white_space : Rest → is_white_space glyph ≡ true
        → characters_from next.position
        glyphs ≡ (if follows pen.before glyph then own else []) ++ cells
    white_space is e =
        is ∙ ap (λ (cs : List CharacterInCell). cs ++ cells) (none_left glyphs e)
        ∙ ap (λ t. (if t then own else []) ++ cells)
        (sym (follows_white_space pen.before glyph e))

    all : Rest
        → characters_from pen.position (glyph ∷ glyphs) ≡ cells_left pen.before pen.position
        (glyph ∷ glyphs) ++ flat_map piece_characters (pieces_from pen (glyph ∷ glyphs))
    all is =
        two_ifs (is_white_space glyph) (characters_from next.position glyphs)
        (first ∷ characters_from next.position glyphs)
        (WhiteSpace glyph.character ∷ rest)
        (if follows pen.before glyph then rest else piece ∷ rest)
        (λ (cs : List CharacterInCell) (pieces : List Piece). cs
        ≡ (if follows pen.before glyph then own else []) ++ flat_map piece_characters pieces)
        (white_space is) (λ _. character is)

no_cells_before : (glyphs : List Glyph) → cells_left None start glyphs ≡ []
no_cells_before [] = refl
no_cells_before (glyph ∷ glyphs) = refl

-- all glyphs
pub cells_of_pieces : (glyphs : List Glyph)
    → flat_map piece_characters (pieces_from first_pen glyphs) ≡ characters_from start glyphs
cells_of_pieces glyphs =
    sym (cells_by_pieces first_pen glyphs ∙ ap
    (λ (cs : List CharacterInCell). cs ++ flat_map piece_characters
    (pieces_from first_pen glyphs)) (no_cells_before glyphs))
