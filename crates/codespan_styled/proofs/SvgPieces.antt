-- The tokens of glyphs are those of their pieces, and each character has its cell: for the clause
-- `tokens` of `to_svg`, and for `svg::laws`.
use Rattle.std.proofs.Common.{◌≡◌, ℕ, ◌+◌, true, false, List, [], ◌∷◌, ◌++◌}
use Rattle.std.proofs.Common.{map, codes, refl, sym, ap, ◌∙◌, append_assoc, None, Some}
use Rattle.std.proofs.Common.{Option}
use Rattle.std.specs.Prelude.{Bool, ◌&&◌, not, nat_le, if◌then◌else◌}
use Rattle.std.specs.Char.{encode_utf8}
use Rattle.std.specs.List.{flat_map}
use Rattle.std.proofs.lemmas.List.{map-append}
use Rattle.codespan_styled.specs.declared.svg.glyph.Glyph.{Glyph}
use Rattle.codespan_styled.specs.declared.svg.Pen.{Pen}
use Rattle.codespan_styled.specs.Glyphs.{cells_of, follows, joins_next, is_narrow, is_white_space}
use Rattle.codespan_styled.specs.Glyphs.{joined_cells, joins, keeps_order}
use Rattle.codespan_styled.specs.HtmlReading.{Token, Tag, TextByte}
use Rattle.codespan_styled.specs.Inks.{same_ink}
use Rattle.codespan_styled.specs.Svg.{first_pen, next_pen, text_tag_content}
use Rattle.codespan_styled.specs.SvgReading.{Piece, WhiteSpace, Text, joined_glyphs, piece_tokens}
use Rattle.codespan_styled.specs.SvgReading.{pieces_from, shown_glyphs, text_width}

-- ---- glyph by glyph

-- the tag that ends a `text` element
abbrev pub end_tag : List Token
end_tag = Tag (codes "/text") ∷ []

-- the tokens of a glyph before others
abbrev pub glyph_tokens : Pen → Glyph → List Glyph → List Token
glyph_tokens pen glyph others =
    if is_white_space glyph then TextByte glyph.character ∷ []
    else (if follows pen.before glyph then []
    else Tag
    (text_tag_content pen.position (cells_of glyph + joined_cells glyph others) glyph.ink)
    ∷ [])
    ++ map TextByte (encode_utf8 glyph.character)
    ++ (if joins_next glyph others then [] else end_tag)

-- the tokens of glyphs
abbrev pub tokens_of_glyphs : Pen → List Glyph → List Token
tokens_of_glyphs pen [] = []
tokens_of_glyphs pen (glyph ∷ glyphs) =
    glyph_tokens pen glyph glyphs ++ tokens_of_glyphs (next_pen pen glyph) glyphs

-- ---- cases

pub two_ifs : {A B : Type 0} (b : Bool) (x y : A) (u v : B) (P : A → B → Type 0)
    → (b ≡ true → P x u) → (b ≡ false → P y v)
    → P (if b then x else y) (if b then u else v)
two_ifs true x y u v P t f = t refl
two_ifs false x y u v P t f = f refl

three_ifs : {A B C : Type 0} (b : Bool) (x y : A) (u v : B) (k l : C) (P : A → B → C → Type 0)
    → (b ≡ true → P x u k) → (b ≡ false → P y v l)
    → P (if b then x else y) (if b then u else v) (if b then k else l)
three_ifs true x y u v k l P t f = t refl
three_ifs false x y u v k l P t f = f refl

-- ---- joined glyphs

-- white space joins nothing
pub white_space_joins : (glyph next : Glyph) → is_white_space glyph ≡ true
    → joins glyph next ≡ false
white_space_joins glyph next e =
    ap (λ t. (not t && nat_le (cells_of glyph) 1) && is_narrow next
    && same_ink glyph.ink next.ink && keeps_order glyph next) e

-- and follows nothing
joins_white_space : (glyph next : Glyph) → is_white_space next ≡ true
    → joins glyph next ≡ false
joins_white_space glyph next e = at (is_narrow glyph)
  where
    at : (n : Bool)
        → n && is_narrow next && same_ink glyph.ink next.ink && keeps_order glyph next ≡ false
    at true =
        ap (λ t. (not t && nat_le (cells_of next) 1) && same_ink glyph.ink next.ink
        && keeps_order glyph next) e
    at false = refl

pub follows_white_space : (before : Option Glyph) (glyph : Glyph) → is_white_space glyph ≡ true
    → follows before glyph ≡ false
follows_white_space None glyph e = refl
follows_white_space (Some before) glyph e = joins_white_space before glyph e

-- the cells of the glyphs that follow
joined_width : (glyph : Glyph) (others : List Glyph)
    → joined_cells glyph others ≡ text_width (joined_glyphs glyph others)
joined_width glyph [] = refl
joined_width glyph (next ∷ others) =
    two_ifs (joins glyph next) (cells_of next + joined_cells next others) 0
    (next ∷ joined_glyphs next others) [] (λ cells glyphs. cells ≡ text_width glyphs)
    (λ _. ap (λ n. cells_of next + n) (joined_width next others)) (λ _. refl)

-- ---- tokens

-- the tokens of a `text` element from a glyph on
abbrev text_tokens : Glyph → List Glyph → List Token
text_tokens glyph others = map TextByte (shown_glyphs (glyph ∷ others)) ++ end_tag

-- the tokens of the text that goes on, if one does
abbrev tokens_left : Option Glyph → List Glyph → List Token
tokens_left before [] = []
tokens_left before (glyph ∷ glyphs) =
    if follows before glyph then text_tokens glyph (joined_glyphs glyph glyphs) else []

-- a `text` element ends, or goes on
ended_tokens : (glyph : Glyph) (others : List Glyph)
    → (if joins_next glyph others then [] else end_tag) ++ tokens_left (Some glyph) others ≡ map
    TextByte (shown_glyphs (joined_glyphs glyph others)) ++ end_tag
ended_tokens glyph [] = refl
ended_tokens glyph (next ∷ others) =
    three_ifs (joins glyph next) [] end_tag (text_tokens next (joined_glyphs next others)) []
    (next ∷ joined_glyphs next others) []
    (λ (end text : List Token) (glyphs : List Glyph). end ++ text
    ≡ map TextByte (shown_glyphs glyphs) ++ end_tag)
    (λ _. refl) (λ _. refl)

regrouped : (shown ended left joined rest : List Token) → ended ++ left ≡ joined ++ end_tag
    → (shown ++ ended) ++ (left ++ rest) ≡ ((shown ++ joined) ++ end_tag) ++ rest
regrouped shown ended left joined rest e =
    append_assoc shown ended (left ++ rest)
    ∙ ap (λ (tokens : List Token). shown ++ tokens)
    (sym (append_assoc ended left rest) ∙ ap (λ (tokens : List Token). tokens ++ rest) e)
    ∙ sym (append_assoc shown (joined ++ end_tag) rest)
    ∙ ap (λ (tokens : List Token). tokens ++ rest) (sym (append_assoc shown joined end_tag))

-- glyphs are read as the rest of a `text` element, and then as their pieces
tokens_by_pieces : (pen : Pen) (glyphs : List Glyph)
    → tokens_of_glyphs pen glyphs ≡ tokens_left pen.before glyphs ++ flat_map piece_tokens
    (pieces_from pen glyphs)
tokens_by_pieces pen [] = refl
tokens_by_pieces pen (glyph ∷ glyphs) = all (tokens_by_pieces (next_pen pen glyph) glyphs)
  where
    next : Pen
    next = next_pen pen glyph

    rest : List Piece
    rest = pieces_from next glyphs

    tokens : List Token
    tokens = flat_map piece_tokens rest

    tag : ℕ → List Token
    tag cells = Tag (text_tag_content pen.position cells glyph.ink) ∷ []

    shown : List Token
    shown = map TextByte (encode_utf8 glyph.character)

    joined : List Token
    joined = map TextByte (shown_glyphs (joined_glyphs glyph glyphs))

    ended : List Token
    ended = if joins_next glyph glyphs then [] else end_tag

    piece : Piece
    piece = Text pen.position glyph (joined_glyphs glyph glyphs)

    left : List Token
    left = tokens_left (Some glyph) glyphs

    Goal : List Token → List Token → List Piece → Type 0
    Goal first prefix pieces =
        first ++ tokens_of_glyphs next glyphs ≡ prefix ++ flat_map piece_tokens pieces

    Rest : Type 0
    Rest = tokens_of_glyphs next glyphs ≡ left ++ tokens

    whole : Rest
        → (shown ++ ended) ++ tokens_of_glyphs next glyphs ≡ text_tokens glyph
        (joined_glyphs glyph glyphs) ++ tokens
    whole is =
        ap (λ (ps : List Token). (shown ++ ended) ++ ps) is
        ∙ regrouped shown ended left joined tokens (ended_tokens glyph glyphs)
        ∙ ap (λ (ps : List Token). (ps ++ end_tag) ++ tokens)
        (sym
        (map-append TextByte (encode_utf8 glyph.character)
        (shown_glyphs (joined_glyphs glyph glyphs))))

    character : Rest
        → Goal
        ((if follows pen.before glyph then [] else tag (cells_of glyph + joined_cells glyph glyphs))
        ++ shown ++ ended)
        (if follows pen.before glyph then text_tokens glyph (joined_glyphs glyph glyphs) else [])
        (if follows pen.before glyph then rest else piece ∷ rest)
    character is =
        three_ifs (follows pen.before glyph) [] (tag (cells_of glyph + joined_cells glyph glyphs))
        (text_tokens glyph (joined_glyphs glyph glyphs)) [] rest (piece ∷ rest)
        (λ (prefix left : List Token) (pieces : List Piece). Goal (prefix ++ shown ++ ended) left
        pieces)
        (λ _. whole is)
        (λ _. ap (λ (ps : List Token). tag (cells_of glyph + joined_cells glyph glyphs) ++ ps)
        (whole is)
        ∙ ap
        (λ cells. tag (cells_of glyph + cells)
        ++ (text_tokens glyph (joined_glyphs glyph glyphs) ++ tokens))
        (joined_width glyph glyphs))

    none_left : (others : List Glyph) → is_white_space glyph ≡ true
        → tokens_left (Some glyph) others ≡ []
    none_left [] e = refl
    none_left (other ∷ others) e =
        ap (λ t. if t then text_tokens other (joined_glyphs other others) else [])
        (white_space_joins glyph other e)

    white_space : Rest → is_white_space glyph ≡ true
        → Goal (TextByte glyph.character ∷ [])
        (if follows pen.before glyph then text_tokens glyph (joined_glyphs glyph glyphs) else [])
        (WhiteSpace glyph.character ∷ rest)
    white_space is e =
        ap (λ (ps : List Token). TextByte glyph.character ∷ ps)
        (is ∙ ap (λ (ps : List Token). ps ++ tokens) (none_left glyphs e))
        ∙ ap
        (λ t. (if t then text_tokens glyph (joined_glyphs glyph glyphs) else [])
        ++ (TextByte glyph.character ∷ tokens))
        (sym (follows_white_space pen.before glyph e))

    all : Rest
        → tokens_of_glyphs pen (glyph ∷ glyphs) ≡ tokens_left pen.before
        (glyph ∷ glyphs) ++ flat_map piece_tokens (pieces_from pen (glyph ∷ glyphs))
    all is =
        two_ifs (is_white_space glyph) (TextByte glyph.character ∷ [])
        ((if follows pen.before glyph then [] else tag (cells_of glyph + joined_cells glyph glyphs))
        ++ shown ++ ended)
        (WhiteSpace glyph.character ∷ rest)
        (if follows pen.before glyph then rest else piece ∷ rest)
        (λ (first : List Token) (pieces : List Piece). Goal first
        (if follows pen.before glyph then text_tokens glyph (joined_glyphs glyph glyphs)
        else [])
        pieces)
        (white_space is) (λ _. character is)

none_before : (glyphs : List Glyph) → tokens_left None glyphs ≡ []
none_before [] = refl
none_before (glyph ∷ glyphs) = refl

-- all glyphs
pub tokens_of_pieces : (glyphs : List Glyph)
    → tokens_of_glyphs first_pen glyphs ≡ flat_map piece_tokens (pieces_from first_pen glyphs)
tokens_of_pieces glyphs =
    tokens_by_pieces first_pen glyphs
    ∙ ap (λ (ps : List Token). ps ++ flat_map piece_tokens (pieces_from first_pen glyphs))
    (none_before glyphs)
