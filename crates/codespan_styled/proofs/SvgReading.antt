-- An SVG document reads back as its tags and its text: for the clauses `tokens` and `text` of
-- `to_svg`.
use Rattle.std.proofs.Common.{◌≡◌, ℕ, ◌+◌, true, false, List, [], ◌∷◌, ◌++◌}
use Rattle.std.proofs.Common.{map, codes, refl, sym, ap, ◌∙◌, append_assoc, append-nil}
use Rattle.std.specs.Prelude.{Bool, if◌then◌else◌}
use Rattle.std.specs.Char.{encode_utf8}
use Rattle.std.specs.List.{flat_map}
use Rattle.std.specs.Str.{chars, encode_utf8_all}
use Rattle.std.proofs.lemmas.List.{map-append}
use Rattle.std.proofs.lemmas.List.Elements.{filter_map-append}
use Rattle.codespan_base.specs.declared.term.config.styles.Styles.{Styles}
use Rattle.codespan_styled.specs.declared.svg.glyph.Glyph.{Glyph}
use Rattle.codespan_styled.specs.declared.svg.ink.Ink.{Ink}
use Rattle.codespan_styled.specs.declared.svg.Pen.{Pen}
use Rattle.codespan_styled.specs.declared.text.Run.{Run}
use Rattle.codespan_styled.specs.Glyphs.{cells_of, extent_from, follows, glyphs_of, glyphs_of_run}
use Rattle.codespan_styled.specs.Glyphs.{joins_next, is_white_space, joined_cells, start}
use Rattle.codespan_styled.specs.HtmlReading.{InText, Token, Tag, TextByte, read_tokens}
use Rattle.codespan_styled.specs.HtmlReading.{tokens_from, text_of_tokens}
use Rattle.codespan_styled.specs.Runs.{RunView, run_characters, run_view}
use Rattle.codespan_styled.specs.SafeText.{safe_characters, shown_character}
use Rattle.codespan_styled.specs.Svg.{first_pen, glyph_text, background_tag_content, next_pen}
use Rattle.codespan_styled.specs.Svg.{svg_document, svg_tag_content, text_tag_content, text_tag}
use Rattle.codespan_styled.specs.Svg.{texts_from, xml_character}
use Rattle.codespan_styled.specs.SvgReading.{piece_tokens, pieces_from, svg_tokens, shown_svg_text}
use Rattle.codespan_styled.proofs.Shown.{joined-characters}
use Rattle.codespan_styled.proofs.HtmlReading.{text_of-append, text_of-bytes}
use Rattle.codespan_styled.proofs.SvgPieces.{glyph_tokens, tokens_of_glyphs, tokens_of_pieces}
use Rattle.codespan_styled.proofs.SvgPieces.{two_ifs}
use Rattle.codespan_styled.proofs.SvgElements.{is_inside, text-inside, svg-inside, tag-read}
use Rattle.codespan_styled.proofs.SvgElements.{character-read, white-space-read, white-space-shown}

-- ---- glyphs

-- what ends with a token reads as that token and what is after it
ended-read : (t : Bool) (rest : List ℕ)
    → tokens_from InText
    ((if t then [] else codes "</text>") ++ rest) ≡ (if t then [] else Tag (codes "/text") ∷ [])
    ++ tokens_from InText rest
ended-read true rest = refl
ended-read false rest = refl

prefix-read : (t : Bool) (content rest : List ℕ) → is_inside content ≡ true
    → tokens_from InText
    ((if t then [] else codes "<" ++ content ++ codes ">") ++ rest)
    ≡ (if t then [] else Tag content ∷ []) ++ tokens_from InText rest
prefix-read true content rest h = refl
prefix-read false content rest h = tag-read content rest h

-- a glyph that is no white space
character-glyph : (pen : Pen) (glyph : Glyph) (others : List Glyph) (rest : List ℕ)
    → tokens_from InText
    (((if follows pen.before glyph then []
    else text_tag pen.position (cells_of glyph + joined_cells glyph others) glyph.ink)
    ++ xml_character glyph.character ++ (if joins_next glyph others then [] else codes "</text>"))
    ++ rest)
    ≡ ((if follows pen.before glyph then []
    else Tag (text_tag_content pen.position (cells_of glyph + joined_cells glyph others) glyph.ink)
    ∷ []) ++ map TextByte (encode_utf8 glyph.character)
    ++ (if joins_next glyph others then [] else Tag (codes "/text") ∷ []))
    ++ tokens_from InText rest
character-glyph pen glyph others rest =
    let content =
    text_tag_content pen.position (cells_of glyph + joined_cells glyph others) glyph.ink in
    let prefix = if follows pen.before glyph then [] else codes "<" ++ content ++ codes ">" in
    let character = xml_character glyph.character in
    let ended = if joins_next glyph others then [] else codes "</text>" in
    let opening_tokens : List Token = if follows pen.before glyph then [] else Tag content ∷ [] in
    let shown : List Token = map TextByte (encode_utf8 glyph.character) in
    let ended_tokens : List Token =
    if joins_next glyph others then [] else Tag (codes "/text") ∷ [] in
    ap (tokens_from InText)
    (append_assoc (prefix ++ character) ended rest
    ∙ append_assoc prefix character (ended ++ rest))
    ∙ prefix-read (follows pen.before glyph) content (character ++ (ended ++ rest))
    (text-inside pen.position (cells_of glyph + joined_cells glyph others) glyph.ink)
    ∙ ap (λ (tokens : List Token). opening_tokens ++ tokens)
    (character-read glyph.character (ended ++ rest)
    ∙ ap (λ (tokens : List Token). shown ++ tokens) (ended-read (joins_next glyph others) rest))
    ∙ sym (append_assoc opening_tokens shown (ended_tokens ++ tokens_from InText rest))
    ∙ sym (append_assoc (opening_tokens ++ shown) ended_tokens (tokens_from InText rest))

glyph-read : (pen : Pen) (glyph : Glyph) (others : List Glyph) (rest : List ℕ)
    → tokens_from InText (glyph_text pen glyph others ++ rest) ≡ glyph_tokens pen glyph
    others ++ tokens_from InText rest
glyph-read pen glyph others rest =
    two_ifs (is_white_space glyph) (encode_utf8 glyph.character)
    ((if follows pen.before glyph then []
    else text_tag pen.position (cells_of glyph + joined_cells glyph others) glyph.ink)
    ++ xml_character glyph.character ++ (if joins_next glyph others then [] else codes "</text>"))
    (TextByte glyph.character ∷ [])
    ((if follows pen.before glyph then []
    else Tag (text_tag_content pen.position (cells_of glyph + joined_cells glyph others) glyph.ink)
    ∷ []) ++ map TextByte (encode_utf8 glyph.character)
    ++ (if joins_next glyph others then [] else Tag (codes "/text") ∷ []))
    (λ bytes tokens. tokens_from InText (bytes ++ rest) ≡ tokens ++ tokens_from InText rest)
    (white-space-read glyph.character rest) (λ _. character-glyph pen glyph others rest)

glyphs-read : (pen : Pen) (glyphs : List Glyph) (rest : List ℕ)
    → tokens_from InText (texts_from pen glyphs ++ rest) ≡ tokens_of_glyphs pen
    glyphs ++ tokens_from InText rest
glyphs-read pen [] rest = refl
glyphs-read pen (glyph ∷ glyphs) rest =
    ap (tokens_from InText)
    (append_assoc (glyph_text pen glyph glyphs) (texts_from (next_pen pen glyph) glyphs) rest)
    ∙ glyph-read pen glyph glyphs (texts_from (next_pen pen glyph) glyphs ++ rest)
    ∙ ap (λ (tokens : List Token). glyph_tokens pen glyph glyphs ++ tokens)
    (glyphs-read (next_pen pen glyph) glyphs rest)
    ∙ sym
    (append_assoc (glyph_tokens pen glyph glyphs) (tokens_of_glyphs (next_pen pen glyph) glyphs)
    (tokens_from InText rest))

-- ---- documents

regrouped : (lt head gt line background end texts last : List ℕ)
    → (((((lt ++ head) ++ (gt ++ line)) ++ background) ++ end) ++ texts) ++ last
    ≡ ((lt ++ head) ++ gt) ++ (((line ++ background) ++ end) ++ (texts ++ last))
regrouped lt head gt line background end texts last = simp append_assoc

-- the document of glyphs reads back
pub svg-read : (glyphs : List Glyph) → read_tokens (svg_document glyphs) ≡ svg_tokens glyphs
unfolding background_tag_content
svg-read glyphs =
    let head = svg_tag_content (extent_from start glyphs) in
    let texts = texts_from first_pen glyphs in
    let last = codes "</svg>\n" in
    let pieces : List Token = flat_map piece_tokens (pieces_from first_pen glyphs) in
    let whole : svg_document glyphs ≡ (codes "<" ++ head ++ codes ">")
    ++ (codes "\n<" ++ background_tag_content ++ codes ">\n" ++ (texts ++ last)) =
    regrouped (codes "<") head (codes ">") (codes "\n<") background_tag_content (codes ">\n") texts
    last in
    let inner : tokens_from InText (texts ++ last) ≡ pieces ++ Tag (codes "/svg") ∷ TextByte 10
    ∷ [] =
    glyphs-read first_pen glyphs last
    ∙ ap (λ (tokens : List Token). tokens ++ tokens_from InText last)
    (tokens_of_pieces glyphs) in
    ap read_tokens whole
    ∙ tag-read head (codes "\n<" ++ background_tag_content ++ codes ">\n" ++ (texts ++ last))
    (svg-inside (extent_from start glyphs))
    ∙ ap
    (λ (tokens : List Token). Tag head ∷ TextByte 10 ∷ Tag background_tag_content ∷ TextByte
    10
    ∷ tokens)
    inner

-- ---- text

-- the text of the tokens of a glyph
glyph-text : (pen : Pen) (glyph : Glyph) (others : List Glyph)
    → text_of_tokens (glyph_tokens pen glyph others) ≡ encode_utf8 glyph.character
glyph-text pen glyph others = at (is_white_space glyph) refl
  where
    prefix : Bool → List Token
    prefix t =
        if t then []
        else Tag
        (text_tag_content pen.position (cells_of glyph + joined_cells glyph others) glyph.ink)
        ∷ []

    ended : Bool → List Token
    ended t = if t then [] else Tag (codes "/text") ∷ []

    between : (f o : Bool)
        → text_of_tokens
        (prefix f ++ map TextByte (encode_utf8 glyph.character) ++ ended o)
        ≡ encode_utf8 glyph.character
    between true true =
        ap text_of_tokens (append-nil (map TextByte (encode_utf8 glyph.character)))
        ∙ text_of-bytes (encode_utf8 glyph.character)
    between true false =
        text_of-append (map TextByte (encode_utf8 glyph.character)) (Tag (codes "/text") ∷ [])
        ∙ append-nil _ ∙ text_of-bytes (encode_utf8 glyph.character)
    between false true =
        ap text_of_tokens (append-nil (map TextByte (encode_utf8 glyph.character)))
        ∙ text_of-bytes (encode_utf8 glyph.character)
    between false false =
        text_of-append (map TextByte (encode_utf8 glyph.character)) (Tag (codes "/text") ∷ [])
        ∙ append-nil _ ∙ text_of-bytes (encode_utf8 glyph.character)

    tokens : Bool → List Token
    tokens t =
        if t then TextByte glyph.character ∷ []
        else prefix (follows pen.before glyph) ++ map TextByte (encode_utf8 glyph.character)
        ++ ended (joins_next glyph others)

    at : (n : Bool) → is_white_space glyph ≡ n
        → text_of_tokens (glyph_tokens pen glyph others) ≡ encode_utf8 glyph.character
    at true e =
        ap (λ t. text_of_tokens (tokens t)) e
        ∙ white-space-shown glyph.character e
    at false e =
        ap (λ t. text_of_tokens (tokens t)) e
        ∙ between (follows pen.before glyph) (joins_next glyph others)

glyphs-text : (pen : Pen) (glyphs : List Glyph)
    → text_of_tokens (tokens_of_glyphs pen glyphs) ≡ encode_utf8_all
    (map (λ (glyph : Glyph). glyph.character) glyphs)
glyphs-text pen [] = refl
glyphs-text pen (glyph ∷ glyphs) =
    text_of-append (glyph_tokens pen glyph glyphs) (tokens_of_glyphs (next_pen pen glyph) glyphs)
    ∙ ap (λ bs. bs ++ text_of_tokens (tokens_of_glyphs (next_pen pen glyph) glyphs))
    (glyph-text pen glyph glyphs)
    ∙ ap (λ bs. encode_utf8 glyph.character ++ bs) (glyphs-text (next_pen pen glyph) glyphs)

-- the characters of the glyphs of runs
run-characters : (ink : Ink) (cs : List ℕ)
    → map (λ (glyph : Glyph). glyph.character)
    (map (λ c. let g : Glyph = record { character = c; ink = ink } in g) cs) ≡ cs
run-characters ink [] = refl
run-characters ink (c ∷ cs) = ap (λ ds. c ∷ ds) (run-characters ink cs)

pub characters-are : (styles : Styles) (runs : List RunView)
    → map (λ (glyph : Glyph). glyph.character) (glyphs_of styles runs) ≡ safe_characters
    (run_characters runs)
characters-are styles [] = refl
characters-are styles (run ∷ runs) =
    map-append (λ (glyph : Glyph). glyph.character) (glyphs_of_run styles run)
    (glyphs_of styles runs)
    ∙ ap (λ cs. cs ++ map (λ (glyph : Glyph). glyph.character) (glyphs_of styles runs))
    (run-characters _ (safe_characters (chars run.text)))
    ∙ ap (λ cs. safe_characters (chars run.text) ++ cs) (characters-are styles runs)
    ∙ sym (filter_map-append shown_character (chars run.text) (run_characters runs))

-- the text of a document is the safe text of its runs
pub shown-svg-text : (styles : Styles) (runs : List Run)
    → text_of_tokens (read_tokens (svg_document (glyphs_of styles (map run_view runs))))
    ≡ shown_svg_text (map run_view runs)
shown-svg-text styles runs =
    let glyphs = glyphs_of styles (map run_view runs) in
    let last = Tag (codes "/svg") ∷ TextByte 10 ∷ [] in
    ap text_of_tokens (svg-read glyphs)
    ∙ ap (λ bs. 10 ∷ 10 ∷ bs)
    (ap (λ (tokens : List Token). text_of_tokens (tokens ++ last)) (sym (tokens_of_pieces glyphs))
    ∙ text_of-append (tokens_of_glyphs first_pen glyphs) last
    ∙ ap (λ bs. bs ++ 10 ∷ [])
    (glyphs-text first_pen glyphs ∙ ap encode_utf8_all (characters-are styles (map run_view runs))
    ∙ ap (λ cs. encode_utf8_all (safe_characters cs)) (sym (joined-characters runs))))
