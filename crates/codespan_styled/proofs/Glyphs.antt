-- Glyphs one by one: of which run they are, which cells they take, and in which text they are: for
-- the clause `document` of `to_svg`.
use Rattle.std.proofs.Common.{◌≡◌, ◌+◌, ◌-◌, ◌≤◌, ◌<◌, ℕ, List, []}
use Rattle.std.proofs.Common.{◌∷◌, ◌++◌, length, length-drop, map, max, take, drop}
use Rattle.std.proofs.Common.{get_or, codes, false, Some, sym, ◌∙◌, ap, append_assoc}
use Rattle.std.proofs.Common.{append-nil, arith, true}
use Rattle.std.specs.Prelude.{Bool, ◌&&◌, not, nat_le, if◌then◌else◌}
use Rattle.std.proofs.lemmas.Bool.{and_parts}
use Rattle.std.proofs.lemmas.Bool.Decides.{nat_tests}
use Rattle.std.proofs.lemmas.Grind.{flat_map-append}
use Rattle.std.proofs.lemmas.List.{drop_all, drop_more, map-append, take_all, take_more}
use Rattle.codespan_base.specs.declared.term.config.styles.Styles.{Styles}
use Rattle.codespan_styled.specs.declared.svg.glyph.Glyph.{Glyph}
use Rattle.codespan_styled.specs.declared.text.Run.{Run}
use Rattle.codespan_styled.specs.declared.svg.position.CellPosition.{CellPosition}
use Rattle.codespan_styled.specs.declared.svg.Pen.{Pen}
use Rattle.codespan_styled.specs.Glyphs.{after_glyph, cells_of, extent_from, follows, glyphs_of}
use Rattle.codespan_styled.specs.Glyphs.{glyphs_of_run, joins_next, is_narrow, is_white_space}
use Rattle.codespan_styled.specs.Glyphs.{joined_cells, joins, keeps_order, start}
use Rattle.codespan_styled.specs.Inks.{same_ink}
use Rattle.codespan_styled.specs.Runs.{run_view}
use Rattle.codespan_styled.specs.Svg.{first_pen, font_attributes, glyph_text}
use Rattle.codespan_styled.specs.Svg.{background_tag_content, next_pen, svg_tag_start, svg_document}
use Rattle.codespan_styled.specs.Svg.{text_tag, texts_from, xml_character}

-- ---- runs

-- the glyphs of the run at an index follow
pub next_glyphs : (styles : Styles) (runs : List Run) (i : ℕ) (run : Run) (old new : List Glyph)
    → i < length runs → run ≡ get_or runs i run
    → old ≡ glyphs_of styles (map run_view (take i runs))
    → new ≡ old ++ glyphs_of_run styles (run_view run)
    → new ≡ glyphs_of styles (map run_view (take (i + 1) runs))
next_glyphs styles runs i run old new inside at before is =
    let more : map run_view (take (i + 1) runs) ≡ map run_view (take i runs)
    ++ run_view run ∷ [] =
    ap (map run_view) (take_more runs i run inside ∙ ap (λ r. take i runs ++ r ∷ []) (sym at))
    ∙ map-append run_view (take i runs) (run ∷ []) in
    is ∙ ap (λ gs. gs ++ glyphs_of_run styles (run_view run)) before
    ∙ ap (λ gs. glyphs_of styles (map run_view (take i runs)) ++ gs)
    (sym (append-nil (glyphs_of_run styles (run_view run))))
    ∙ sym
    (flat_map-append (glyphs_of_run styles) (map run_view (take i runs)) (run_view run ∷ []))
    ∙ ap (glyphs_of styles) (sym more)

-- ---- extent

-- the extent of glyphs is at least as wide as the position from which they go on
as_wide : (position : CellPosition) (glyphs : List Glyph)
    → position.column ≤ (extent_from position glyphs).column
as_wide position [] = omega arith
as_wide position (glyph ∷ glyphs) = omega arith

-- the widest row, with the next position
widest : (columns column next rest : ℕ) → column ≤ columns → next ≤ rest
    → max (max columns next) rest ≡ max columns (max column rest)
widest columns column next rest reached wide = omega arith

-- nothing is left after the last glyph
pub all_glyphs : (glyphs : List Glyph) (i : ℕ) (position : CellPosition) (columns : ℕ)
    (all : CellPosition)
    → length glyphs ≤ i → position.column ≤ columns
    → (extent_from position (drop i glyphs)).row ≡ all.row
    → max columns (extent_from position (drop i glyphs)).column ≡ all.column
    → record { row = position.row; column = columns } ≡ all
all_glyphs glyphs i position columns all past reached row column =
    let none : drop i glyphs ≡ [] = drop_all i glyphs past in
    let rows : position.row ≡ all.row = ap (λ gs. (extent_from position gs).row) (sym none)
    ∙ row in
    let widest : max columns position.column ≡ all.column =
    ap (λ gs. max columns (extent_from position gs).column) (sym none) ∙ column in
    let columns_are : columns ≡ all.column = omega arith in
    ap (λ r. record { row = r; column = columns }) rows
    ∙ ap (λ n. record { row = all.row; column = n }) columns_are

module _ (glyphs : List Glyph) (i : ℕ) (other : Glyph) (inside : i < length glyphs) where
  -- the glyph at an index
  abbrev glyph : Glyph
  glyph = get_or glyphs i other

  -- what is left begins with it
  left : drop i glyphs ≡ glyph ∷ drop (i + 1) glyphs
  left = drop_more glyphs i other inside

  -- the row where the glyphs end
  pub next_row : (position next : CellPosition) (row : ℕ) → next ≡ after_glyph position glyph
      → (extent_from position (drop i glyphs)).row ≡ row
      → (extent_from next (drop (i + 1) glyphs)).row ≡ row
  next_row position next row is before =
      ap (λ p. (extent_from p (drop (i + 1) glyphs)).row) is
      ∙ ap (λ gs. (extent_from position gs).row) (sym left) ∙ before

  -- the cells of the widest row
  pub next_columns : (position next : CellPosition) (columns all : ℕ)
      → next ≡ after_glyph position glyph → position.column ≤ columns
      → max columns (extent_from position (drop i glyphs)).column ≡ all
      → max (max columns next.column) (extent_from next (drop (i + 1) glyphs)).column ≡ all
  next_columns position next columns all is reached before =
      let rest : ℕ = (extent_from next (drop (i + 1) glyphs)).column in
      let wide : next.column ≤ rest = as_wide next (drop (i + 1) glyphs) in
      widest columns position.column next.column rest reached wide
      ∙ ap (λ p. max columns (max position.column (extent_from p (drop (i + 1) glyphs)).column))
      is
      ∙ ap (λ gs. max columns (extent_from position gs).column) (sym left) ∙ before

  -- ---- joined glyphs

  -- the cells of the glyphs of a `text` element, with the next one
  pub joined_more : (last : Glyph) (cells own all : ℕ) → joins last glyph ≡ true
      → own ≡ cells_of glyph
      → cells + joined_cells last (drop i glyphs) ≡ all
      → cells + own + joined_cells glyph (drop (i + 1) glyphs) ≡ all
  joined_more last cells own all e is before =
      let rest : ℕ = joined_cells glyph (drop (i + 1) glyphs) in
      let joined : joined_cells last (drop i glyphs) ≡ cells_of glyph + rest =
      ap (joined_cells last) left
      ∙ ap (λ (t : Bool). if t then cells_of glyph + rest else 0) e in
      omega arith

  -- ---- texts

  -- the glyphs after it, as a slice
  others : take (length glyphs - (i + 1)) (drop (i + 1) glyphs) ≡ drop (i + 1) glyphs
  others =
      take_all (length glyphs - (i + 1)) (drop (i + 1) glyphs)
      (omega (arith, length-drop (i + 1) glyphs))

  -- the texts with the next glyph
  pub next_texts : (pen : Pen) (position : CellPosition) (old new all : List ℕ)
      → position ≡ after_glyph pen.position glyph
      → new ≡ old ++ glyph_text pen glyph (take (length glyphs - (i + 1)) (drop (i + 1) glyphs))
      → old ++ texts_from pen (drop i glyphs) ≡ all
      → new ++ texts_from (record { position = position; before = Some glyph })
      (drop (i + 1) glyphs) ≡ all
  next_texts pen position old new all after is before =
      let text = glyph_text pen glyph (drop (i + 1) glyphs) in
      let rest = texts_from (next_pen pen glyph) (drop (i + 1) glyphs) in
      ap (λ p. new ++ texts_from (record { position = p; before = Some glyph })
      (drop (i + 1) glyphs)) after
      ∙ ap (λ bytes. bytes ++ rest) (is ∙ ap (λ gs. old ++ glyph_text pen glyph gs) others)
      ∙ append_assoc old text rest ∙ ap (λ gs. old ++ texts_from pen gs) (sym left) ∙ before

-- a glyph that joins another occupies at most one cell
pub joined_bound : (last glyph : Glyph) (own : ℕ) → joins last glyph ≡ true
    → own ≡ cells_of glyph
    → own ≤ 1
joined_bound last glyph own e is =
    let drawn = is_narrow last && is_narrow glyph in
    let alike = and_parts (drawn && same_ink last.ink glyph.ink) (keeps_order last glyph) e in
    let both = and_parts (is_narrow last) (is_narrow glyph)
    (and_parts drawn (same_ink last.ink glyph.ink) alike.0).0 in
    let few = and_parts (not (is_white_space glyph)) (nat_le (cells_of glyph) 1) both.1 in
    let narrow : cells_of glyph ≤ 1 = grind (arith, nat_tests, few.1) in
    omega arith

-- a glyph that is no white space, with the tags of its text
pub glyph-written : (pen : Pen) (glyph : Glyph) (others : List Glyph)
    (old tagged marked new : List ℕ)
    → is_white_space glyph ≡ false
    → tagged ≡ old
    ++ (if follows pen.before glyph then []
    else text_tag pen.position (cells_of glyph + joined_cells glyph others) glyph.ink)
    → marked ≡ tagged ++ xml_character glyph.character
    → new ≡ marked ++ (if joins_next glyph others then [] else codes "</text>")
    → new ≡ old ++ glyph_text pen glyph others
glyph-written pen glyph others old tagged marked new shown e1 e2 e3 =
    rw (e3, e2, e1, shown) (simp append_assoc)

-- ---- the document

regrouped : (lt size font gt background end texts last : List ℕ)
    → ((((lt ++ size) ++ (((font ++ gt) ++ background) ++ end)) ++ texts) ++ last)
    ≡ (((((lt ++ (size ++ font)) ++ gt) ++ background) ++ end) ++ texts) ++ last
regrouped lt size font gt background end texts last = simp append_assoc

-- the whole document
pub document-written : (glyphs : List Glyph) (extent : CellPosition) (b0 b1 b2 b3 b4 : List ℕ)
    → b0 ≡ [] → extent ≡ extent_from start glyphs
    → b1 ≡ b0 ++ codes "<" ++ svg_tag_start extent
    → b2 ≡ b1 ++ (font_attributes ++ codes ">\n<" ++ background_tag_content ++ codes ">\n")
    → b3 ≡ b2 ++ texts_from first_pen glyphs → b4 ≡ b3 ++ codes "</svg>\n"
    → b4 ≡ svg_document glyphs
document-written glyphs extent b0 b1 b2 b3 b4 e0 is e1 e2 e3 e4 =
    let texts = texts_from first_pen glyphs in
    let after = font_attributes ++ codes ">\n<" ++ background_tag_content ++ codes ">\n" in
    e4 ∙ ap (λ b. b ++ codes "</svg>\n")
    (e3 ∙ ap (λ b. b ++ texts) (e2 ∙ ap
    (λ b. b ++ after) (e1 ∙ ap (λ b. b ++ codes "<" ++ svg_tag_start extent) e0 ∙ ap
    (λ p. codes "<" ++ svg_tag_start p) is)))
    ∙ regrouped (codes "<") (svg_tag_start (extent_from start glyphs)) font_attributes
    (codes ">\n<") background_tag_content (codes ">\n") texts (codes "</svg>\n")
