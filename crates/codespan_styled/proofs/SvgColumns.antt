-- Each character of an SVG document is in the column of the one that it is shown for: for
-- `svg::laws::characters_are_in_their_columns`.
use Rattle.std.proofs.Common.{◌≡◌, ℕ, Bool, true, false, List, [], ◌∷◌, map}
use Rattle.std.proofs.Common.{refl}
use Rattle.std.proofs.Common.{ap, ◌∙◌}
use Rattle.std.specs.Prelude.{filter, not, if◌then◌else◌}
use Rattle.std.specs.List.{flat_map}
use Rattle.codespan_base.specs.declared.term.config.styles.Styles.{Styles}
use Rattle.codespan_styled.specs.declared.svg.glyph.Glyph.{Glyph}
use Rattle.codespan_styled.specs.declared.svg.position.CellPosition.{CellPosition}
use Rattle.codespan_styled.specs.Glyphs.{after_glyph, glyphs_of, is_newline_glyph}
use Rattle.codespan_styled.specs.Glyphs.{is_white_space, start, tab_width}
use Rattle.codespan_styled.specs.Runs.{RunView, run_characters}
use Rattle.codespan_styled.specs.SafeText.{CharacterInColumn, column_after, columns, shown_columns}
use Rattle.codespan_styled.specs.Svg.{first_pen}
use Rattle.codespan_styled.specs.SvgReading.{CharacterInCell, characters_from, in_column}
use Rattle.codespan_styled.specs.SvgReading.{is_in_text_element, piece_characters, pieces_from}
use Rattle.codespan_styled.proofs.SvgCells.{cells_of_pieces}
use Rattle.codespan_styled.proofs.SvgReading.{characters-are}
use Rattle.codespan_styled.proofs.UnsafeCells.{columns_stay}

-- the characters of glyphs
abbrev characters : List Glyph → List ℕ
characters glyphs = map (λ (glyph : Glyph). glyph.character) glyphs

column-of-if : (t : Bool) (one other : CellPosition)
    → (if t then one else other).column ≡ (if t then one.column else other.column)
column-of-if true one other = refl
column-of-if false one other = refl

-- the column after a glyph
column-after : (position : CellPosition) (glyph : Glyph)
    → (after_glyph position glyph).column
    ≡ column_after tab_width position.column glyph.character
column-after position glyph = column-of-if (is_newline_glyph glyph) _ _

-- a glyph and those after it, by whether it is white space
column-step : (t : Bool) (first : CharacterInCell) (rest : List CharacterInCell)
    (kept : List CharacterInColumn)
    → map in_column rest ≡ kept
    → map in_column (if t then rest else first ∷ rest)
    ≡ (if not t then in_column first ∷ kept else kept)
column-step true first rest kept is = is
column-step false first rest kept is =
    ap (λ (cs : List CharacterInColumn). in_column first ∷ cs) is

-- the columns of glyphs from a position on
columns-by-glyphs : (position : CellPosition) (glyphs : List Glyph)
    → map in_column (characters_from position glyphs)
    ≡ filter is_in_text_element (columns tab_width position.column (characters glyphs))
columns-by-glyphs position [] = refl
columns-by-glyphs position (glyph ∷ glyphs) =
    let next = after_glyph position glyph in
    column-step (is_white_space glyph)
    (record { character = glyph.character; ink = glyph.ink; position = position })
    (characters_from next glyphs) _
    (columns-by-glyphs next glyphs
    ∙ ap (λ at. filter is_in_text_element (columns tab_width at (characters glyphs)))
    (column-after position glyph))

-- the columns of the glyphs of runs
pub characters-in-columns : (styles : Styles) (runs : List RunView)
    → map in_column (flat_map piece_characters (pieces_from first_pen (glyphs_of styles runs)))
    ≡ filter is_in_text_element (shown_columns tab_width 0 (run_characters runs))
characters-in-columns styles runs =
    let glyphs = glyphs_of styles runs in
    ap (map in_column) (cells_of_pieces glyphs) ∙ columns-by-glyphs start glyphs
    ∙ ap (λ cs. filter is_in_text_element (columns tab_width 0 cs)) (characters-are styles runs)
    ∙ ap (filter is_in_text_element) (columns_stay tab_width 0 (run_characters runs))
