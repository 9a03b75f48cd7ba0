-- The characters of styled text, each in its ink, and their positions.
use Rattle.std.specs.Prelude.{ℕ, ◌+◌, ◌==◌, Bool, false, not, nat_le, ◌&&◌, ◌||◌}
use Rattle.std.specs.Prelude.{List, [], ◌∷◌, map, max, Option, None, Some}
use Rattle.std.specs.Prelude.{if◌then◌else◌}
use Rattle.std.specs.Int.{is_in_range}
use Rattle.std.specs.List.{flat_map}
use Rattle.std.specs.Str.{chars}
use Rattle.codespan_base.specs.declared.term.config.styles.Styles.{Styles}
use Rattle.codespan_output.specs.CharMetrics.{width_at}
use Rattle.codespan_styled.specs.declared.svg.glyph.Glyph.{Glyph}
use Rattle.codespan_styled.specs.declared.svg.position.CellPosition.{CellPosition}
use Rattle.codespan_styled.specs.Cells.{character_cells}
use Rattle.codespan_styled.specs.Inks.{ink_of, same_ink}
use Rattle.codespan_styled.specs.Runs.{RunView}
use Rattle.codespan_styled.specs.SafeText.{safe_characters}
use Rattle.codespan_styled.specs.StyleSheet.{color_spec_of_style}

-- ---- glyphs

-- what is shown for the characters of a run, each in the ink of its run's style
abbrev pub glyphs_of_run : Styles → RunView → List Glyph
glyphs_of_run styles run =
    map (λ c. record { character = c; ink = ink_of (color_spec_of_style styles run.style) })
    (safe_characters (chars run.text))

-- what is shown for the characters of runs
abbrev pub glyphs_of : Styles → List RunView → List Glyph
glyphs_of styles runs = flat_map (glyphs_of_run styles) runs

-- the number of cells that a glyph occupies
abbrev pub cells_of : Glyph → ℕ
cells_of glyph = character_cells glyph.character

-- the glyph is a newline
abbrev pub is_newline_glyph : Glyph → Bool
is_newline_glyph glyph = glyph.character == 10

-- the number of cells from one tab stop to the next
abbrev pub tab_width : ℕ
tab_width = 8

-- ---- positions

-- the position of the first glyph
abbrev pub start : CellPosition
start = record { row = 0; column = 0 }

-- the position after a glyph: the start of the next row after a newline, else to the right by its
-- cells, after a tab at the next tab stop
abbrev pub after_glyph : CellPosition → Glyph → CellPosition
after_glyph position glyph =
    if is_newline_glyph glyph
    then record { row = position.row + 1; column = 0 }
    else record {
      row = position.row;
      column = position.column + width_at tab_width position.column glyph.character;
    }

-- the size of glyphs from a position on: as `row` the row where they end, and as `column` the cells
-- of the widest row
abbrev pub extent_from : CellPosition → List Glyph → CellPosition
extent_from position [] = position
extent_from position (glyph ∷ glyphs) =
    let rest = extent_from (after_glyph position glyph) glyphs in
    record { row = rest.row; column = max position.column rest.column }

-- ---- glyphs of one `text` element

-- the glyph is white space, a newline, a space or a tab: it is in no `text` element
abbrev pub is_white_space : Glyph → Bool
is_white_space glyph =
    is_newline_glyph glyph || (glyph.character == 32) || (glyph.character == 9)

-- the glyph occupies at most one cell and is no white space
abbrev pub is_narrow : Glyph → Bool
is_narrow glyph = not (is_white_space glyph) && nat_le (cells_of glyph) 1

-- the character is in a block that Unicode has for right-to-left scripts
abbrev pub is_right_to_left : ℕ → Bool
is_right_to_left c =
    is_in_range 0x0590 0x08FF c || is_in_range 0xFB1D 0xFDFF c || is_in_range 0xFE70 0xFEFF c
    || is_in_range 0x10800 0x10FFF c || is_in_range 0x1E800 0x1EFFF c

-- the glyph is of a right-to-left script
abbrev pub runs_left : Glyph → Bool
runs_left glyph = is_right_to_left glyph.character

-- no renderer shows the second glyph before the first: neither is of a right-to-left script, or the
-- second is a mark of one, which occupies no cell
abbrev pub keeps_order : Glyph → Glyph → Bool
keeps_order before glyph =
    not (runs_left before || runs_left glyph) || (runs_left glyph && (cells_of glyph == 0))

-- the glyph belongs to the `text` element of the one before it: both are narrow, in one ink, and
-- the order of the two is kept
abbrev pub joins : Glyph → Glyph → Bool
joins before glyph =
    is_narrow before && is_narrow glyph && same_ink before.ink glyph.ink
    && keeps_order before glyph

-- the glyph belongs to the `text` element of the one before it, if there is one
abbrev pub follows : Option Glyph → Glyph → Bool
follows None glyph = false
follows (Some before) glyph = joins before glyph

-- the first of the glyphs after it belongs to the `text` element of the glyph
abbrev pub joins_next : Glyph → List Glyph → Bool
joins_next glyph [] = false
joins_next glyph (next ∷ glyphs) = joins glyph next

-- the number of cells of the glyphs that follow this one in its `text` element
abbrev pub joined_cells : Glyph → List Glyph → ℕ
joined_cells before [] = 0
joined_cells before (glyph ∷ glyphs) =
    if joins before glyph then cells_of glyph + joined_cells glyph glyphs else 0
