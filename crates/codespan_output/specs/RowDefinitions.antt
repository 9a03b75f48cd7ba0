-- All definitions of rows at once.
use Rattle.codespan_core.specs.Streams.{style_mark, byte_stream, spaces, repeated}
use Rattle.codespan_output.specs.Lanes.{label_glyph, crossing_characters, lane_characters}
use Rattle.codespan_output.specs.RowParts.{snippet_locus, outer_gutter, outer_gutter_number}
use Rattle.codespan_output.specs.RowParts.{border_left, border_left_break, style_change}
use Rattle.codespan_output.specs.RowParts.{label_message, inner_gutter, source_glyph, colored_text}
use Rattle.codespan_output.specs.RowParts.{carets, trailing_message, pointer_glyphs, pointers}
use Rattle.codespan_output.specs.RowParts.{underline_message, underline}
use Rattle.codespan_output.specs.RowStreams.{bracketed, header_locus, header_row, snippet_start_row}
use Rattle.codespan_output.specs.RowStreams.{first_note_row, later_note_row}

-- opens all definitions of rows at once, as `unfolding row_definitions`
unfoldable pub row_definitions : Unit {0}
unfolding byte_stream style_mark spaces repeated label_glyph crossing_characters lane_characters
    snippet_locus outer_gutter outer_gutter_number border_left border_left_break style_change
    label_message inner_gutter source_glyph colored_text carets
    trailing_message pointer_glyphs pointers underline_message underline bracketed
    header_locus header_row snippet_start_row
    first_note_row later_note_row
row_definitions = tt
