-- The characters of the output.
use Rattle.std.specs.Prelude.{codes, encode_utf8_all}
use Rattle.codespan_core.specs.declared.term.config.chars.SnippetStart.TheVariants.{Fixed}
use Rattle.codespan_core.specs.declared.term.config.chars.Chars.{Chars}

-- the characters of box drawing: `│` (0x2502), `·` (0xb7), `=` (0x3d), `^` (0x5e), `-` (0x2d),
-- `'`
-- (0x27), `╭` (0x256d), `─` (0x2500) and `╰` (0x2570)
abbrev pub box_drawing : Chars
box_drawing = record {
  snippet_start = Fixed (record { ref_ptr = (0, 0); now = encode_utf8_all (codes "┌─") });
  source_border_left = 0x2502;
  source_border_left_break = 0xb7;
  note_bullet = 0x3d;
  single_primary_caret = 0x5e;
  single_secondary_caret = 0x2d;
  multi_primary_caret_start = 0x5e;
  multi_primary_caret_end = 0x5e;
  multi_secondary_caret_start = 0x27;
  multi_secondary_caret_end = 0x27;
  multi_top_left = 0x256d;
  multi_top = 0x2500;
  multi_bottom_left = 0x2570;
  multi_bottom = 0x2500;
  multi_left = 0x2502;
  pointer_left = 0x2502;
}

-- the characters of ASCII: `|` (0x7c), `.` (0x2e), `=` (0x3d), `^` (0x5e), `-` (0x2d), `'` (0x27),
-- `/` (0x2f) and `\` (0x5c)
abbrev pub ascii : Chars
ascii = record {
  snippet_start = Fixed (record { ref_ptr = (0, 0); now = codes "-->" });
  source_border_left = 0x7c;
  source_border_left_break = 0x2e;
  note_bullet = 0x3d;
  single_primary_caret = 0x5e;
  single_secondary_caret = 0x2d;
  multi_primary_caret_start = 0x5e;
  multi_primary_caret_end = 0x5e;
  multi_secondary_caret_start = 0x27;
  multi_secondary_caret_end = 0x27;
  multi_top_left = 0x2f;
  multi_top = 0x2d;
  multi_bottom_left = 0x5c;
  multi_bottom = 0x2d;
  multi_left = 0x7c;
  pointer_left = 0x7c;
}
