-- The bytes of an output in a form.
use Rattle.std.specs.Prelude.{ℕ, List}
use Rattle.codespan_base.specs.Streams.{Stream, plain_spelling, spelled, text_of}
use Rattle.codespan_base.specs.StyleSpellings.{ansi_spelling}
use Rattle.codespan_styled.specs.Glyphs.{glyphs_of}
use Rattle.codespan_styled.specs.Html.{html_element}
use Rattle.codespan_styled.specs.Runs.{runs_of}
use Rattle.codespan_styled.specs.SafeText.{safe_text}
use Rattle.codespan_styled.specs.Svg.{svg_document}
use Rattle.codespan_styled.specs.Terminal.{terminal_text}
use Rattle.codespan_native.specs.declared.convert.forms.Form.{Form}
use Rattle.codespan_native.specs.declared.convert.forms.Form.TheVariants.{SafeText, Terminal, Text}
use Rattle.codespan_native.specs.declared.convert.forms.Form.TheVariants.{Ansi, StyleMarks, Html}
use Rattle.codespan_native.specs.declared.convert.forms.Form.TheVariants.{Svg}
use Rattle.codespan_native.specs.StyleMarkBytes.{style_mark_spelling}

-- the bytes of an output: the safe text of its text, its runs as a terminal shows them safely, its
-- text with its style marks spelled as no bytes, as escape sequences or in band, or its runs as an
-- HTML element or an SVG document
abbrev pub bytes_in_form : Form → Stream → List ℕ
bytes_in_form SafeText stream = safe_text (text_of stream)
bytes_in_form (Terminal styles) stream = terminal_text styles (runs_of stream)
bytes_in_form Text stream = spelled plain_spelling stream
bytes_in_form (Ansi styles) stream = spelled (ansi_spelling styles) stream
bytes_in_form StyleMarks stream = spelled style_mark_spelling stream
bytes_in_form Html stream = html_element (runs_of stream)
bytes_in_form (Svg styles) stream = svg_document (glyphs_of styles (runs_of stream))
