-- What the structs of C are converted to: a diagnostic, a configuration, its styles and the form of
-- the output, and files.
use Rattle.std.specs.Prelude.{ℕ, ◌-◌, ◌==◌, if◌then◌else◌, not, min, List, []}
use Rattle.std.specs.Prelude.{◌∷◌, map, slice_get, Option, Some, None}
use Rattle.std.specs.Option.{option_map_or}
use Rattle.codespan_base.specs.Characters.{ascii, box_drawing}
use Rattle.codespan_base.specs.Diagnostics.{DiagnosticView, LabelView}
use Rattle.codespan_base.specs.FileModel.{FileDatabase}
use Rattle.codespan_base.specs.StyleSpellings.{default_styles}
use Rattle.codespan_base.specs.declared.diagnostic.LabelStyle.{LabelStyle}
use Rattle.codespan_base.specs.declared.diagnostic.LabelStyle.TheVariants.{Primary, Secondary}
use Rattle.codespan_base.specs.declared.diagnostic.Severity.{Severity}
use Rattle.codespan_base.specs.declared.diagnostic.Severity.TheVariants.{Help, Note, Warning, Error}
use Rattle.codespan_base.specs.declared.diagnostic.Severity.TheVariants.{Bug}
use Rattle.codespan_base.specs.declared.term.config.Config.{Config}
use Rattle.codespan_base.specs.declared.term.config.DisplayStyle.{DisplayStyle}
use Rattle.codespan_base.specs.declared.term.config.DisplayStyle.TheVariants.{Rich, Medium, Short}
use Rattle.codespan_base.specs.declared.term.config.Layout.{Layout}
use Rattle.codespan_base.specs.declared.term.config.Layout.TheVariants.{Classic, Unbroken}
use Rattle.codespan_base.specs.declared.term.config.chars.Chars.{Chars}
use Rattle.codespan_base.specs.declared.term.config.chars.SnippetStart.TheVariants.{Fixed}
use Rattle.codespan_base.specs.declared.term.config.color.Color.{Color}
use Rattle.codespan_base.specs.declared.term.config.color.Color.TheVariants.{Black, Red, Green}
use Rattle.codespan_base.specs.declared.term.config.color.Color.TheVariants.{Yellow, Blue, Magenta}
use Rattle.codespan_base.specs.declared.term.config.color.Color.TheVariants.{Cyan, White}
use Rattle.codespan_base.specs.declared.term.config.color.ColorSpec.{ColorSpec}
use Rattle.codespan_base.specs.declared.term.config.styles.Styles.{Styles}
use Rattle.codespan_native.specs.declared.convert.forms.Form.{Form}
use Rattle.codespan_native.specs.declared.convert.forms.Form.TheVariants.{SafeText, Terminal, Text}
use Rattle.codespan_native.specs.declared.convert.forms.Form.TheVariants.{Ansi, StyleMarks, Html}
use Rattle.codespan_native.specs.declared.convert.forms.Form.TheVariants.{Svg}
use Rattle.codespan_native.specs.declared.raw.RawChars.{RawChars}
use Rattle.codespan_native.specs.declared.raw.RawColorSpec.{RawColorSpec}
use Rattle.codespan_native.specs.declared.raw.RawConfig.{RawConfig}
use Rattle.codespan_native.specs.declared.raw.RawDiagnostic.{RawDiagnostic}
use Rattle.codespan_native.specs.declared.raw.RawFile.{RawFile}
use Rattle.codespan_native.specs.declared.raw.RawLabel.{RawLabel}
use Rattle.codespan_native.specs.declared.raw.RawLine.{RawLine}
use Rattle.codespan_native.specs.declared.raw.RawStyles.{RawStyles}
use Rattle.codespan_native.specs.declared.raw.RawText.{RawText}
use Rattle.codespan_native.specs.Constants.{TAB_WIDTH_MAX}
use Rattle.codespan_native.specs.StatedLines.{location_at}
use Rattle.codespan_native.specs.SourceTexts.{SourceTextView, NativeFileView, native_database}
use Rattle.codespan_native.specs.SourceTexts.{stated_text, newline_text}

-- ---- numbers of the header

-- the severity of a number
abbrev pub severity_of : ℕ → Severity
severity_of n =
    if n == 0 then Help else if n == 1 then Note else if n == 2 then Warning
    else if n == 3 then Error else Bug

-- the label style of a number
abbrev pub label_style_of : ℕ → LabelStyle
label_style_of n = if n == 0 then Primary else Secondary

-- the display style of a number
abbrev pub display_style_of : ℕ → DisplayStyle
display_style_of n = if n == 0 then Rich else if n == 1 then Medium else Short

-- the layout of a number
abbrev pub layout_of : ℕ → Layout
layout_of n = if n == 0 then Classic else Unbroken

-- the greatest width of a line of a number; of 0 none
abbrev pub max_width_of : ℕ → Option ℕ
max_width_of n = if n == 0 then None else Some n

-- the color of a number; of 0 none
abbrev pub color_of : ℕ → Option Color
color_of n =
    if n == 0 then None else if n == 1 then Some Black else if n == 2 then Some Red
    else if n == 3 then Some Green else if n == 4 then Some Yellow else if n == 5 then Some Blue
    else if n == 6 then Some Magenta else if n == 7 then Some Cyan else Some White

-- ---- the diagnostic

-- the byte of a file at which its source starts
abbrev pub first_byte_of : List RawFile → ℕ → ℕ
first_byte_of files id = option_map_or (λ f. f.first_byte) (slice_get files id) 0

-- a label, with byte indices in the source of its file
abbrev pub converted_label : List RawFile → RawLabel → LabelView ℕ
converted_label files l = record {
  style = label_style_of l.style;
  file_id = l.file;
  range = record {
    start = l.start - first_byte_of files l.file;
    end = l.end - first_byte_of files l.file;
  };
  message = l.message.now;
}

-- a code, where there is one
abbrev pub code_of : List ℕ → Option (List ℕ)
code_of [] = None
code_of (b ∷ bs) = Some (b ∷ bs)

-- a text
abbrev pub bytes_of : RawText → List ℕ
bytes_of t = t.bytes.now

-- the diagnostic
abbrev pub converted_diagnostic : List RawFile → RawDiagnostic → DiagnosticView ℕ
converted_diagnostic files d = record {
  severity = severity_of d.severity;
  code = code_of d.code.now;
  message = d.message.now;
  labels = map (converted_label files) d.labels.now;
  notes = map bytes_of d.notes.now;
}

-- ---- the configuration

-- the caller's characters
abbrev pub custom_chars : RawChars → Chars
custom_chars c = record {
  snippet_start = Fixed (record { ref_ptr = (0, 0); now = c.snippet_start.now });
  source_border_left = c.source_border_left;
  source_border_left_break = c.source_border_left_break;
  note_bullet = c.note_bullet;
  single_primary_caret = c.single_primary_caret;
  single_secondary_caret = c.single_secondary_caret;
  multi_primary_caret_start = c.multi_primary_caret_start;
  multi_primary_caret_end = c.multi_primary_caret_end;
  multi_secondary_caret_start = c.multi_secondary_caret_start;
  multi_secondary_caret_end = c.multi_secondary_caret_end;
  multi_top_left = c.multi_top_left;
  multi_top = c.multi_top;
  multi_bottom_left = c.multi_bottom_left;
  multi_bottom = c.multi_bottom;
  multi_left = c.multi_left;
  pointer_left = c.pointer_left;
}

-- the characters that are chosen
abbrev pub converted_chars : RawConfig → Chars
converted_chars c =
    if c.characters == 0 then box_drawing else if c.characters == 1 then ascii
    else custom_chars c.chars

-- the configuration; a tab width above the greatest one is taken as that
abbrev pub converted_config : RawConfig → Config
converted_config c = record {
  display_style = display_style_of c.display_style;
  tab_width = min c.tab_width TAB_WIDTH_MAX;
  chars = converted_chars c;
  start_context_lines = c.start_context_lines;
  end_context_lines = c.end_context_lines;
  before_label_lines = c.before_label_lines;
  after_label_lines = c.after_label_lines;
  layout = layout_of c.layout;
  max_width = max_width_of c.max_width;
}

-- a style
abbrev pub color_spec_of : RawColorSpec → ColorSpec
color_spec_of s = record {
  fg = color_of s.fg;
  bg = color_of s.bg;
  bold = not (s.bold == 0);
  intense = not (s.intense == 0);
}

-- the caller's styles
abbrev pub custom_styles : RawStyles → Styles
custom_styles s = record {
  header_bug = color_spec_of s.header_bug;
  header_error = color_spec_of s.header_error;
  header_warning = color_spec_of s.header_warning;
  header_note = color_spec_of s.header_note;
  header_help = color_spec_of s.header_help;
  header_message = color_spec_of s.header_message;
  primary_label_bug = color_spec_of s.primary_label_bug;
  primary_label_error = color_spec_of s.primary_label_error;
  primary_label_warning = color_spec_of s.primary_label_warning;
  primary_label_note = color_spec_of s.primary_label_note;
  primary_label_help = color_spec_of s.primary_label_help;
  secondary_label = color_spec_of s.secondary_label;
  line_number = color_spec_of s.line_number;
  source_border = color_spec_of s.source_border;
  note_bullet = color_spec_of s.note_bullet;
}

-- ---- the form

-- the styles that are chosen
unfoldable pub styles_of : RawConfig → Styles
styles_of c = if c.color_mode == 2 then custom_styles c.styles else default_styles

-- safe text for a terminal
abbrev pub terminal_form : RawConfig → Form
terminal_form c = if c.color_mode == 0 then SafeText else Terminal (styles_of c)

-- text
abbrev pub text_form : RawConfig → Form
text_form c = if c.color_mode == 0 then Text else Ansi (styles_of c)

-- text with style marks in band, or a document
abbrev pub other_form : RawConfig → Form
other_form c =
    if c.form == 2 then StyleMarks else if c.form == 3 then Html else Svg (styles_of c)

-- what the output is written as
abbrev pub form_of : RawConfig → Form
form_of c =
    if c.form == 0 then terminal_form c else if c.form == 1 then text_form c else other_form c

-- ---- the files

-- a text cut into the lines that the caller states, or at newlines where there are none
abbrev pub converted_text : List ℕ → List ℕ → ℕ → ℕ → List RawLine
    → SourceTextView
converted_text name source first_byte first_line [] = newline_text name source first_line
converted_text name source first_byte first_line (l ∷ ls) =
    stated_text name source first_byte (l ∷ ls)

-- a file
abbrev pub converted_file : RawFile → NativeFileView
converted_file f = record {
  text = converted_text f.name.now f.source.now f.first_byte f.first_line f.lines.now;
  stated_location = location_at f.first_byte f.locations.now;
}

-- the files
abbrev pub converted_files : List RawFile → FileDatabase ℕ
converted_files files = native_database (map converted_file files)
