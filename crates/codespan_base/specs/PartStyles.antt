-- The styles of the parts of the output, and of severities and labels.
use Rattle.std.specs.Prelude.{true, false, Option, Some, None}
use Rattle.codespan_core.specs.declared.diagnostic.Severity.{Severity}
use Rattle.codespan_core.specs.declared.diagnostic.Severity.TheVariants.{Bug, Error, Warning, Note}
use Rattle.codespan_core.specs.declared.diagnostic.Severity.TheVariants.{Help}
use Rattle.codespan_core.specs.declared.diagnostic.LabelStyle.{LabelStyle}
use Rattle.codespan_core.specs.declared.diagnostic.LabelStyle.TheVariants.{Primary, Secondary}
use Rattle.codespan_base.specs.declared.term.config.color.Color.{Color}
use Rattle.codespan_base.specs.declared.term.config.color.Color.TheVariants.{Red, Green, Yellow}
use Rattle.codespan_base.specs.declared.term.config.color.Color.TheVariants.{Cyan}
use Rattle.codespan_base.specs.declared.term.config.color.ColorSpec.{ColorSpec}
use Rattle.codespan_base.specs.declared.term.config.styles.Styles.{Styles}

-- ---- the default styles

-- a color alone
abbrev pub colored : Color → ColorSpec
colored color = record { fg = Some color; bg = None; bold = false; intense = false }

-- bold and intense, with a color or without
abbrev pub bold_intense : Option Color → ColorSpec
bold_intense color = record { fg = color; bg = None; bold = true; intense = true }

-- the default styles
abbrev pub default_styles : Styles
default_styles = record {
  header_bug = bold_intense (Some Red);
  header_error = bold_intense (Some Red);
  header_warning = bold_intense (Some Yellow);
  header_note = bold_intense (Some Green);
  header_help = bold_intense (Some Cyan);
  header_message = bold_intense None;
  primary_label_bug = colored Red;
  primary_label_error = colored Red;
  primary_label_warning = colored Yellow;
  primary_label_note = colored Green;
  primary_label_help = colored Cyan;
  secondary_label = colored Cyan;
  line_number = colored Cyan;
  source_border = colored Cyan;
  note_bullet = colored Cyan;
}

-- ---- the styles of headers and labels

-- the style of the severity and the code in a header
abbrev pub header_color_spec : Styles → Severity → ColorSpec
header_color_spec styles Bug = styles.header_bug
header_color_spec styles Error = styles.header_error
header_color_spec styles Warning = styles.header_warning
header_color_spec styles Note = styles.header_note
header_color_spec styles Help = styles.header_help

-- the style of a label
abbrev pub label_color_spec : Styles → Severity → LabelStyle → ColorSpec
label_color_spec styles severity Secondary = styles.secondary_label
label_color_spec styles Bug Primary = styles.primary_label_bug
label_color_spec styles Error Primary = styles.primary_label_error
label_color_spec styles Warning Primary = styles.primary_label_warning
label_color_spec styles Note Primary = styles.primary_label_note
label_color_spec styles Help Primary = styles.primary_label_help

-- ---- plain styles

-- the style of plain text
abbrev pub unset : ColorSpec
unset = record { fg = None; bg = None; bold = false; intense = false }

-- each part has the style of plain text
abbrev pub no_color_styles : Styles
no_color_styles = record {
  header_bug = unset;
  header_error = unset;
  header_warning = unset;
  header_note = unset;
  header_help = unset;
  header_message = unset;
  primary_label_bug = unset;
  primary_label_error = unset;
  primary_label_warning = unset;
  primary_label_note = unset;
  primary_label_help = unset;
  secondary_label = unset;
  line_number = unset;
  source_border = unset;
  note_bullet = unset;
}
