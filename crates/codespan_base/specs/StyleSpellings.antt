-- The styles of the parts of the output, and how each style mark is spelled in them.
pub use Rattle.codespan_base.specs.PartStyles.{bold_intense, colored, default_styles}
pub use Rattle.codespan_base.specs.PartStyles.{header_color_spec, label_color_spec, no_color_styles}
pub use Rattle.codespan_base.specs.PartStyles.{unset}
use Rattle.std.specs.Prelude.{ℕ, List}
use Rattle.codespan_base.specs.declared.term.config.color.ColorSpec.{ColorSpec}
use Rattle.codespan_base.specs.declared.term.config.styles.Styles.{Styles}
use Rattle.codespan_core.specs.Streams.{Spelling}
use Rattle.codespan_core.specs.declared.term.config.style_mark.StyleMark.{StyleMark}
use Rattle.codespan_core.specs.declared.term.config.style_mark.StyleMark.TheVariants.{Header}
use Rattle.codespan_core.specs.declared.term.config.style_mark.StyleMark.TheVariants.{HeaderMessage}
use Rattle.codespan_core.specs.declared.term.config.style_mark.StyleMark.TheVariants.{LineNumber}
use Rattle.codespan_core.specs.declared.term.config.style_mark.StyleMark.TheVariants.{NoteBullet}
use Rattle.codespan_core.specs.declared.term.config.style_mark.StyleMark.TheVariants.{SourceBorder}
use Rattle.codespan_core.specs.declared.term.config.style_mark.StyleMark.TheVariants.{Label, Reset}
use Rattle.codespan_base.specs.Ansi.{ansi_reset, ansi_style}

-- how a writer of colors spells a style mark, where `style_bytes` is its bytes for each style, and
-- `reset_bytes` those for the reset
abbrev pub spelling_by : Styles → (ColorSpec → List ℕ) → List ℕ → StyleMark → List ℕ
spelling_by styles style_bytes reset_bytes (Header severity) =
    style_bytes (header_color_spec styles severity)
spelling_by styles style_bytes reset_bytes HeaderMessage = style_bytes styles.header_message
spelling_by styles style_bytes reset_bytes LineNumber = style_bytes styles.line_number
spelling_by styles style_bytes reset_bytes NoteBullet = style_bytes styles.note_bullet
spelling_by styles style_bytes reset_bytes SourceBorder = style_bytes styles.source_border
spelling_by styles style_bytes reset_bytes (Label severity style) =
    style_bytes (label_color_spec styles severity style)
spelling_by styles style_bytes reset_bytes Reset = reset_bytes

-- how `Ansi` spells style marks in these styles
abbrev pub ansi_spelling : Styles → Spelling
ansi_spelling styles = spelling_by styles ansi_style ansi_reset
