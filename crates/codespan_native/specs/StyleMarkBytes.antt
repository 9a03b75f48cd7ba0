-- How style marks are spelled in band: the byte 255, which UTF-8 never has, and a number.
use Rattle.std.specs.Prelude.{ℕ, ◌+◌, List, [], ◌∷◌}
use Rattle.codespan_base.specs.Diagnostics.{severity_rank}
use Rattle.codespan_base.specs.declared.diagnostic.LabelStyle.TheVariants.{Primary, Secondary}
use Rattle.codespan_base.specs.declared.term.config.style_mark.StyleMark.{StyleMark}
use Rattle.codespan_base.specs.declared.term.config.style_mark.StyleMark.TheVariants.{Header}
use Rattle.codespan_base.specs.declared.term.config.style_mark.StyleMark.TheVariants.{HeaderMessage}
use Rattle.codespan_base.specs.declared.term.config.style_mark.StyleMark.TheVariants.{LineNumber}
use Rattle.codespan_base.specs.declared.term.config.style_mark.StyleMark.TheVariants.{NoteBullet}
use Rattle.codespan_base.specs.declared.term.config.style_mark.StyleMark.TheVariants.{SourceBorder}
use Rattle.codespan_base.specs.declared.term.config.style_mark.StyleMark.TheVariants.{Label, Reset}

-- the number of a style mark, above those of ASCII: no style mark has the byte of a NUL, a tab, a
-- newline or a carriage return
abbrev pub style_mark_number : StyleMark → ℕ
style_mark_number (Header severity) = 128 + severity_rank severity
style_mark_number HeaderMessage = 133
style_mark_number LineNumber = 134
style_mark_number NoteBullet = 135
style_mark_number SourceBorder = 136
style_mark_number (Label severity Primary) = 137 + severity_rank severity
style_mark_number (Label severity Secondary) = 142 + severity_rank severity
style_mark_number Reset = 147

-- the bytes of the style mark of a number
abbrev pub style_mark_bytes : ℕ → List ℕ
style_mark_bytes number = 255 ∷ number ∷ []

-- the bytes of a style mark
abbrev pub style_mark_spelling : StyleMark → List ℕ
style_mark_spelling style_mark = style_mark_bytes (style_mark_number style_mark)
