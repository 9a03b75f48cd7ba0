-- The spelling of style marks by a `SequenceWriter`.
use Rattle.std.specs.Prelude.{ℕ, Bool, List, [], ◌∷◌, Option, codes}
use Rattle.codespan_base.specs.declared.term.config.style_mark.StyleMark.{StyleMark}
use Rattle.codespan_base.specs.declared.term.config.style_mark.StyleMark.TheVariants.{Header}
use Rattle.codespan_base.specs.declared.term.config.style_mark.StyleMark.TheVariants.{HeaderMessage}
use Rattle.codespan_base.specs.declared.term.config.style_mark.StyleMark.TheVariants.{LineNumber}
use Rattle.codespan_base.specs.declared.term.config.style_mark.StyleMark.TheVariants.{NoteBullet}
use Rattle.codespan_base.specs.declared.term.config.style_mark.StyleMark.TheVariants.{SourceBorder}
use Rattle.codespan_base.specs.declared.term.config.style_mark.StyleMark.TheVariants.{Label, Reset}
use Rattle.codespan_base.specs.WriterLaw.{Sink}

-- the escape sequence of a style mark
abbrev pub sequence : StyleMark → List ℕ
sequence (Header severity) = 0x1b ∷ codes "[1m"
sequence HeaderMessage = 0x1b ∷ codes "[2m"
sequence LineNumber = 0x1b ∷ codes "[3m"
sequence NoteBullet = 0x1b ∷ codes "[4m"
sequence SourceBorder = 0x1b ∷ codes "[5m"
sequence (Label severity style) = 0x1b ∷ codes "[6m"
sequence Reset = 0x1b ∷ codes "[0m"

-- the writer, as the law of writers sees it
abbrev pub sequence_sink : Bool → Option (List ℕ) → Sink
sequence_sink failed contents =
    record {
      frame = record { spelling = sequence; failed = failed; borrows = [] };
      contents
          = contents;
    }
