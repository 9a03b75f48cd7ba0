-- The tags of the writers of docs/WRITERS.md, an example.
use Rattle.std.specs.Prelude.{ℕ, Bool, List, [], Option, codes, if◌then◌else◌}
use Rattle.codespan_base.specs.declared.diagnostic.LabelStyle.TheVariants.{Primary, Secondary}
use Rattle.codespan_base.specs.declared.term.config.color.ColorSpec.{ColorSpec}
use Rattle.codespan_base.specs.declared.term.config.style_mark.StyleMark.{StyleMark}
use Rattle.codespan_base.specs.declared.term.config.style_mark.StyleMark.TheVariants.{Header}
use Rattle.codespan_base.specs.declared.term.config.style_mark.StyleMark.TheVariants.{HeaderMessage}
use Rattle.codespan_base.specs.declared.term.config.style_mark.StyleMark.TheVariants.{LineNumber}
use Rattle.codespan_base.specs.declared.term.config.style_mark.StyleMark.TheVariants.{NoteBullet}
use Rattle.codespan_base.specs.declared.term.config.style_mark.StyleMark.TheVariants.{SourceBorder}
use Rattle.codespan_base.specs.declared.term.config.style_mark.StyleMark.TheVariants.{Label, Reset}
use Rattle.codespan_base.specs.WriterLaw.{Sink}

-- the tag of a style mark
abbrev pub tag : StyleMark → List ℕ
tag (Header severity) = codes "[header]"
tag HeaderMessage = codes "[message]"
tag LineNumber = codes "[number]"
tag NoteBullet = codes "[bullet]"
tag SourceBorder = codes "[border]"
tag (Label severity Primary) = codes "[primary]"
tag (Label severity Secondary) = codes "[secondary]"
tag Reset = codes "[/]"

-- what the law sees of a writer of tags
abbrev pub tag_sink : Bool → Option (List ℕ) → Sink
tag_sink failed contents =
    record { frame = record { spelling = tag; failed = failed; borrows = [] }; contents = contents }

-- the tag of a style: bold alone has one
abbrev pub color_tag : ColorSpec → List ℕ
color_tag spec = if spec.bold then codes "[bold]" else []
