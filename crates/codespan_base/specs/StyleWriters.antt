-- What the laws of writers see of the writers of colors and styles.
use Rattle.std.specs.Prelude.{ℕ, List, [], Option}
use Rattle.codespan_base.specs.declared.term.config.ansi.Ansi.{Ansi}
use Rattle.codespan_base.specs.declared.term.config.color.ColorSpec.{ColorSpec}
use Rattle.codespan_base.specs.declared.term.config.no_color.NoColor.{NoColor}
use Rattle.codespan_base.specs.declared.term.config.styles_writer.StylesWriter.{StylesWriter}
use Rattle.codespan_core.specs.WriterLaw.{Sink}
use Rattle.codespan_base.specs.StyleSpellings.{spelling_by}

-- ---- the writer that each of them writes to

-- what a writer of styles writes to
abbrev pub styles_inner : {W : Type 0} → StylesWriter W → W
styles_inner p = p.inner

-- what a writer of escape sequences writes to
abbrev pub ansi_inner : {W : Type 0} → Ansi W → W
ansi_inner p = p.inner

-- what a writer without colors writes to
abbrev pub no_color_inner : {W : Type 0} → NoColor W → W
no_color_inner p = p.inner

-- ---- how style marks are spelled

-- a writer of styles spells each style mark as the bytes of its style
abbrev pub styles_sink : {W : Type 0}
    → (W → Option (List ℕ)) → (ColorSpec → List ℕ) → List ℕ → StylesWriter W
    → Sink
styles_sink contents style_bytes reset_bytes p = record {
  frame = record {
    spelling = spelling_by p.styles.now style_bytes reset_bytes;
    failed = p.failed;
    borrows = [];
  };
  contents = contents p.inner;
}
