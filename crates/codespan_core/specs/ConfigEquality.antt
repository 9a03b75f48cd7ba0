-- When two sets of characters, or two configurations, are equal, but for how the text before a
-- locus is stored.
use Rattle.std.specs.Prelude.{◌≡◌}
use Rattle.codespan_core.specs.declared.term.config.chars.Chars.{Chars}
use Rattle.codespan_core.specs.declared.term.config.Config.{Config}
use Rattle.codespan_core.specs.SnippetStarts.{start_text}

-- the same text before a locus, and the same characters
pub record IsEqualChars (original chars : Chars) : Type 0 where
  pub start : start_text chars.snippet_start ≡ start_text original.snippet_start
  pub others : chars ≡ record original { snippet_start = chars.snippet_start }

-- the same characters, and the same in every other field
pub record IsEqualConfig (original config : Config) : Type 0 where
  pub chars : IsEqualChars original.chars config.chars
  pub others : config ≡ record original { chars = config.chars }
