-- The text before the locus of a snippet, and which variant it is.
use Rattle.std.specs.Prelude.{ℕ, Bool, true, false, List, string_bytes}
use Rattle.codespan_core.specs.declared.term.config.chars.SnippetStart.{SnippetStart}
use Rattle.codespan_core.specs.declared.term.config.chars.SnippetStart.TheVariants.{Fixed, Owned}

-- the text before a locus
abbrev pub start_text : SnippetStart → List ℕ
start_text (Fixed s) = s.now
start_text (Owned s) = string_bytes s

-- whether it is the variant `Fixed`
abbrev pub is_fixed : SnippetStart → Bool
is_fixed (Fixed s) = true
is_fixed (Owned s) = false
