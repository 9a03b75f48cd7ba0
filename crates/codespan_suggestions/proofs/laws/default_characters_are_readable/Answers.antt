use Rattle.codespan_suggestions.proofs.ReadableDefaults.{default-characters-are-readable}
use Rattle.codespan_suggestions.proofs.laws.default_characters_are_readable.Goals as goal

pub returns : goal.returns
returns c = default-characters-are-readable
