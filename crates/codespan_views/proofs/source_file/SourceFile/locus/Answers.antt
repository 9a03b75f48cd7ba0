use Rattle.std.proofs.lemmas.Str.{IsUtf8-string_bytes}
use Rattle.codespan_core.proofs.Std.{arith, common_steps}
use Rattle.codespan_views.proofs.source_file.SourceFile.locus.Goals as goal

pub returns-clause-locus : goal.returns-clause-locus
returns-clause-locus g c = grind (arith, common_steps, IsUtf8-string_bytes)
