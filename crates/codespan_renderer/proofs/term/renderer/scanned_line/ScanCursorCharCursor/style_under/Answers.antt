use Rattle.codespan_core.proofs.Std.{arith, common_steps}
use Rattle.codespan_renderer.proofs.PreferredStyles.{preferred-none}
use Rattle.codespan_renderer.proofs.term.renderer.scanned_line.ScanCursorCharCursor.style_under.Goals as goal

pub returns-clause-style : goal.returns-clause-style
returns-clause-style c = grind (arith, common_steps, preferred-none)
