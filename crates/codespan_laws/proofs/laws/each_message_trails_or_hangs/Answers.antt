use Rattle.codespan_output.proofs.Messages.TrailOrHang.{trails_or_hangs}
use Rattle.codespan_laws.proofs.laws.each_message_trails_or_hangs.Goals as goal

pub returns : goal.returns
returns c = trails_or_hangs
