use Rattle.codespan_core.proofs.Std.{◌∙◌}
use Rattle.codespan_core.specs.Lemmas.Simple.{line_found_at_start, line_found_inside}
use Rattle.codespan_core.proofs.files.simple.SimpleFileFiles.line_index.Goals as goal

pub overflow_sub-result : goal.overflow_sub-result
overflow_sub-result g c =
    (line_found_inside (g.Source.AsStr.text c.args.self.now.source) _ _ _
    (c.deref.ensures.value ∙ c.args.self.now.starts) c.in-Err.ensures.position).0

pub returns-in-Ok-clause-value : goal.returns-in-Ok-clause-value
returns-in-Ok-clause-value g c =
    line_found_at_start (g.Source.AsStr.text c.args.self.now.source) _ _ _
    (c.deref.ensures.value ∙ c.args.self.now.starts) c.in-Ok.ensures.ok

pub returns-in-Err-clause-value : goal.returns-in-Err-clause-value
returns-in-Err-clause-value g c =
    (line_found_inside (g.Source.AsStr.text c.args.self.now.source) _ _ _
    (c.deref.ensures.value ∙ c.args.self.now.starts) c.in-Err.ensures.position).1
