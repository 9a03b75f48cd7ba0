use Rattle.codespan_core.proofs.Std.{◌≡◌, [], rules, arith, sym, ap, ◌∙◌, common_steps}
use Rattle.codespan_core.specs.{extended}
use Rattle.codespan_core.proofs.KnownBytes.{extended-nil}
use Rattle.codespan_core.proofs.AppendsBytes.{written_to_plain_ref}
use Rattle.codespan_core.proofs.term.config.writing.write_all.Goals as goal

pub returns-then-is_empty-clause-appends : goal.returns-then-is_empty-clause-appends
returns-then-is_empty-clause-appends g c = λ known.
    let none : c.args.bytes.now ≡ [] = grind (arith, common_steps) in
    sym (ap (extended (g.W.Write.contents c.args.w.now)) none ∙ extended-nil _)

pub returns-clause-appends : goal.returns-clause-appends
returns-clause-appends g c =
    written_to_plain_ref g.W.Write.contents c.new.result c.put_all.new.w _ _ _ _ _
    c.new.ensures.begins c.put_all.ensures (search rules)
