use Rattle.codespan_core.proofs.Std.{ap, sym, ◌∙◌}
use Rattle.codespan_core.proofs.files.starts.LineStartsIterator.next.Goals.{then-self-eq0+else-self-eq0-2}
use Rattle.codespan_core.proofs.files.starts.LineStartsIterator.next.Goals.{else-self-eq0}
use Rattle.codespan_core.proofs.files.starts.LineStartsIterator.next.Goals as goal

-- a search keeps the line starts that are left, and the first of them is returned
pub returns-clause-steps : goal.returns-clause-steps
returns-clause-steps c =
    let taken = c.take_newline.ensures in
    elim c.if-self-eq0.branch [
      | then-self-eq0+else-self-eq0-2 w ↦
          let found = w.search.ensures in
          let started =
          taken.started ∙ ap (λ s. s.started) w.self-is ∙ found.started
          ∙ c.if-not-self.false in
          rw (c.if-not-self.false, started) (sym found.kept ∙ rw w.self-is at taken.first)
      | else-self-eq0 w ↦
          let started = taken.started ∙ ap (λ s. s.started) w.self-is ∙ c.if-not-self.false in
          rw (c.if-not-self.false, started) (rw w.self-is at taken.first)
    ]
