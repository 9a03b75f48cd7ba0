use Rattle.codespan_core.proofs.Std.{take, le-ltb, refl, arith}
use Rattle.codespan_renderer.proofs.CachedScans.{cached-from}
use Rattle.codespan_renderer.proofs.LabelCursorSteps.{cursor-start, follow-after}
use Rattle.codespan_renderer.proofs.term.renderer.cached.cached_line.CachedLine.cursor.Goals as goal

pub invariant_of-result : goal.invariant_of-result
invariant_of-result c =
    let s = c.args.self.now in
    let all =
    cached-from s.tab_width s.line.text.now s.cached.now s.rest c.fork.result c.args.has_placeholder
    c.args.skipped s.are_cached c.fork.ensures.same c.fork.ensures.placeholder in
    record {
      state =
          cursor-start _ (take c.args.skipped s.cached.now) _
          (record {
            primary = record { is = λ x low some. rw (le-ltb x.byte_index 0 (omega arith)) refl };
            any = record { is = λ x low some. rw (le-ltb x.byte_index 0 (omega arith)) refl };
            ordered = s.ordered;
          })
          (rw all (follow-after c.args.has_placeholder s.tab_width s.line.text.now));
    }

pub returns-clause-left : goal.returns-clause-left
returns-clause-left c =
    let s = c.args.self.now in
    cached-from s.tab_width s.line.text.now s.cached.now s.rest c.fork.result c.args.has_placeholder
    c.args.skipped s.are_cached c.fork.ensures.same c.fork.ensures.placeholder
