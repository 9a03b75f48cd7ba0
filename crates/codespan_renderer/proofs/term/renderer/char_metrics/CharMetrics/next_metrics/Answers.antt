use Rattle.codespan_core.proofs.Std.{sym, ◌∙◌, arith, IsUtf8-had, len_utf8_bounds}
use Rattle.codespan_core.proofs.Std.{common_steps}
use Rattle.std.specs.Str.Iter.{chars_rest}
use Rattle.std.proofs.lemmas.Str.{IsUtf8-past_char, drop_past_char}
use Rattle.codespan_renderer.proofs.MetricsSteps.{metrics_then-char, metrics_then-end, bytes-taken}
use Rattle.codespan_output.proofs.Characters.Steps.{bytes_left}
use Rattle.codespan_renderer.proofs.term.renderer.char_metrics.CharMetrics.next_metrics.Goals as goal

pub invariant_of-self : goal.invariant_of-self
invariant_of-self c =
    let step = c.in-Some.ensures.steps.0 in
    let whole = sym c.args.self.now.left ∙ step in
    let bytes = bytes-taken c.as_str-left.result.now c.as_str.result.now _ _ c.in-Some.ch
    c.as_str-left.ensures c.as_str.ensures step in
    let room =
    bytes_left c.args.self.now.text.now (chars_rest c.next.new.self) c.args.self.now.byte_index
    c.in-Some.ch whole in
    let some = len_utf8_bounds c.in-Some.ch in
    let next = drop_past_char c.args.self.now.text.now (chars_rest c.next.new.self)
    c.args.self.now.byte_index c.in-Some.ch whole in
    record {
      left = sym (rw bytes next);
      utf8 = ∣ IsUtf8-past_char _ _ _ (IsUtf8-had _ c.args.self.now.utf8) step ∣₁;
      within = omega arith;
      column_bound = omega arith;
    }

pub returns-in-Some-clause-yields : goal.returns-in-Some-clause-yields
returns-in-Some-clause-yields c =
    grind (arith, common_steps, bytes-taken, metrics_then-char, IsUtf8-had, len_utf8_bounds)

pub returns-in-None-clause-yields : goal.returns-in-None-clause-yields
returns-in-None-clause-yields c = grind (arith, common_steps, metrics_then-end)
