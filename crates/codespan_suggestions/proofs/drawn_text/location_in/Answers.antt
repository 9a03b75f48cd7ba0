use Rattle.codespan_core.proofs.Std.{◌≡◌, ◌∙◌, ◌+◌, ◌<◌, ap, sym, arith, length}
use Rattle.codespan_core.proofs.Std.{get_or, get_or_default}
use Rattle.codespan_suggestions.specs.DrawnText.{location_after}
use Rattle.codespan_suggestions.proofs.LocationLemmas.{location-more, line-more, column-more}
use Rattle.codespan_suggestions.proofs.drawn_text.location_in.Goals as goal

-- one more byte is passed
pub loop-index-preserved : goal.loop-index-preserved
loop-index-preserved c =
    let text = c.args.text.now in
    let i = c.loop-index.index in
    let b = get_or text i 0 in
    let at = c.loop-index.location in
    let inside : i < length text =
    omega (arith, c.loop-index-test.true, c.min-index-end.ensures) in
    let is : c.location_after-next.result ≡ location_after at b = c.location_after-next.ensures in
    record {
      line = rw is (omega (arith, line-more at b, c.loop-index.invariant.line));
      column = rw is (column-more at b (i + 1) c.loop-index.invariant.column (omega arith));
      location =
          is
          ∙ (ap (λ l. location_after l b) c.loop-index.invariant.location
          ∙ sym (location-more text i b inside (get_or_default text i 0 b inside)));
    }
