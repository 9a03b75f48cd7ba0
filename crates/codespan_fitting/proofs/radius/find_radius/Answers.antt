use Rattle.codespan_core.proofs.Std.{◌-◌, ◌/◌, ◌∙◌, ℕ, nat_le, arith, sym}
use Rattle.codespan_fitting.specs.Gaps.{gap_cells}
use Rattle.codespan_fitting.proofs.Greatest.{cells-past, greatest-is}
use Rattle.codespan_fitting.proofs.radius.find_radius.Goals as goal

pub loop-least-preserved : goal.loop-least-preserved
loop-least-preserved c =
    let i = c.loop-least.invariant in
    let radius = c.loop-least.most - (c.loop-least.most - c.loop-least.least) / 2 in
    record {
      order = omega arith;
      bound = omega (arith, i.bound);
      fits = i.fits;
      past =
          λ r low high.
          cells-past radius r c.args.tab_width c.args.left c.args.text.now c.args.gaps.now
          (omega (arith, low)) (sym c.fits_at.ensures ∙ c.if-fits_at.false);
    }

pub returns : goal.returns
returns c =
    let i = c.loop-least.invariant in
    greatest-is
    (λ (r : ℕ). nat_le (gap_cells r c.args.tab_width c.args.text.now c.args.gaps.now) c.args.left)
    c.args.most c.loop-least.least (omega arith) i.fits
    (λ r low high. i.past r (omega arith) high)
