use Rattle.codespan_base.specs.Ansi.{ansi_style}
use Rattle.codespan_core.proofs.AppendsBytes.{appended-then, prefix-then, prefix-before}
use Rattle.codespan_core.proofs.AppendsBytes.{appends-last, appends-failed}
use Rattle.codespan_core.proofs.Std.{arith, common_steps}
use Rattle.codespan_base.proofs.term.config.ansi.AnsiWriteColor.set_color.Goals as goal

pub returns-in_err-write_reset : goal.returns-in_err-write_reset
unfolding ansi_style
returns-in_err-write_reset g c = grind (arith, common_steps, appends-failed, prefix-before)

pub returns-in_err-write_bold : goal.returns-in_err-write_bold
unfolding ansi_style
returns-in_err-write_bold g c =
    appends-failed _ _ _ _ _ c.from_residual-in_err-write_bold.ensures.1
    (prefix-before _ _ _ _
    (prefix-before _ _ _ _
    (prefix-then _ _ _ _ _ c.in_ok-write_reset.ensures c.in_err-write_bold.ensures)))

pub returns-in_err-write_color : goal.returns-in_err-write_color
unfolding ansi_style
returns-in_err-write_color g c =
    appends-failed _ _ _ _ _ c.from_residual-in_err-write_color.ensures.1
    (prefix-before _ _ _ _
    (prefix-then _ _ _ _ _
    (appended-then _ _ _ _ _ c.in_ok-write_reset.ensures c.in_ok-write_bold.ensures)
    c.in_err-write_color.ensures))

pub returns : goal.returns
unfolding ansi_style
returns g c =
    appends-last _ _ _ _ _ _
    (appended-then _ _ _ _ _
    (appended-then _ _ _ _ _ c.in_ok-write_reset.ensures c.in_ok-write_bold.ensures)
    c.in_ok-write_color.ensures)
    c.write_color-2.ensures
