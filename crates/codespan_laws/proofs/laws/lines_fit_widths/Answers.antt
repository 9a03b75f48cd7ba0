use Rattle.codespan_output.proofs.Fitting.FittedLaws.{lines-fit-widths}
use Rattle.codespan_laws.proofs.laws.lines_fit_widths.Goals as goal

pub returns : goal.returns
returns c = lines-fit-widths
