-- For `LinesFitWidths`: the laws of lines that fit a width.
use Rattle.codespan_output.specs.{LinesFitWidths}
use Rattle.codespan_output.proofs.Fitting.CutLines.{shortened-is-line, cut-at-end}
use Rattle.codespan_output.proofs.Fitting.FitsOnce.{fits-once}
use Rattle.codespan_output.proofs.Fitting.FittedRows.{fitted-is-line}
use Rattle.codespan_output.proofs.Fitting.Widths.{has-width}

-- what it is to fit a line
pub lines-fit-widths : LinesFitWidths
lines-fit-widths = record {
  is_line = fitted-is-line;
  fits_once = fits-once;
  has_width = has-width;
  shortened_is_line = shortened-is-line;
  cut_at_end = cut-at-end;
}
