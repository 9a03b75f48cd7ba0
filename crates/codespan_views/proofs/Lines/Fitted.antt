-- For the clauses of `fitted_line` and `render_line`: the line that is rendered in place of a line.
use Rattle.codespan_core.proofs.Std.{◌≡◌, ℕ, ◌-◌, true, [], ◌++◌, Option, Some, None, sym}
use Rattle.codespan_core.proofs.Std.{ap, ◌∙◌, append-nil, if◌then◌else◌, nat_le}
use Rattle.codespan_output.specs.Arguments.{starts_in_order}
use Rattle.codespan_output.specs.FittedLineLaws.{IsFittable}
use Rattle.codespan_output.specs.FittedLines.{fitted, fitted_pieces, line_cells, room, past_end}
use Rattle.codespan_output.specs.FittedLines.{shown_line}
use Rattle.codespan_output.specs.FittedParts.{shortened}
use Rattle.codespan_output.specs.OutputStreams.{fitted_stream}
use Rattle.codespan_output.specs.RowStreams.{stream_of_rows}
use Rattle.codespan_output.specs.Rows.{Line, RowContext, rows_of}
use Rattle.codespan_output.proofs.Fitting.FittedRows.{fitted-is-line}
use Rattle.codespan_output.proofs.Fitting.FittedStreams.{starts-moved}
use Rattle.codespan_output.proofs.Fitting.ShortGaps.{line-same}

-- where there is no width the line is whole
pub whole : (width : Option ℕ) (context : RowContext) (line : Line) → width ≡ None
    → line ≡ fitted width context line
whole width context line none =
    sym (ap (λ w. fitted w context line) none ∙ line-same [] tt line)

-- and so it is where it fits
pub whole-fits : (width : ℕ) (context : RowContext) (line : Line)
    → nat_le (line_cells context.tab_width line) (room width context.padding line.lanes) ≡ true
    → line ≡ fitted (Some width) context line
whole-fits width context line fits =
    sym
    (ap
    (λ b. shown_line
    (if b then []
    else shortened (room width context.padding line.lanes - past_end line) context.tab_width line)
    line)
    fits
    ∙ line-same [] tt line)

module _ (width : Option ℕ) (context : RowContext) (shown line : Line)
    (is : shown ≡ fitted width context line) where
  -- its labels are in the order of their starts
  pub fitted-starts : starts_in_order line.labels ≡ true → starts_in_order shown.labels ≡ true
  fitted-starts h =
      ap (λ (l : Line). starts_in_order l.labels) is
      ∙ starts-moved (fitted_pieces width context line) line.labels h

  -- its rows are those of the line, each with the line that fits
  pub fitted-rows : {whole : Line} → line ≡ whole → IsFittable whole
      → stream_of_rows context (rows_of shown) ≡ fitted_stream width context (rows_of whole ++ [])
  fitted-rows {whole} same h =
      ap (λ l. stream_of_rows context (rows_of l)) is
      ∙ ap (λ l. stream_of_rows context (rows_of (fitted width context l))) same
      ∙ ap (stream_of_rows context) (fitted-is-line width context whole h).rows
      ∙ ap (fitted_stream width context) (sym (append-nil (rows_of whole)))
