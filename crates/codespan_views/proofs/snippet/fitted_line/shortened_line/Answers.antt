use Rattle.codespan_core.proofs.Std.{◌≡◌, ℕ, map, Option, Some, ap, subst, ◌∙◌}
use Rattle.codespan_output.specs.Arguments.{ascend_from, lane_mark_view}
use Rattle.codespan_output.specs.FittedLines.{fitted_pieces}
use Rattle.codespan_output.specs.Private.LineViews.{context_view, line_view}
use Rattle.codespan_output.specs.Rows.{Line}
use Rattle.codespan_output.specs.declared.rows.line.Line.{Line as RustLine}
use Rattle.codespan_output.specs.declared.rows.line.RowContext.{RowContext as RustContext}
use Rattle.codespan_output.proofs.Fitting.FittedStreams.{lanes-moved}
use Rattle.codespan_fitting.specs.Lines.{IsFitted}
use Rattle.codespan_fitting.specs.declared.fit.FittedLine.{FittedLine}
use Rattle.codespan_fitting.specs.declared.fit.Frame.{Frame}
use Rattle.codespan_views.proofs.Lines.Fitted.{whole-fits}
use Rattle.codespan_views.proofs.snippet.fitted_line.shortened_line.Goals as goal

-- what a line has to fit
abbrev frame_of : ℕ → RustContext → RustLine → Frame
frame_of width context line = record {
  width = width;
  padding = context.padding;
  num_lanes = line.lanes.count;
  tab_width = context.tab_width;
}

-- what it has for its rows
abbrev whole_of : RustLine → FittedLine
whole_of line =
    record { text = line.text; labels = line.labels; lane_marks = line.lanes.lane_marks }

-- what was returned is fitted, in other words
as_returned : (width : ℕ) (context : RustContext) (line : RustLine) {o p : Option FittedLine}
    → o ≡ p → IsFitted (frame_of width context line) (whole_of line) o
    → IsFitted (frame_of width context line) (whole_of line) p
as_returned width context line same h =
    subst (IsFitted (frame_of width context line) (whole_of line)) same h

pub returns-in-None-clause-fitted : goal.returns-in-None-clause-fitted
returns-in-None-clause-fitted c =
    whole-fits c.args.width (context_view c.args.context) (line_view c.args.line)
    (as_returned c.args.width c.args.context c.args.line c.in-None.is c.in_ok-fit_line.ensures
    c.args.line.number)

pub invariant_of-result : goal.invariant_of-result
invariant_of-result c =
    let context = context_view c.args.context in
    let is = (as_returned c.args.width c.args.context c.args.line c.in-Some.is
    c.in_ok-fit_line.ensures c.args.line.number context).1 in
    let count = c.args.line.lanes.count in
    let marks = map lane_mark_view c.args.line.lanes.lane_marks.now in
    record {
      in_order =
          ap (λ (l : Line). ascend_from count 0 l.lanes.lane_marks) is
          ∙ lanes-moved (fitted_pieces (Some c.args.width) context (line_view c.args.line)) count 0
          marks
          ∙ c.args.line.lanes.in_order;
    }

pub returns-in-Some-clause-fitted : goal.returns-in-Some-clause-fitted
returns-in-Some-clause-fitted c =
    (as_returned c.args.width c.args.context c.args.line c.in-Some.is c.in_ok-fit_line.ensures
    c.args.line.number
    (context_view c.args.context)).1
