-- A line and the one that is shown in its place, as the definitions have them.
use Rattle.std.specs.Prelude.{◌≡◌, ℕ, ◌+◌, ◌<◌, Bool, false, true, List, nat_le, Option}
use Rattle.std.specs.Prelude.{None, Some, MatchOption}
use Rattle.codespan_output.specs.Arguments.{lanes_of, single_label_views}
use Rattle.codespan_output.specs.FittedLines.{fitted, line_cells, room}
use Rattle.codespan_output.specs.FittedParts.{Part}
use Rattle.codespan_output.specs.Rows.{Line, RowContext}
use Rattle.codespan_fitting.specs.Parts.{needed_cells}
use Rattle.codespan_fitting.specs.declared.fit.FittedLine.{FittedLine}
use Rattle.codespan_fitting.specs.declared.fit.Frame.{Frame}

-- a line with this number and with this many lanes
abbrev pub line_view : ℕ → ℕ → FittedLine → Line
line_view number num_lanes line = record {
  number = number;
  text = line.text.now;
  labels = single_label_views line.labels.now;
  lanes = lanes_of num_lanes line.lane_marks.now;
}

-- whether the line fits the frame
abbrev pub fits_frame : Frame → Line → Bool
fits_frame frame line =
    nat_le (line_cells frame.tab_width line) (room frame.width frame.padding line.lanes)

-- what all rows of an output are written with, of which a frame has a part
abbrev pub in_frame : Frame → RowContext → RowContext
in_frame frame context =
    record context { tab_width = frame.tab_width; padding = frame.padding }

-- none where the line fits the frame, and else the line that fits it, with the same number
abbrev pub IsFitted : Frame → FittedLine → Option FittedLine → Type 0
IsFitted frame line None =
    (number : ℕ) → fits_frame frame (line_view number frame.num_lanes line) ≡ true
IsFitted frame line (Some shown) = (number : ℕ) (context : RowContext)
    → (fits_frame frame (line_view number frame.num_lanes line) ≡ false)
    × (line_view number frame.num_lanes shown
    ≡ fitted (Some frame.width) (in_frame frame context) (line_view number frame.num_lanes line))

-- of these cells so many are left by what has to be shown of these parts, none where it has more
abbrev pub IsLeft : ℕ → List Part → Option ℕ → Type 0
IsLeft left parts rest =
    MatchOption rest (left < needed_cells parts) (λ rest. rest + needed_cells parts ≡ left)
