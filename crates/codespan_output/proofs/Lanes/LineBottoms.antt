-- For `lanes_join_corners`: what a lane shows in the rows of a line on which its label ends.
use Rattle.codespan_core.proofs.Std.{◌≡◌, ℕ, ◌<◌, true, false, cond, ◌==◌, nat_lt}
use Rattle.codespan_core.proofs.Std.{List, ◌∷◌, ◌++◌, map, filter, Some, refl, sym, ap}
use Rattle.codespan_core.proofs.Std.{◌∙◌, arith, append_assoc, nat_tests, AllByRecursion}
use Rattle.codespan_core.specs.Streams.{Stream}
use Rattle.codespan_core.specs.Labels.{LaneMark, Bottom}
use Rattle.codespan_output.specs.Types.{Layout, LabelStyle}
use Rattle.codespan_output.specs.declared.lane_shapes.Shape.{Shape}
use Rattle.codespan_output.specs.declared.lane_shapes.Shape.TheVariants.{Space, Bar, BottomCorner}
use Rattle.codespan_output.specs.{Source, SingleLabels, Underline, row_shape, lane_mark_in}
use Rattle.codespan_output.specs.{shape_of, shape_in, Line, SourceRow, UnderlineRow, rows_of}
use Rattle.codespan_output.proofs.Lanes.LineLemmas.{split_at, Shows, Finishes}
use Rattle.codespan_output.proofs.Utf8.ListElements.{all-append, all-weaker}
use Rattle.codespan_output.proofs.Lanes.LineRows.{below_rows, each_below, is_underlined, each_under}
use Rattle.codespan_output.proofs.Lanes.LineRows.{lane_mark_with}
use Rattle.codespan_output.specs.Private.{leading_of}

-- ---- a line with an end of the label

-- the lane's multi-line label mark among those of the line
pub record Split (lane : ℕ) (m : LaneMark) (lane_marks : List LaneMark) : Type 0 where
  pub low : List LaneMark
  pub high : List LaneMark
  pub is : lane_marks ≡ low ++ (m ∷ high)
  pub below : AllByRecursion (λ (o : LaneMark). o.lane < lane) low
  pub above : AllByRecursion (λ (o : LaneMark). lane < o.lane) high

-- the rows of the line, where the lane has an underline of its own
pub rows_split : (lane : ℕ) (line : Line) (m : LaneMark) (r : Split lane m line.lanes.lane_marks)
    → is_underlined line m ≡ true
    → rows_of line
    ≡ (SourceRow line
    ∷ (below_rows line ++ map (UnderlineRow line) (filter (is_underlined line) r.low)))
    ++ (UnderlineRow line m ∷ map (UnderlineRow line) (filter (is_underlined line) r.high))
rows_split lane line m r h =
    ap (λ t. SourceRow line
    ∷ (below_rows line ++ map (UnderlineRow line) (filter (is_underlined line) t))) r.is
    ∙ ap (λ t. SourceRow line ∷ (below_rows line ++ t))
    (split_at (UnderlineRow line) (is_underlined line) r.low m r.high h)
    ∙ ap (λ t. SourceRow line ∷ t)
    (sym
    (append_assoc (below_rows line) (map (UnderlineRow line) (filter (is_underlined line) r.low))
    (UnderlineRow line m ∷ map (UnderlineRow line) (filter (is_underlined line) r.high))))

pub bottom_lane_mark : (layout : Layout) (lane : ℕ) (line : Line) (style : LabelStyle) (end : ℕ)
    (message : Stream)
    → lane_mark_in line.lanes.lane_marks lane ≡ Some
    (lane_mark_with lane style (Bottom end message))
    → Split lane (lane_mark_with lane style (Bottom end message)) line.lanes.lane_marks
    → Finishes layout lane (rows_of line)
bottom_lane_mark layout lane line style end message is r = record {
  before = SourceRow line
      ∷ (below_rows line ++ map (UnderlineRow line) (filter (is_underlined line) r.low));
  bottom = UnderlineRow line m;
  after = map (UnderlineRow line) (filter (is_underlined line) r.high);
  rows_are = rows_split lane line m r refl;
  bars = (
    ap (shape_of (row_shape layout (leading_of line) Source lane)) is,
    all-append (Shows layout lane Bar) (below_rows line)
        (map (UnderlineRow line) (filter (is_underlined line) r.low))
        (each_below (Shows layout lane Bar) line
        (ap (shape_of (row_shape layout (leading_of line) SingleLabels lane)) is)
        (ap (shape_of (row_shape layout (leading_of line) SingleLabels lane)) is)
        (λ y. ap (shape_of (row_shape layout (leading_of line) SingleLabels lane)) is))
        (each_under (Shows layout lane Bar) line r.low
        (all-weaker (λ (o : LaneMark). o.lane < lane)
        (λ o. Shows layout lane Bar (UnderlineRow line o)) on_low r.low r.below)),
  );
  bottom_corner =
      let same : (lane == lane) ≡ true = grind (arith, nat_tests) in
      shown m ∙ ap (λ b. cond b BottomCorner (cond (nat_lt lane lane) Space Bar)) same;
  gaps = each_under (Shows layout lane Space) line r.high
      (all-weaker (λ (o : LaneMark). lane < o.lane)
      (λ o. Shows layout lane Space (UnderlineRow line o)) on_high r.high r.above);
}
  where
    m : LaneMark
    m = lane_mark_with lane style (Bottom end message)

    shown : (o : LaneMark)
        → shape_in layout (UnderlineRow line o) lane ≡ row_shape layout (leading_of line)
        (Underline o) lane (Bottom end message)
    shown o = ap (shape_of (row_shape layout (leading_of line) (Underline o) lane)) is

    on_low : (o : LaneMark) → o.lane < lane → Shows layout lane Bar (UnderlineRow line o)
    on_low o h = bottom_low layout lane (leading_of line) o end message h (shown o)
      where
        bottom_low : (layout : Layout) (lane leading : ℕ) (o : LaneMark) (end : ℕ)
            (message : Stream) {v : Shape}
            → o.lane < lane
            → v ≡ row_shape layout leading (Underline o) lane (Bottom end message)
            → v ≡ Bar
        bottom_low layout lane leading o end message h e =
            let other : (lane == o.lane) ≡ false = grind (arith, nat_tests) in
            let later : nat_lt lane o.lane ≡ false = grind (arith, nat_tests) in
            e ∙ simp (other, later)

    on_high : (o : LaneMark) → lane < o.lane → Shows layout lane Space (UnderlineRow line o)
    on_high o h = bottom_high layout lane (leading_of line) o end message h (shown o)
      where
        bottom_high : (layout : Layout) (lane leading : ℕ) (o : LaneMark) (end : ℕ)
            (message : Stream) {v : Shape}
            → lane < o.lane
            → v ≡ row_shape layout leading (Underline o) lane (Bottom end message)
            → v ≡ Space
        bottom_high layout lane leading o end message h e =
            let other : (lane == o.lane) ≡ false = grind (arith, nat_tests) in
            let later : nat_lt lane o.lane ≡ true = grind (arith, nat_tests) in
            e ∙ simp (other, later)
