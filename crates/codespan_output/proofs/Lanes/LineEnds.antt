-- For `lanes_join_corners`: what a lane shows in the rows of a line on which its label begins or
-- ends.
use Rattle.codespan_core.proofs.Std.{◌≡◌, ℕ, ◌<◌, Bool, true, false, not, cond}
use Rattle.codespan_core.proofs.Std.{◌&&◌, ◌==◌, nat_lt, inl, inr, [], ◌∷◌, ◌++◌}
use Rattle.codespan_core.proofs.Std.{map, filter, Some, refl, ap, ◌∙◌, arith, nat_tests}
use Rattle.codespan_core.proofs.Std.{AllByRecursion}
use Rattle.std.proofs.Math.Bool.{and-false}
use Rattle.codespan_core.specs.Labels.{LaneMark, Top}
use Rattle.codespan_output.specs.Types.{Layout, Classic, Unbroken, LabelStyle}
use Rattle.codespan_output.specs.declared.lane_shapes.Shape.{Shape}
use Rattle.codespan_output.specs.declared.lane_shapes.Shape.TheVariants.{Space, Bar, TopCorner}
use Rattle.codespan_output.specs.{Source, SingleLabels, Underline, row_shape, lane_mark_in}
use Rattle.codespan_output.specs.{is_unbroken, begins_in_source_row, shape_of, shape_in, Line}
use Rattle.codespan_output.specs.{SourceRow, UnderlineRow, rows_of}
use Rattle.codespan_output.proofs.Lanes.LineLemmas.{split_off, Shows, GoesOn, Begins}
use Rattle.codespan_output.proofs.Utf8.ListElements.{all-append, all-weaker}
use Rattle.codespan_output.proofs.Lanes.LineRows.{below_rows, each_below, is_underlined, each_under}
use Rattle.codespan_output.proofs.Lanes.LineRows.{each_after_source, lane_mark_with}
use Rattle.codespan_output.specs.Private.{underline_rows, leading_of}
use Rattle.codespan_output.proofs.Lanes.LineBottoms.{Split, rows_split}

-- a top, in the underline row of a lane to its left or to its right
top_low : (lane corner_lane : ℕ) {v : Shape} → corner_lane < lane
    → v ≡ cond (lane == corner_lane) TopCorner (cond (nat_lt lane corner_lane) Bar Space)
    → v ≡ Space
top_low lane corner_lane h e =
    let other : (lane == corner_lane) ≡ false = grind (arith, nat_tests) in
    let later : nat_lt lane corner_lane ≡ false = grind (arith, nat_tests) in
    e ∙ simp (other, later)

top_high : (lane corner_lane : ℕ) {v : Shape} → lane < corner_lane
    → v ≡ cond (lane == corner_lane) TopCorner (cond (nat_lt lane corner_lane) Bar Space)
    → v ≡ Bar
top_high lane corner_lane h e =
    let other : (lane == corner_lane) ≡ false = grind (arith, nat_tests) in
    let later : nat_lt lane corner_lane ≡ true = grind (arith, nat_tests) in
    e ∙ simp (other, later)

-- a corner in the source row
top_early : (layout : Layout) (lane : ℕ) (line : Line) (style : LabelStyle) (start : ℕ)
    → lane_mark_in line.lanes.lane_marks lane ≡ Some (lane_mark_with lane style (Top start))
    → Split lane (lane_mark_with lane style (Top start)) line.lanes.lane_marks
    → begins_in_source_row (leading_of line) start ≡ true
    → Begins layout lane line (rows_of line)
top_early layout lane line style start is r early = record {
  before = [];
  top = SourceRow line;
  more = below_rows line ++ underline_rows line;
  rows_are = refl;
  gaps = tt;
  top_corner = ap (shape_of (row_shape layout (leading_of line) Source lane)) is
      ∙ ap (λ b. cond b TopCorner Space)
      early;
  goes_on = by_layout layout;
}
  where
    m : LaneMark
    m = lane_mark_with lane style (Top start)

    -- the underline rows without the lane's own
    without : underline_rows line
        ≡ map (UnderlineRow line) (filter (is_underlined line) r.low)
        ++ map (UnderlineRow line) (filter (is_underlined line) r.high)
    without =
        ap (λ t. map (UnderlineRow line) (filter (is_underlined line) t)) r.is
        ∙ split_off (UnderlineRow line) (is_underlined line) r.low m r.high (ap not early)

    space_shown : shape_of (row_shape Classic (leading_of line) SingleLabels lane)
        (lane_mark_in line.lanes.lane_marks lane) ≡ Space
    space_shown = ap (shape_of (row_shape Classic (leading_of line) SingleLabels lane)) is

    shown : (o : LaneMark)
        → shape_in Classic (UnderlineRow line o) lane ≡ cond (lane == o.lane) TopCorner
        (cond (nat_lt lane o.lane) Bar Space)
    shown o = ap (shape_of (row_shape Classic (leading_of line) (Underline o) lane)) is

    on_low : (o : LaneMark) → o.lane < lane
        → GoesOn Classic lane line (SourceRow line) (UnderlineRow line o)
    on_low o h =
        inr
        (record {
          shows_space =
              top_low lane o.lane h (shown o);
          is_classic =
              refl;
          begins_in_source_row = refl;
          is_of_line = refl;
        })

    on_high : (o : LaneMark) → lane < o.lane
        → GoesOn Classic lane line (SourceRow line) (UnderlineRow line o)
    on_high o h = inl (top_high lane o.lane h (shown o))

    by_layout : (layout : Layout)
        → AllByRecursion (GoesOn layout lane line (SourceRow line))
        (below_rows line ++ underline_rows line)
    by_layout Classic =
        all-append (GoesOn Classic lane line (SourceRow line)) (below_rows line)
        (underline_rows line)
        (each_below (GoesOn Classic lane line (SourceRow line)) line
        (inr (record {
          shows_space = space_shown;
          is_classic = refl;
          begins_in_source_row = refl;
          is_of_line = refl;
        }))
        (inr (record {
          shows_space = space_shown;
          is_classic = refl;
          begins_in_source_row = refl;
          is_of_line = refl;
        }))
        (λ y. inr
        (record {
          shows_space = space_shown;
          is_classic = refl;
          begins_in_source_row = refl;
          is_of_line = refl;
        })))
        (rw without
        (all-append (GoesOn Classic lane line (SourceRow line))
        (map (UnderlineRow line) (filter (is_underlined line) r.low))
        (map (UnderlineRow line) (filter (is_underlined line) r.high))
        (each_under (GoesOn Classic lane line (SourceRow line)) line r.low
        (all-weaker (λ (o : LaneMark). o.lane < lane)
        (λ o. GoesOn Classic lane line (SourceRow line) (UnderlineRow line o)) on_low r.low
        r.below))
        (each_under (GoesOn Classic lane line (SourceRow line)) line r.high
        (all-weaker (λ (o : LaneMark). lane < o.lane)
        (λ o. GoesOn Classic lane line (SourceRow line) (UnderlineRow line o)) on_high r.high
        r.above))))
    by_layout Unbroken =
        each_after_source (GoesOn Unbroken lane line (SourceRow line)) line
        (inl
        (ap (shape_of (row_shape Unbroken (leading_of line) SingleLabels lane)) is
        ∙ ap (λ b. cond b Bar Space) early))
        (inl (ap (shape_of (row_shape Unbroken (leading_of line) SingleLabels lane)) is ∙ ap
        (λ b. cond b Bar Space) early))
        (λ y. inl
        (ap (shape_of (row_shape Unbroken (leading_of line) SingleLabels lane)) is
        ∙ ap (λ b. cond b Bar Space) early))
        (λ m. inl (ap (shape_of (row_shape Unbroken (leading_of line) (Underline m) lane)) is
        ∙ ap (λ b. cond b Bar (cond (lane == m.lane) TopCorner
        (cond (nat_lt lane m.lane) Bar Space))) early))

-- a lane whose corner is not in the source row does not continue below that row
late : (layout : Layout) (leading start : ℕ) → begins_in_source_row leading start ≡ false
    → (is_unbroken layout && begins_in_source_row leading start) ≡ false
late layout leading start h = ap (λ b. is_unbroken layout && b) h
    ∙ and-false (is_unbroken layout)

late_below : (layout : Layout) (leading lane start : ℕ)
    → begins_in_source_row leading start ≡ false
    → row_shape layout leading SingleLabels lane (Top start) ≡ Space
late_below layout leading lane start h = ap (λ b. cond b Bar Space) (late layout leading start h)

late_underline : (layout : Layout) (leading : ℕ) (o : LaneMark) (lane start : ℕ)
    → begins_in_source_row leading start ≡ false
    → row_shape layout leading (Underline o) lane (Top start) ≡ cond (lane == o.lane)
    TopCorner (cond (nat_lt lane o.lane) Bar Space)
late_underline layout leading o lane start h =
    ap (λ b. cond b Bar (cond (lane == o.lane) TopCorner
    (cond (nat_lt lane o.lane) Bar Space))) (late layout leading start h)

-- a corner in a row of its own
top_late : (layout : Layout) (lane : ℕ) (line : Line) (style : LabelStyle) (start : ℕ)
    → lane_mark_in line.lanes.lane_marks lane ≡ Some (lane_mark_with lane style (Top start))
    → Split lane (lane_mark_with lane style (Top start)) line.lanes.lane_marks
    → begins_in_source_row (leading_of line) start ≡ false
    → Begins layout lane line (rows_of line)
top_late layout lane line style start is r early = record {
  before = SourceRow line
      ∷ (below_rows line ++ map (UnderlineRow line) (filter (is_underlined line) r.low));
  top = UnderlineRow line m;
  more = map (UnderlineRow line) (filter (is_underlined line) r.high);
  rows_are = rows_split lane line m r (ap not early);
  gaps = (
    ap (shape_of (row_shape layout (leading_of line) Source lane)) is
        ∙ ap (λ b. cond b TopCorner Space) early,
    all-append (Shows layout lane Space) (below_rows line)
        (map (UnderlineRow line) (filter (is_underlined line) r.low))
        (each_below (Shows layout lane Space) line under under (λ y. under))
        (each_under (Shows layout lane Space) line r.low
        (all-weaker (λ (o : LaneMark). o.lane < lane)
        (λ o. Shows layout lane Space (UnderlineRow line o)) on_low r.low r.below)),
  );
  top_corner =
      let same : (lane == lane) ≡ true = grind (arith, nat_tests) in
      shown m ∙ ap (λ b. cond b TopCorner (cond (nat_lt lane lane) Bar Space)) same;
  goes_on = each_under (GoesOn layout lane line (UnderlineRow line m)) line r.high
      (all-weaker (λ (o : LaneMark). lane < o.lane)
      (λ o. GoesOn layout lane line (UnderlineRow line m) (UnderlineRow line o))
      (λ o h. inl (on_high o h)) r.high r.above);
}
  where
    m : LaneMark
    m = lane_mark_with lane style (Top start)

    under : shape_of (row_shape layout (leading_of line) SingleLabels lane)
        (lane_mark_in line.lanes.lane_marks lane) ≡ Space
    under =
        ap (shape_of (row_shape layout (leading_of line) SingleLabels lane)) is
        ∙ late_below layout (leading_of line) lane start early

    shown : (o : LaneMark)
        → shape_in layout (UnderlineRow line o) lane ≡ cond (lane == o.lane) TopCorner
        (cond (nat_lt lane o.lane) Bar Space)
    shown o =
        ap (shape_of (row_shape layout (leading_of line) (Underline o) lane)) is
        ∙ late_underline layout (leading_of line) o lane start early

    on_low : (o : LaneMark) → o.lane < lane → Shows layout lane Space (UnderlineRow line o)
    on_low o h = top_low lane o.lane h (shown o)

    on_high : (o : LaneMark) → lane < o.lane → Shows layout lane Bar (UnderlineRow line o)
    on_high o h = top_high lane o.lane h (shown o)

pub top_lane_mark : (layout : Layout) (lane : ℕ) (line : Line) (style : LabelStyle) (start : ℕ)
    → lane_mark_in line.lanes.lane_marks lane ≡ Some (lane_mark_with lane style (Top start))
    → Split lane (lane_mark_with lane style (Top start)) line.lanes.lane_marks
    → Begins layout lane line (rows_of line)
top_lane_mark layout lane line style start is r =
    by_test (begins_in_source_row (leading_of line) start) refl
  where
    by_test : (b : Bool) → begins_in_source_row (leading_of line) start ≡ b
        → Begins layout lane line (rows_of line)
    by_test true early = top_early layout lane line style start is r early
    by_test false early = top_late layout lane line style start is r early
