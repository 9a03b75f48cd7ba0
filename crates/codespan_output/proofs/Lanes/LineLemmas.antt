-- For `lanes_join_corners`: lists in parts, and a lane that is one line by the parts of its rows.
use Rattle.codespan_core.proofs.Std.{◌≡◌, ℕ, zero, suc, ◌+◌, ◌-◌, ◌<◌, Bool}
use Rattle.codespan_core.proofs.Std.{true, false, cond, ◌⊎◌, inl, inr, List, [], ◌∷◌}
use Rattle.codespan_core.proofs.Std.{◌++◌, map, filter, length, Option, Some, slice_get, refl}
use Rattle.codespan_core.proofs.Std.{sym, ap, ap₂, ◌∙◌, arith, append_assoc, AllByRecursion}
use Rattle.codespan_core.proofs.Std.{option_map, length-append}
use Rattle.codespan_core.specs.Labels.{LabelModel, first_line}
use Rattle.codespan_output.specs.Types.{Layout}
use Rattle.codespan_output.specs.declared.lane_shapes.Shape.{Shape}
use Rattle.codespan_output.specs.declared.lane_shapes.Shape.TheVariants.{Space, Bar, TopCorner}
use Rattle.codespan_output.specs.declared.lane_shapes.Shape.TheVariants.{BottomCorner}
use Rattle.codespan_output.specs.{is_unbroken, Line, Row, SourceRow, LabeledFileModel, line_at}
use Rattle.codespan_output.specs.{shape_in, shape_at, line_of_row, MayLeaveOut, IsCornerToCorner}
use Rattle.codespan_output.proofs.Utf8.ListElements.{all-append, all-weaker}

-- ---- lists

-- what holds of everything holds of each element
pub each_all : {X : Type 0} (P : X → Type 0) (xs : List X) → ((x : X) → P x)
    → AllByRecursion P xs
each_all P [] h = tt
each_all P (x ∷ xs) h = (h x, each_all P xs h)

-- what holds of the image of each element holds of each element of the images
pub each_map : {X Y : Type 0} (P : Y → Type 0) (f : X → Y) (xs : List X)
    → AllByRecursion (λ x. P (f x)) xs → AllByRecursion P (map f xs)
each_map P f [] a = tt
each_map P f (x ∷ xs) a = (a.0, each_map P f xs a.1)

-- the element at an index, and what holds of it
pub each_at : {X : Type 0} (P : X → Type 0) (xs : List X) (k : ℕ) → AllByRecursion P xs
    → k < length xs → (x : X) × ((slice_get xs k ≡ Some x) × P x)
each_at P [] k a h = absurd (omega arith)
each_at P (x ∷ xs) zero a h = (x, (refl, a.0))
each_at P (x ∷ xs) (suc k) a h = each_at P xs k a.1 (omega arith)

pub get_left : {X : Type 0} (xs ys : List X) (k : ℕ) → k < length xs
    → slice_get (xs ++ ys) k ≡ slice_get xs k
get_left [] ys k h = absurd (omega arith)
get_left (x ∷ xs) ys zero h = refl
get_left (x ∷ xs) ys (suc k) h = get_left xs ys k (omega arith)

pub get_right : {X : Type 0} (xs ys : List X) (j k : ℕ) → length xs + k ≡ j
    → slice_get (xs ++ ys) j ≡ slice_get ys k
get_right [] ys j k e = let same : j ≡ k = omega arith in ap (slice_get ys) same
get_right (x ∷ xs) ys zero k e = absurd (omega arith)
get_right (x ∷ xs) ys (suc j) k e = get_right xs ys j k (omega arith)

-- a filtered and mapped list, where the filter keeps an element
pub split_at : {X Y : Type 0} (f : X → Y) (p : X → Bool) (low : List X) (m : X) (high : List X)
    → p m ≡ true
    → map f (filter p (low ++ (m ∷ high))) ≡ map f (filter p low)
    ++ (f m ∷ map f (filter p high))
split_at f p [] m high h = ap (λ b. map f (cond b (m ∷ filter p high) (filter p high))) h
split_at {X} {Y} f p (y ∷ low) m high h = by_test (split_at f p low m high h) (p y)
  where
    by_test : map f (filter p (low ++ (m ∷ high))) ≡ map f
        (filter p low) ++ (f m ∷ map f (filter p high))
        → (b : Bool)
        → map f (cond b (y ∷ filter p (low ++ (m ∷ high))) (filter p (low ++ (m ∷ high))))
        ≡ map f (cond b (y ∷ filter p low) (filter p low)) ++ (f m ∷ map f (filter p high))
    by_test rest true = ap (λ r. f y ∷ r) rest
    by_test rest false = rest

-- the same where the filter drops it
pub split_off : {X Y : Type 0} (f : X → Y) (p : X → Bool) (low : List X) (m : X) (high : List X)
    → p m ≡ false
    → map f (filter p (low ++ (m ∷ high))) ≡ map f (filter p low) ++ map f (filter p high)
split_off f p [] m high h = ap (λ b. map f (cond b (m ∷ filter p high) (filter p high))) h
split_off {X} {Y} f p (y ∷ low) m high h = by_test (split_off f p low m high h) (p y)
  where
    by_test : map f (filter p (low ++ (m ∷ high))) ≡ map f (filter p low)
        ++ map f (filter p high)
        → (b : Bool)
        → map f (cond b (y ∷ filter p (low ++ (m ∷ high))) (filter p (low ++ (m ∷ high))))
        ≡ map f (cond b (y ∷ filter p low) (filter p low)) ++ map f (filter p high)
    by_test rest true = ap (λ r. f y ∷ r) rest
    by_test rest false = rest

-- ---- the parts of a lane

-- the row shows this in the lane
abbrev pub Shows : Layout → ℕ → Shape → Row → Type 0
Shows layout lane shape row = shape_in layout row lane ≡ shape

-- a row of the line leaves the lane out below a top corner in the source row
pub record LeftOut (layout : Layout) (lane : ℕ) (line : Line) (top row : Row) : Type 0 where
  pub shows_space : shape_in layout row lane ≡ Space
  pub is_classic : is_unbroken layout ≡ false
  pub begins_in_source_row : top ≡ SourceRow line
  pub is_of_line : line_of_row row ≡ Some line

-- a bar, or a space that the classic layout may leave
abbrev pub GoesOn : Layout → ℕ → Line → Row → Row → Type 0
GoesOn layout lane line top row = Shows layout lane Bar row ⊎ LeftOut layout lane line top row

-- rows in which a lane begins
pub record Begins (layout : Layout) (lane : ℕ) (line : Line) (rows : List Row) : Type 0 where
  pub before : List Row
  pub top : Row
  pub more : List Row
  pub rows_are : rows ≡ before ++ (top ∷ more)
  pub gaps : AllByRecursion (Shows layout lane Space) before
  pub top_corner : Shows layout lane TopCorner top
  pub goes_on : AllByRecursion (GoesOn layout lane line top) more

-- rows in which a lane from above ends
pub record Finishes (layout : Layout) (lane : ℕ) (rows : List Row) : Type 0 where
  pub before : List Row
  pub bottom : Row
  pub after : List Row
  pub rows_are : rows ≡ before ++ (bottom ∷ after)
  pub bars : AllByRecursion (Shows layout lane Bar) before
  pub bottom_corner : Shows layout lane BottomCorner bottom
  pub gaps : AllByRecursion (Shows layout lane Space) after

-- rows with the whole lane
pub record Whole (layout : Layout) (lane : ℕ) (line : Line) (rows : List Row) : Type 0 where
  pub before : List Row
  pub top : Row
  pub middle : List Row
  pub bottom : Row
  pub after : List Row
  pub rows_are : rows ≡ before ++ (top ∷ (middle ++ (bottom ∷ after)))
  pub gaps_before : AllByRecursion (Shows layout lane Space) before
  pub top_corner : Shows layout lane TopCorner top
  pub goes_on : AllByRecursion (GoesOn layout lane line top) middle
  pub bottom_corner : Shows layout lane BottomCorner bottom
  pub gaps_after : AllByRecursion (Shows layout lane Space) after

pub finishes_later : (layout : Layout) (lane : ℕ) (xs ys : List Row)
    → AllByRecursion (Shows layout lane Bar) xs → Finishes layout lane ys
    → Finishes layout lane (xs ++ ys)
finishes_later layout lane xs ys bars r = record {
  before = xs ++ r.before;
  bottom = r.bottom;
  after = r.after;
  rows_are = ap (λ t. xs ++ t) r.rows_are
      ∙ sym (append_assoc xs r.before (r.bottom ∷ r.after));
  bars = all-append (Shows layout lane Bar) xs r.before bars r.bars;
  bottom_corner = r.bottom_corner;
  gaps = r.gaps;
}

pub finishes_before : (layout : Layout) (lane : ℕ) (xs ys : List Row) → Finishes layout lane xs
    → AllByRecursion (Shows layout lane Space) ys → Finishes layout lane (xs ++ ys)
finishes_before layout lane xs ys r gaps = record {
  before = r.before;
  bottom = r.bottom;
  after = r.after ++ ys;
  rows_are = ap (λ t. t ++ ys) r.rows_are ∙ append_assoc r.before (r.bottom ∷ r.after) ys;
  bars = r.bars;
  bottom_corner = r.bottom_corner;
  gaps = all-append (Shows layout lane Space) r.after ys r.gaps gaps;
}

pub whole_later : (layout : Layout) (lane : ℕ) (line : Line) (xs ys : List Row)
    → AllByRecursion (Shows layout lane Space) xs → Whole layout lane line ys
    → Whole layout lane line (xs ++ ys)
whole_later layout lane line xs ys gaps r = record {
  before = xs ++ r.before;
  top = r.top;
  middle = r.middle;
  bottom = r.bottom;
  after = r.after;
  rows_are =
      ap (λ t. xs ++ t) r.rows_are
      ∙ sym (append_assoc xs r.before (r.top ∷ (r.middle ++ (r.bottom ∷ r.after))));
  gaps_before = all-append (Shows layout lane Space) xs r.before gaps r.gaps_before;
  top_corner = r.top_corner;
  goes_on = r.goes_on;
  bottom_corner = r.bottom_corner;
  gaps_after = r.gaps_after;
}

pub whole_before : (layout : Layout) (lane : ℕ) (line : Line) (xs ys : List Row)
    → Whole layout lane line xs → AllByRecursion (Shows layout lane Space) ys
    → Whole layout lane line (xs ++ ys)
whole_before layout lane line xs ys r gaps = record {
  before = r.before;
  top = r.top;
  middle = r.middle;
  bottom = r.bottom;
  after = r.after ++ ys;
  rows_are = ap (λ t. t ++ ys) r.rows_are
      ∙ append_assoc r.before (r.top ∷ (r.middle ++ (r.bottom ∷ r.after))) ys
      ∙ ap (λ t. r.before ++ (r.top ∷ t)) (append_assoc r.middle (r.bottom ∷ r.after) ys);
  gaps_before = r.gaps_before;
  top_corner = r.top_corner;
  goes_on = r.goes_on;
  bottom_corner = r.bottom_corner;
  gaps_after = all-append (Shows layout lane Space) r.after ys r.gaps_after gaps;
}

pub whole_joined : (layout : Layout) (lane : ℕ) (line : Line) (xs ys : List Row)
    → Begins layout lane line xs → Finishes layout lane ys → Whole layout lane line (xs ++ ys)
whole_joined layout lane line xs ys b r = record {
  before = b.before;
  top = b.top;
  middle = b.more ++ r.before;
  bottom = r.bottom;
  after = r.after;
  rows_are =
      ap₂ (λ s t. s ++ t) b.rows_are r.rows_are
      ∙ append_assoc b.before (b.top ∷ b.more) (r.before ++ (r.bottom ∷ r.after))
      ∙ ap (λ t. b.before ++ (b.top ∷ t))
      (sym (append_assoc b.more r.before (r.bottom ∷ r.after)));
  gaps_before = b.gaps;
  top_corner = b.top_corner;
  goes_on = all-append (GoesOn layout lane line b.top) b.more r.before b.goes_on
      (all-weaker (Shows layout lane Bar) (GoesOn layout lane line b.top) (λ row h. inl h) r.before
      r.bars);
  bottom_corner = r.bottom_corner;
  gaps_after = r.gaps;
}

-- ---- the same by indices

pub one_line : (layout : Layout) (s : LabeledFileModel) (rows : List Row) (lane : ℕ)
    (x : LabelModel)
    → Whole layout lane (line_at s (first_line s.file x)) rows
    → IsCornerToCorner layout s rows lane x
one_line layout s rows lane x w = record {
  top = at_top;
  bottom = at_bottom;
  in_order = omega arith;
  top_corner = ap show top_is ∙ ap Some w.top_corner;
  bottom_corner = ap show bottom_is ∙ ap Some w.bottom_corner;
  between = λ k low high.
      let j : ℕ = k - at_top - 1 in
      let r = each_at (GoesOn layout lane line w.top) w.middle j w.goes_on (omega arith) in
      let is : slice_get rows k ≡ Some r.0 = ap (λ t. slice_get t k) w.rows_are
      ∙ get_right w.before (w.top ∷ below) k (suc j) (omega arith)
      ∙ get_left w.middle (w.bottom ∷ w.after) j (omega arith) ∙ r.1.0
      in
      by_kind k r.0 is r.1.1;
  before = λ k low.
      let r = each_at (Shows layout lane Space) w.before k w.gaps_before low in
      ap (λ t. show (slice_get t k)) w.rows_are
      ∙ ap show (get_left w.before (w.top ∷ below) k low ∙ r.1.0) ∙ ap Some r.1.1;
  after = λ k low high.
      let j : ℕ = k - at_bottom - 1 in
      let r = each_at (Shows layout lane Space) w.after j w.gaps_after (omega (arith, long)) in
      let is : slice_get rows k ≡ Some r.0 = ap (λ t. slice_get t k) w.rows_are
      ∙ get_right w.before (w.top ∷ below) k (suc (length w.middle + suc j)) (omega arith)
      ∙ get_right w.middle (w.bottom ∷ w.after) (length w.middle + suc j) (suc j) refl ∙ r.1.0
      in
      ap show is ∙ ap Some r.1.1;
}
  where
    line : Line
    line = line_at s (first_line s.file x)

    below : List Row
    below = w.middle ++ (w.bottom ∷ w.after)

    show : Option Row → Option Shape
    show r = option_map (λ row. shape_in layout row lane) r

    at_top : ℕ
    at_top = length w.before

    at_bottom : ℕ
    at_bottom = length w.before + suc (length w.middle)

    top_is : slice_get rows at_top ≡ Some w.top
    top_is = ap (λ t. slice_get t at_top) w.rows_are
        ∙ get_right w.before (w.top ∷ below) at_top 0
        (omega arith)

    bottom_is : slice_get rows at_bottom ≡ Some w.bottom
    bottom_is =
        ap (λ t. slice_get t at_bottom) w.rows_are
        ∙ get_right w.before (w.top ∷ below) at_bottom (suc (length w.middle)) refl
        ∙ get_right w.middle (w.bottom ∷ w.after) (length w.middle) 0 (omega arith)

    long : length rows ≡ at_bottom + suc (length w.after)
    long =
        ap length w.rows_are
        ∙ omega (
          arith,
          length-append w.before (w.top ∷ below),
          length-append w.middle
              (w.bottom ∷ w.after),
        )

    by_kind : (k : ℕ) (row : Row) → slice_get rows k ≡ Some row
        → GoesOn layout lane line w.top row
        → (shape_at layout rows k lane ≡ Some Bar) ⊎ MayLeaveOut layout s rows lane x at_top k
    by_kind k row is (inl bar) = inl (ap show is ∙ ap Some bar)
    by_kind k row is (inr out) = inr (record {
      is_classic = out.is_classic;
      shows_space = ap show is ∙ ap Some out.shows_space;
      begins_in_source_row = top_is ∙ ap Some out.begins_in_source_row;
      is_of_line = λ other other_is. let same : row ≡ other = cc in
          ap line_of_row (sym same) ∙ out.is_of_line;
    })
