-- For `inner_gutter`: a cursor over lane marks in order finds the lane mark of each lane.
use Rattle.codespan_core.proofs.Std.{◌≡◌, ℕ, suc, zero, ◌+◌, ◌-◌, ◌<◌}
use Rattle.codespan_core.proofs.Std.{◌≤◌, Bool, true, false, cond, eqb, leb, ltb, ◌&&◌}
use Rattle.codespan_core.proofs.Std.{List, [], ◌∷◌, ◌++◌, map, length, get_or, drop, None}
use Rattle.codespan_core.proofs.Std.{Some, refl, sym, ap, ◌∙◌, arith, add-one, drop-cons, max}
use Rattle.codespan_core.proofs.Std.{IsTrue, flat_map, range_with_len, option_map, ne_eqb, eq-eqb}
use Rattle.codespan_core.proofs.Std.{eqb-true, le-leb, nat_tests, common_steps, append_assoc}
use Rattle.codespan_core.proofs.Std.{false≢true}
use Rattle.codespan_core.specs.Streams.{Stream, spaces, byte_stream}
use Rattle.codespan_output.specs.declared.rows.lanes.LaneRowKind.{LaneRowKind as RustLaneRowKind}
use Rattle.codespan_output.specs.{LaneMarkTuple, lane_mark_view, lanes_of, lanes_in_order}
use Rattle.codespan_output.specs.{ascend_from, crossing_characters, lane_characters, lane_mark_in}
use Rattle.codespan_output.specs.{row_shape, row_crossing, RowContext, inner_gutter}
use Rattle.codespan_output.specs.Private.{row_lane_stream, row_lanes_stream, lane_row_kind_view}
use Rattle.codespan_output.specs.Private.{lane_mark_here, lane_marks_after, inner_gutter_column}
use Rattle.codespan_output.specs.Rows.{Lanes}
use Rattle.codespan_output.proofs.Outputs.RowEquations.{spaces-add}

-- ---- the first of the remaining lane marks

pub here-is : (lane_marks : List LaneMarkTuple) (next lane : ℕ) (d : LaneMarkTuple)
    → next < length lane_marks → (get_or lane_marks next d).0 ≡ lane
    → lane_mark_here (drop next lane_marks) lane ≡ Some (get_or lane_marks next d)
here-is lane_marks next lane d h e =
    rw (drop-cons lane_marks next d h, eq-eqb (get_or lane_marks next d).0 lane e) refl

pub after-here : (lane_marks : List LaneMarkTuple) (next lane : ℕ) (d : LaneMarkTuple)
    → next < length lane_marks → (get_or lane_marks next d).0 ≡ lane
    → drop (next + 1) lane_marks ≡ lane_marks_after (drop next lane_marks) lane
after-here lane_marks next lane d h e =
    rw (drop-cons lane_marks next d h, eq-eqb (get_or lane_marks next d).0 lane e, add-one) refl

pub later-is : (lane_marks : List LaneMarkTuple) (next lane : ℕ) (d : LaneMarkTuple)
    → next < length lane_marks → ((get_or lane_marks next d).0 ≡ lane → ⊥)
    → lane_mark_here (drop next lane_marks) lane ≡ None
later-is lane_marks next lane d h e =
    rw (drop-cons lane_marks next d h, ne_eqb (get_or lane_marks next d).0 lane e) refl

pub after-later : (lane_marks : List LaneMarkTuple) (next lane : ℕ) (d : LaneMarkTuple)
    → next < length lane_marks → ((get_or lane_marks next d).0 ≡ lane → ⊥)
    → drop next lane_marks ≡ lane_marks_after (drop next lane_marks) lane
after-later lane_marks next lane d h e =
    rw (drop-cons lane_marks next d h, ne_eqb (get_or lane_marks next d).0 lane e) refl

pub none-is : (lane_marks : List LaneMarkTuple) (next lane : ℕ) → length lane_marks ≤ next
    → lane_mark_here (drop next lane_marks) lane ≡ None
none-is lane_marks next lane h = let e : drop next lane_marks
    ≡ [] = grind (arith, common_steps) in
    rw e refl

pub after-none : (lane_marks : List LaneMarkTuple) (next lane : ℕ) → length lane_marks ≤ next
    → drop next lane_marks ≡ lane_marks_after (drop next lane_marks) lane
after-none lane_marks next lane h =
    let e : drop next lane_marks ≡ [] = grind (arith, common_steps) in
    rw e refl

pub ruleset taking = (here-is, after-here, later-is, after-later, none-is, after-none)

-- ---- lane marks in order

and_left : (a b : Bool) → (a && b) ≡ true → a ≡ true
and_left true b h = refl
and_left false b h = h

and_right : (a b : Bool) → (a && b) ≡ true → b ≡ true
and_right true b h = h
and_right false b h = absurd (false≢true h)

-- the first of lane marks in order
record IsFirst (count from : ℕ) (m : LaneMarkTuple) (ms : List LaneMarkTuple) : Type 0 where
  above : from ≤ m.0
  after : IsTrue (ascend_from count (m.0 + 1) (map lane_mark_view ms))

first : (count from : ℕ) (m : LaneMarkTuple) (ms : List LaneMarkTuple)
    → IsTrue (ascend_from count from (map lane_mark_view (m ∷ ms))) → IsFirst count from m ms
first count from m ms h =
    let both : (leb from m.0 && ltb m.0 count) ≡ true = and_left (leb from m.0 && ltb m.0 count)
    (ascend_from count (m.0 + 1) (map lane_mark_view ms)) h in
    let a : leb from m.0 ≡ true = and_left (leb from m.0) (ltb m.0 count) both in
    record {
      above =
          grind (arith, nat_tests);
      after =
          and_right (leb from m.0 && ltb m.0 count)
          (ascend_from count (m.0 + 1) (map lane_mark_view ms)) h;
    }

none_below : (count from : ℕ) (ms : List LaneMarkTuple) (lane : ℕ)
    → IsTrue (ascend_from count from (map lane_mark_view ms)) → lane < from
    → lane_mark_in (map lane_mark_view ms) lane ≡ None
none_below count from [] lane h k = refl
none_below count from (m ∷ ms) lane h k =
    let f : IsFirst count from m ms = first count from m ms h in
    let e : eqb m.0 lane ≡ false = ne_eqb m.0 lane (λ e. omega (arith, e, f.above)) in
    rw e (none_below count (m.0 + 1) ms lane f.after (omega (arith, f.above)))

-- at a lane the cursor finds its lane mark
here-cons : (count lane : ℕ) (m : LaneMarkTuple) (ms : List LaneMarkTuple) (b : Bool)
    → eqb m.0 lane ≡ b → IsTrue (ascend_from count lane (map lane_mark_view (m ∷ ms)))
    → lane_mark_in (map lane_mark_view (m ∷ ms)) lane ≡ option_map lane_mark_view
    (lane_mark_here (m ∷ ms) lane)
here-cons count lane m ms true e h = rw e refl
here-cons count lane m ms false e h =
    let f : IsFirst count lane m ms = first count lane m ms h in
    rw e (none_below count (m.0 + 1) ms lane f.after (omega (arith, f.above)))

here : (count lane : ℕ) (lane_marks : List LaneMarkTuple)
    → IsTrue (ascend_from count lane (map lane_mark_view lane_marks))
    → lane_mark_in (map lane_mark_view lane_marks) lane ≡ option_map lane_mark_view
    (lane_mark_here lane_marks lane)
here count lane [] h = refl
here count lane (m ∷ ms) h = here-cons count lane m ms _ refl h

-- the lane marks that remain agree with those of later lanes
left-cons : (count lane : ℕ) (m : LaneMarkTuple) (ms : List LaneMarkTuple) (k : ℕ) (b : Bool)
    → eqb m.0 lane ≡ b → lane < k
    → lane_mark_in (map lane_mark_view (m ∷ ms)) k ≡ lane_mark_in
    (map lane_mark_view (lane_marks_after (m ∷ ms) lane)) k
left-cons count lane m ms k true e h =
    let same : m.0 ≡ lane = eqb-true m.0 lane e in
    let other : eqb m.0 k ≡ false = ne_eqb m.0 k (λ x. omega (arith, x, same)) in
    rw (e, other) refl
left-cons count lane m ms k false e h = rw e refl

left : (count lane : ℕ) (lane_marks : List LaneMarkTuple) (k : ℕ) → lane < k
    → lane_mark_in (map lane_mark_view lane_marks) k ≡ lane_mark_in
    (map lane_mark_view (lane_marks_after lane_marks lane)) k
left count lane [] k h = refl
left count lane (m ∷ ms) k h = left-cons count lane m ms k _ refl h

-- and they are in order
order-cons : (count lane : ℕ) (m : LaneMarkTuple) (ms : List LaneMarkTuple) (b : Bool)
    → eqb m.0 lane ≡ b → IsTrue (ascend_from count lane (map lane_mark_view (m ∷ ms)))
    → IsTrue
    (ascend_from count (lane + 1) (map lane_mark_view (lane_marks_after (m ∷ ms) lane)))
order-cons count lane m ms true e h =
    let f : IsFirst count lane m ms = first count lane m ms h in
    rw (e, sym (eqb-true m.0 lane e)) f.after
order-cons count lane m ms false e h =
    let f : IsFirst count lane m ms = first count lane m ms h in
    let more : lane + 1 ≤ m.0 = grind (arith, nat_tests, e, f.above) in
    let low : leb (lane + 1) m.0 ≡ true = le-leb (lane + 1) m.0 more in
    let high : ltb m.0 count ≡ true = and_right (leb lane m.0) (ltb m.0 count)
    (and_left (leb lane m.0 && ltb m.0 count)
    (ascend_from count (m.0 + 1) (map lane_mark_view ms)) h) in
    rw (e, low, high) f.after

order : (count lane : ℕ) (lane_marks : List LaneMarkTuple)
    → IsTrue (ascend_from count lane (map lane_mark_view lane_marks))
    → IsTrue
    (ascend_from count (lane + 1) (map lane_mark_view (lane_marks_after lane_marks lane)))
order count lane [] h = refl
order count lane (m ∷ ms) h = order-cons count lane m ms _ refl h

-- ---- the cursor

-- a number of lanes from this one on, each with the lane mark that the cursor finds
abbrev pub cursor : RowContext → ℕ → RustLaneRowKind → ℕ → ℕ → List LaneMarkTuple
    → Stream
cursor context leading row lane zero lane_marks = []
cursor context leading row lane (suc n) lane_marks =
    row_lane_stream context leading row lane (lane_mark_here lane_marks lane)
    ++ cursor context leading row (lane + 1) n (lane_marks_after lane_marks lane)

pub cursor-next : (context : RowContext) (leading : ℕ) (row : RustLaneRowKind) (i n : ℕ)
    (lane_marks : List LaneMarkTuple)
    → i < n
    → cursor context leading row i (n - i) lane_marks ≡ row_lane_stream context leading row i
    (lane_mark_here lane_marks i)
    ++ cursor context leading row (i + 1) (n - (i + 1)) (lane_marks_after lane_marks i)
cursor-next context leading row i n lane_marks h =
    let e : n - i ≡ suc (n - (i + 1)) = omega arith in
    rw e refl

pub cursor-end : (context : RowContext) (leading : ℕ) (row : RustLaneRowKind) (i n : ℕ)
    (lane_marks : List LaneMarkTuple)
    → n ≤ i → cursor context leading row i (n - i) lane_marks ≡ []
cursor-end context leading row i n lane_marks h = let e : n - i ≡ 0 = omega arith in rw e refl

-- a lane without a lane mark, and without a line through it, is spaces
empty-lane : (context : RowContext) (leading : ℕ) (row : RustLaneRowKind) (lane : ℕ)
    → row_crossing (lane_row_kind_view row) lane ≡ None
    → row_lane_stream context leading row lane None ≡ spaces 2
unfolding row_lane_stream lane_characters crossing_characters
empty-lane context leading row lane clear = rw clear refl

-- where no lane mark is taken all remain
left-all : (lane_marks : List LaneMarkTuple) (lane : ℕ)
    → lane_mark_here lane_marks lane ≡ None
    → lane_marks_after lane_marks lane ≡ lane_marks
left-all [] lane none = refl
left-all (m ∷ ms) lane none = by (eqb m.0 lane) none
  where
    by : (b : Bool) → cond b (Some m) None ≡ None → cond b ms (m ∷ ms) ≡ m ∷ ms
    by false h = refl
    by true h = cc

-- no empty lanes at the start
none-first : (s : Stream) → s ≡ spaces 0 ++ s
unfolding spaces byte_stream
none-first s = refl

-- the cursor goes past empty lanes
pub cursor-past : (context : RowContext) (leading : ℕ) (row : RustLaneRowKind)
    (lane_marks : List LaneMarkTuple) (n lane rest : ℕ)
    → ((k : ℕ) → lane ≤ k → k < lane + n
    → row_crossing (lane_row_kind_view row) k ≡ None)
    → ((k : ℕ) → lane ≤ k → k < lane + n → lane_mark_here lane_marks k ≡ None)
    → cursor context leading row lane (n + rest) lane_marks ≡ spaces (n + n) ++ cursor context
    leading row (lane + n) rest lane_marks
cursor-past context leading row lane_marks zero lane rest clear bare =
    let a : 0 + rest ≡ rest = omega arith in
    let b : lane + 0 ≡ lane = omega arith in
    (λ i. cursor context leading row (sym b i) (a i) lane_marks)
    ∙ none-first (cursor context leading row (lane + 0) rest lane_marks)
cursor-past context leading row lane_marks (suc n) lane rest clear bare =
    let a : suc n + rest ≡ suc (n + rest) = omega arith in
    let b : lane + 1 + n ≡ lane + suc n = omega arith in
    let two : 2 + (n + n) ≡ suc n + suc n = omega arith in
    let none : lane_mark_here lane_marks lane ≡ None = bare lane (omega arith) (omega arith) in
    ap (λ k. cursor context leading row lane k lane_marks) a
    ∙ (λ i. row_lane_stream context leading row lane (none i)
    ++ cursor context leading row (lane + 1) (n + rest) (left-all lane_marks lane none i))
    ∙ (λ i. empty-lane context leading row lane (clear lane (omega arith) (omega arith)) i
    ++ cursor-past context leading row lane_marks n (lane + 1) rest
    (λ k low high. clear k (omega arith) (omega arith))
    (λ k low high. bare k (omega arith) (omega arith)) i)
    ∙ sym
    (append_assoc (spaces 2) (spaces (n + n))
    (cursor context leading row (lane + 1 + n) rest lane_marks))
    ∙ (λ i. (sym (spaces-add 2 (n + n)) ∙ ap spaces two) i
    ++ cursor context leading row (b i) rest lane_marks)

-- the empty lanes up to that of the next lane mark are written at once
pub cursor-empty_lanes : (context : RowContext) (leading : ℕ) (row : RustLaneRowKind)
    (lane_marks : List LaneMarkTuple) (count lane until num_empty : ℕ)
    → lane < count → until ≤ count → lane + num_empty ≤ max lane until
    → ((k : ℕ) → lane ≤ k → k < lane + num_empty
    → row_crossing (lane_row_kind_view row) k ≡ None)
    → ((k : ℕ) → k < until → lane_mark_here lane_marks k ≡ None)
    → cursor context leading row lane (count - lane) lane_marks ≡ spaces (num_empty + num_empty)
    ++ cursor
    context leading row (lane + num_empty) (count - (lane + num_empty)) lane_marks
cursor-empty_lanes context leading row lane_marks count lane until num_empty inside high within
    clear bare =
    let e : count - lane ≡ num_empty + (count - (lane + num_empty)) = omega arith in
    ap (λ n. cursor context leading row lane n lane_marks) e
    ∙ cursor-past context leading row lane_marks num_empty lane (count - (lane + num_empty)) clear
    (λ k low below. bare k (omega arith))

cursor_is : (context : RowContext) (leading : ℕ) (row : RustLaneRowKind) (count : ℕ)
    (whole : Lanes)
    (lane n : ℕ) (lane_marks : List LaneMarkTuple)
    → ((k : ℕ) → lane ≤ k
    → lane_mark_in whole.lane_marks k ≡ lane_mark_in (map lane_mark_view lane_marks) k)
    → IsTrue (ascend_from count lane (map lane_mark_view lane_marks))
    → cursor context leading row lane n lane_marks
    ≡ flat_map
    (λ k. inner_gutter_column context (row_crossing (lane_row_kind_view row) k)
    (row_shape context.layout leading (lane_row_kind_view row) k) (lane_mark_in whole.lane_marks k))
    (range_with_len lane n)
unfolding row_lane_stream
cursor_is context leading row count whole lane zero lane_marks a h = refl
cursor_is context leading row count whole lane (suc n) lane_marks a h =
    let e : option_map lane_mark_view (lane_mark_here lane_marks lane)
    ≡ lane_mark_in whole.lane_marks lane =
    sym (a lane (omega arith) ∙ here count lane lane_marks h) in
    rw e
    (ap
    (λ (l : Stream). inner_gutter_column context (row_crossing (lane_row_kind_view row) lane)
    (row_shape context.layout leading (lane_row_kind_view row) lane)
    (lane_mark_in whole.lane_marks lane)
    ++ l)
    (cursor_is context leading row count whole (lane + 1) n (lane_marks_after lane_marks lane)
    (λ k b. a k (omega (arith, b)) ∙ left count lane lane_marks k (omega (arith, b)))
    (order count lane lane_marks h)))

-- over all lanes it is the lanes of the row
pub cursor-lanes : (context : RowContext) (leading : ℕ) (kind : RustLaneRowKind) (count : ℕ)
    (lane_marks : List LaneMarkTuple)
    → IsTrue (lanes_in_order count lane_marks)
    → cursor context leading kind 0 (count - 0) lane_marks
    ≡ row_lanes_stream context leading kind
    (lanes_of count lane_marks)
unfolding row_lanes_stream inner_gutter
cursor-lanes context leading kind count lane_marks h =
    let e : count - 0 ≡ count = omega arith in
    rw e
    (cursor_is context leading kind count (lanes_of count lane_marks) 0 count lane_marks
    (λ k b. refl) h)
