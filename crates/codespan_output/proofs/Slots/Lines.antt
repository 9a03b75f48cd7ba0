-- For `messages_appear_once`: sums over the rows of a line, for the slots of each label's message.
use Rattle.codespan_core.proofs.Std.{◌≡◌, ℕ, ◌+◌, ◌-◌, Bool, true, false, not, cond}
use Rattle.codespan_core.proofs.Std.{◌&&◌, ◌==◌, nat_lt, List, [], ◌∷◌, ◌++◌, map}
use Rattle.codespan_core.proofs.Std.{filter, filter_map, reverse, Option, Some, None, refl, sym, ap}
use Rattle.codespan_core.proofs.Std.{◌∙◌, arith, sum_by, flat_map, enumerate_from}
use Rattle.codespan_core.proofs.Std.{cons_option, nat_tests, sum_by-cons, sum_by-append}
use Rattle.codespan_core.proofs.Std.{sum_by-IsPermutation, if◌then◌else◌}
use Rattle.std.proofs.lemmas.List.Sorted.{IsPermutation-reverse}
use Rattle.codespan_core.specs.FileModel.{FileModel, line_start}
use Rattle.codespan_core.specs.Streams.{Stream}
use Rattle.codespan_core.specs.Labels.{LabelModel, has_message, is_empty, LaneMark, MultiLabel, Top}
use Rattle.codespan_core.specs.Labels.{Left, Bottom, first_line, last_line, is_single, drawn_label}
use Rattle.codespan_core.specs.Labels.{multi_line_labels, range_precedes, insert_sorted, sorted}
use Rattle.codespan_core.specs.Labels.{single_labels, multi_label_on, lane_mark_of}
use Rattle.codespan_output.specs.{leading_whitespace, Line, SourceRow, CaretRow, PointerRow}
use Rattle.codespan_output.specs.{HangingRow, UnderlineRow, trailing_label, hanging_labels}
use Rattle.codespan_output.specs.{has_underline, rows_of, LabeledFileModel, line_at}
use Rattle.codespan_output.proofs.Messages.TrailOrHang.{trailing_and_hanging, weight_of}
use Rattle.codespan_output.proofs.Slots.Rows.{multi_label_slots, row_slots}
use Rattle.codespan_output.proofs.Slots.Parts.{slots, slots-nil}
use Rattle.codespan_output.specs.Private.{caret_rows, pointer_and_hanging_rows, underline_rows}

-- ---- sums

pub sum-ext : {X : Type 0} (f g : X → ℕ) → ((x : X) → f x ≡ g x) → (xs : List X)
    → sum_by f xs ≡ sum_by g xs
sum-ext f g h [] = refl
sum-ext f g h (x ∷ xs) =
    omega (arith, sum_by-cons f x xs, sum_by-cons g x xs, h x, sum-ext f g h xs)

pub sum-zero : {X : Type 0} (f : X → ℕ) → ((x : X) → f x ≡ 0) → (xs : List X)
    → sum_by f xs ≡ 0
sum-zero f h [] = refl
sum-zero f h (x ∷ xs) = omega (arith, sum_by-cons f x xs, h x, sum-zero f h xs)

pub sum-add : {X : Type 0} (f g : X → ℕ) (xs : List X)
    → sum_by (λ x. f x + g x) xs ≡ sum_by f xs + sum_by g xs
sum-add f g [] = refl
sum-add f g (x ∷ xs) =
    omega (
      arith,
      sum_by-cons (λ x. f x + g x) x xs,
      sum_by-cons f x xs,
      sum_by-cons g x xs,
      sum-add f g xs,
    )

pub sum-map : {X Y : Type 0} (g : Y → ℕ) (f : X → Y) (xs : List X)
    → sum_by g (map f xs) ≡ sum_by (λ x. g (f x)) xs
sum-map g f [] = refl
sum-map g f (x ∷ xs) =
    omega (arith, sum_by-cons g (f x) (map f xs), sum_by-cons (λ x. g (f x)) x xs, sum-map g f xs)

pub sum-filter : {X : Type 0} (g : X → ℕ) (p : X → Bool) (xs : List X)
    → sum_by g (filter p xs) ≡ sum_by (λ x. cond (p x) (g x) 0) xs
sum-filter g p [] = refl
sum-filter g p (x ∷ xs) = by_test (sum-filter g p xs) (p x) refl
  where
    by_test : sum_by g (filter p xs) ≡ sum_by (λ x. cond (p x) (g x) 0) xs → (b : Bool)
        → p x ≡ b
        → sum_by g (cond b (x ∷ filter p xs) (filter p xs))
        ≡ sum_by (λ x. cond (p x) (g x) 0)
        (x ∷ xs)
    by_test rest true is =
        let e = ap {B = ℕ} (λ b. cond b (g x) 0) is in
        omega (
          arith,
          rest,
          e,
          sum_by-cons g x (filter p xs),
          sum_by-cons (λ x. cond (p x) (g x) 0) x xs,
        )
    by_test rest false is =
        let e = ap {B = ℕ} (λ b. cond b (g x) 0) is in
        omega (arith, rest, e, sum_by-cons (λ x. cond (p x) (g x) 0) x xs)

-- a filter does not change the sum where all that it drops counts 0
pub sum-filter_free : {X : Type 0} (g : X → ℕ) (p : X → Bool)
    → ((x : X) → p x ≡ false → g x ≡ 0)
    → (xs : List X) → sum_by g (filter p xs) ≡ sum_by g xs
sum-filter_free g p h xs =
    sum-filter g p xs ∙ sum-ext (λ x. cond (p x) (g x) 0) g (λ x. one (p x) (g x) (h x)) xs
  where
    one : (b : Bool) (n : ℕ) → (b ≡ false → n ≡ 0) → cond b n 0 ≡ n
    one true n h = refl
    one false n h = sym (h refl)

pub sum-reverse : {X : Type 0} (g : X → ℕ) (xs : List X)
    → sum_by g (reverse xs) ≡ sum_by g xs
sum-reverse g xs = sum_by-IsPermutation g xs (reverse xs) (IsPermutation-reverse xs)

pub sum-flat_map_zero : {X Y : Type 0} (g : Y → ℕ) (f : X → List Y)
    → ((x : X) → sum_by g (f x) ≡ 0)
    → (xs : List X) → sum_by g (flat_map f xs) ≡ 0
sum-flat_map_zero g f h [] = refl
sum-flat_map_zero g f h (x ∷ xs) =
    omega (arith, sum_by-append g (f x) (flat_map f xs), h x, sum-flat_map_zero g f h xs)

pub sum-swap : {X Y : Type 0} (f : X → Y → ℕ) (xs : List X) (ys : List Y)
    → sum_by (λ x. sum_by (f x) ys) xs ≡ sum_by (λ y. sum_by (λ x. f x y) xs) ys
sum-swap f xs [] = sum-zero (λ x. 0) (λ x. refl) xs
sum-swap f xs (y ∷ ys) =
    omega (
      arith,
      sum-ext (λ x. sum_by (f x) (y ∷ ys)) (λ x. f x y + sum_by (f x) ys)
          (λ x. sum_by-cons (f x) y ys) xs,
      sum-add (λ x. f x y) (λ x. sum_by (f x) ys) xs,
      sum-swap f xs ys,
      sum_by-cons (λ y. sum_by (λ x. f x y) xs) y ys,
    )

-- ---- the rows of a line

abbrev pub label_slots : ℕ → LabelModel → ℕ
label_slots k x = slots k x.message

abbrev pub lane_mark_slots : ℕ → LaneMark → ℕ
lane_mark_slots k m = multi_label_slots k m.multi_label

pub no_message : (k : ℕ) (x : LabelModel) → has_message x ≡ false → label_slots k x ≡ 0
no_message k x h = by_stream x.message h
  where
    by_stream : (s : Stream) → not (is_empty s) ≡ false → slots k s ≡ 0
    by_stream [] h = slots-nil k
    by_stream (p ∷ ps) h = cc

caret_sum : (k : ℕ) (line : Line) (labels : List LabelModel) → line.labels ≡ labels
    → sum_by (row_slots k) (caret_rows line labels) ≡ weight_of (label_slots k)
    (trailing_label labels)
caret_sum k line [] h = refl
caret_sum k line (x ∷ xs) h =
    let e = ap {B = ℕ} (λ ls. weight_of (label_slots k) (trailing_label ls)) h in
    omega (arith, e, sum_by-cons (row_slots k) (CaretRow line) [])

hanging_sum : (k : ℕ) (line : Line) (labels : List LabelModel)
    → sum_by (row_slots k) (pointer_and_hanging_rows line labels)
    ≡ sum_by (label_slots k) labels
hanging_sum k line [] = refl
hanging_sum k line (x ∷ xs) =
    omega (
      arith,
      sum_by-cons (row_slots k) (PointerRow line) (map (HangingRow line) (reverse (x ∷ xs))),
      sum-map (row_slots k) (HangingRow line) (reverse (x ∷ xs)),
      sum-reverse (label_slots k) (x ∷ xs),
    )

no_underline : (k : ℕ) (leading : ℕ) (multi_label : MultiLabel)
    → has_underline leading multi_label ≡ false → multi_label_slots k multi_label ≡ 0
no_underline k leading (Top start) h = refl
no_underline k leading Left h = refl
no_underline k leading (Bottom end message) h = cc

underline_sum : (k : ℕ) (line : Line)
    → sum_by (row_slots k) (underline_rows line)
    ≡ sum_by (lane_mark_slots k) line.lanes.lane_marks
underline_sum k line =
    sum-map (row_slots k) (UnderlineRow line)
    (filter (λ (m : LaneMark). has_underline (leading_whitespace line.text) m.multi_label)
    line.lanes.lane_marks)
    ∙ sum-filter_free (lane_mark_slots k)
    (λ (m : LaneMark). has_underline (leading_whitespace line.text) m.multi_label)
    (λ m. no_underline k (leading_whitespace line.text) m.multi_label) line.lanes.lane_marks

line_sum : (k : ℕ) (line : Line)
    → sum_by (row_slots k) (rows_of line) ≡ sum_by (label_slots k) line.labels + sum_by
    (lane_mark_slots k) line.lanes.lane_marks
line_sum k line =
    omega (
      arith,
      sum_by-append (row_slots k) ((SourceRow line ∷ caret_rows line line.labels)
          ++ pointer_and_hanging_rows line (hanging_labels line.labels))
          (underline_rows line),
      sum_by-append (row_slots k) (SourceRow line ∷ caret_rows line line.labels)
          (pointer_and_hanging_rows line (hanging_labels line.labels)),
      sum_by-cons (row_slots k) (SourceRow line) (caret_rows line line.labels),
      caret_sum k line line.labels refl,
      hanging_sum k line (hanging_labels line.labels),
      underline_sum k line,
      trailing_and_hanging (label_slots k) (no_message k) line.labels,
    )

-- ---- the labels of a line

pub sum-insert_sorted : (g : LabelModel → ℕ) (x : LabelModel) (ys : List LabelModel)
    → sum_by g (insert_sorted x ys) ≡ g x + sum_by g ys
sum-insert_sorted g x [] = omega (arith, sum_by-cons g x [])
sum-insert_sorted g x (y ∷ ys) = by_test (sum-insert_sorted g x ys) (range_precedes y x)
  where
    by_test : sum_by g (insert_sorted x ys) ≡ g x + sum_by g ys → (b : Bool)
        → sum_by g (if b then y ∷ insert_sorted x ys else x ∷ y ∷ ys)
        ≡ g x + sum_by g (y ∷ ys)
    by_test rest true =
        omega (arith, rest, sum_by-cons g y (insert_sorted x ys), sum_by-cons g y ys)
    by_test rest false = sum_by-cons g x (y ∷ ys)

pub sum-sorted : (g : LabelModel → ℕ) (xs : List LabelModel)
    → sum_by g (sorted xs) ≡ sum_by g xs
sum-sorted g [] = refl
sum-sorted g (x ∷ xs) =
    omega (arith, sum-insert_sorted g x (sorted xs), sum-sorted g xs, sum_by-cons g x xs)

abbrev pub is_here : FileModel → ℕ → LabelModel → Bool
is_here f l x = is_single f x && (first_line f x == l)

single_sum : (k : ℕ) (f : FileModel) (xs : List LabelModel) (l : ℕ)
    → sum_by (label_slots k) (single_labels f xs l) ≡ sum_by
    (λ x. cond (is_here f l x) (label_slots k x) 0) xs
single_sum k f xs l =
    sum-sorted (label_slots k) (reverse (map (drawn_label f) (filter (is_here f l) xs)))
    ∙ sum-reverse (label_slots k) (map (drawn_label f) (filter (is_here f l) xs))
    ∙ sum-map (label_slots k) (drawn_label f) (filter (is_here f l) xs)
    ∙ sum-filter (label_slots k) (is_here f l) xs

abbrev pub any_multi_label_slots : ℕ → Option MultiLabel → ℕ
any_multi_label_slots k None = 0
any_multi_label_slots k (Some multi_label) = multi_label_slots k multi_label

cons_lane_mark : (k n : ℕ) (x : LabelModel) (multi_label : Option MultiLabel) (ms : List LaneMark)
    → sum_by (lane_mark_slots k)
    (cons_option (lane_mark_of n x multi_label) ms) ≡ any_multi_label_slots k multi_label
    + sum_by (lane_mark_slots k) ms
cons_lane_mark k n x None ms = omega arith
cons_lane_mark k n x (Some multi_label) ms =
    sum_by-cons (lane_mark_slots k)
    (record { lane = n; style = x.style; multi_label = multi_label }) ms

lane_mark_sum : (k : ℕ) (f : FileModel) (l n : ℕ) (xs : List LabelModel)
    → sum_by (lane_mark_slots k)
    (filter_map
    (λ (entry : ℕ × LabelModel). lane_mark_of entry.0 entry.1 (multi_label_on f l entry.1))
    (enumerate_from n xs))
    ≡ sum_by (λ x. any_multi_label_slots k (multi_label_on f l x)) xs
lane_mark_sum k f l n [] = refl
lane_mark_sum k f l n (x ∷ xs) =
    omega (
      arith,
      cons_lane_mark k n x (multi_label_on f l x) (filter_map
          (λ (entry : ℕ × LabelModel). lane_mark_of entry.0 entry.1
          (multi_label_on f l entry.1))
          (enumerate_from (n + 1) xs)),
      lane_mark_sum k f l (n + 1) xs,
      sum_by-cons (λ x. any_multi_label_slots k (multi_label_on f l x)) x xs,
    )

-- a label counts the slots of its message on its last line
abbrev pub on_line : ℕ → FileModel → ℕ → LabelModel → ℕ
on_line k f l x = cond (last_line f x == l) (label_slots k x) 0

last_is : (k : ℕ) (a b l top end : ℕ) (message : Stream) (between : Bool) (p q r : Bool)
    → (a == b) ≡ p → (a == l) ≡ q → (b == l) ≡ r
    → cond (p && q) (slots k message) 0
    + cond (not p)
    (any_multi_label_slots k
    (if q then Some (Top top) else if r then Some (Bottom end message)
    else if between then Some Left else None))
    0
    ≡ cond r (slots k message) 0
last_is k a b l top end message between true true true h i j = omega arith
last_is k a b l top end message between true true false h i j = absurd (grind (arith, nat_tests))
last_is k a b l top end message between true false true h i j = absurd (grind (arith, nat_tests))
last_is k a b l top end message between true false false h i j = refl
last_is k a b l top end message between false true true h i j = absurd (grind (arith, nat_tests))
last_is k a b l top end message between false true false h i j = refl
last_is k a b l top end message between false false true h i j = omega arith
last_is k a b l top end message true false false false h i j = refl
last_is k a b l top end message false false false false h i j = refl

here_or_lane_mark : (k : ℕ) (f : FileModel) (l : ℕ) (x : LabelModel)
    → cond (is_here f l x) (label_slots k x) 0 + cond (not (is_single f x))
    (any_multi_label_slots k (multi_label_on f l x)) 0 ≡ on_line k f l x
here_or_lane_mark k f l x =
    last_is k (first_line f x) (last_line f x) l (x.start - line_start f l) (x.end - line_start f l)
    x.message (nat_lt (first_line f x) l && nat_lt l (last_line f x))
    (first_line f x == last_line f x) (first_line f x == l) (last_line f x == l) refl refl refl

pub labels_on_line : (k : ℕ) (s : LabeledFileModel) (l : ℕ)
    → sum_by (row_slots k) (rows_of (line_at s l)) ≡ sum_by (on_line k s.file l) s.labels
labels_on_line k s l =
    omega (
      arith,
      line_sum k (line_at s l),
      single_sum k s.file s.labels l,
      lane_mark_sum k s.file l 0 (multi_line_labels s.file s.labels),
      sum-filter (λ x. any_multi_label_slots k (multi_label_on s.file l x))
          (λ x. not (is_single s.file x)) s.labels,
      sum-add (λ x. cond (is_here s.file l x) (label_slots k x) 0)
          (λ x. cond (not (is_single s.file x))
          (any_multi_label_slots k (multi_label_on s.file l x)) 0)
          s.labels,
      sum-ext (λ x. cond (is_here s.file l x) (label_slots k x) 0
          + cond (not (is_single s.file x)) (any_multi_label_slots k (multi_label_on s.file l x)) 0)
          (on_line k s.file l)
          (here_or_lane_mark k s.file l) s.labels,
    )
