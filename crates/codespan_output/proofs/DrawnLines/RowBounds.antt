-- For `source_rows_are_few`: how many source rows the labels of a file show.
use Rattle.codespan_core.proofs.Std.{◌≡◌, ℕ, zero, suc, ◌+◌, ◌-◌, ◌*◌, ◌<◌}
use Rattle.codespan_core.proofs.Std.{◌≤◌, max, Bool, true, false, cond, ◌&&◌, ◌||◌}
use Rattle.codespan_core.proofs.Std.{nat_lt, nat_le, List, [], ◌∷◌, ◌++◌, map, filter}
use Rattle.codespan_core.proofs.Std.{reverse, length, Option, Some, None, refl, ap, arith, count_by}
use Rattle.codespan_core.proofs.Std.{sum_by, range_with_len, list_any, nat_tests, and_parts}
use Rattle.codespan_core.proofs.Std.{sum_by-cons, if◌then◌else◌}
use Rattle.std.proofs.lemmas.List.Sums.{length-filter}
use Rattle.codespan_core.specs.FileModel.{FileModel, line_count}
use Rattle.codespan_core.specs.Labels.{LabelModel, LaneMark, first_line, last_line}
use Rattle.codespan_output.specs.Types.{Config}
use Rattle.codespan_output.specs.{shows, is_shown, is_drawn, drawn_lines, leading_whitespace, Line}
use Rattle.codespan_output.specs.{SourceRow, BreakRow, HangingRow, UnderlineRow, PointerRow}
use Rattle.codespan_output.specs.{rows_of, hanging_labels, has_underline, LabeledFileModel, line_at}
use Rattle.codespan_output.specs.{rows_of_drawn, is_source_row, max_shown_lines, SourceRowsAreFew}
use Rattle.codespan_output.specs.{Locus, Row, EmptyRow, empty_lanes, empty_row_after, snippet}
use Rattle.codespan_output.proofs.DrawnLines.Filled.{breaks_before}
use Rattle.codespan_output.specs.Private.{caret_rows, pointer_and_hanging_rows, underline_rows}
use Rattle.codespan_output.specs.Private.{has_break_between}
use Rattle.codespan_output.proofs.DrawnLines.Counts.{count-cons, count-append, one-le, count-le}
use Rattle.codespan_output.proofs.DrawnLines.Counts.{count-or, count-none, count-map-none}

-- ---- numbers of an interval

abbrev pub is_in : ℕ → ℕ → ℕ → Bool
is_in lo hi l = nat_le lo l && nat_lt l hi

count-is_in : (lo hi a n : ℕ) → count_by (is_in lo hi) (range_with_len a n) ≤ hi - max a lo
count-is_in lo hi a zero = omega arith
count-is_in lo hi a (suc n) = by_test (count-is_in lo hi (a + 1) n) (is_in lo hi a) refl
  where
    by_test : count_by (is_in lo hi) (range_with_len (a + 1) n) ≤ hi - max (a + 1) lo
        → (b : Bool)
        → is_in lo hi a ≡ b
        → count_by (is_in lo hi) (a ∷ range_with_len (a + 1) n) ≤ hi - max a lo
    by_test rest true is =
        let low : lo ≤ a = grind (arith, nat_tests) in
        let high : a < hi = grind (arith, nat_tests) in
        let e = ap {B = ℕ} (λ b. cond b 1 0) is in
        omega (arith, rest, e, count-cons (is_in lo hi) a (range_with_len (a + 1) n))
    by_test rest false is =
        let e = ap {B = ℕ} (λ b. cond b 1 0) is in
        omega (arith, rest, e, count-cons (is_in lo hi) a (range_with_len (a + 1) n))

-- ---- what one label shows

abbrev pub shows_in : Config → ℕ → ℕ → ℕ → Bool
shows_in config s e l =
    is_in s (s + 1) l
    || (is_in e (e + 1) l
    || (is_in (s - config.before_label_lines) s l
    || (is_in (e + 1) (e + config.after_label_lines + 1) l
    || (is_in (s + 1) (s + config.start_context_lines + 1) l || is_in (e - config.end_context_lines)
    e l))))

shows-in : (config : Config) (s e l : ℕ) → shows config s e l ≡ true
    → shows_in config s e l ≡ true
shows-in config s e l h = grind (arith, nat_tests)

count-shows : (config : Config) (s e n : ℕ)
    → count_by (shows config s e) (range_with_len 0 n) ≤ max_shown_lines config
count-shows config s e n =
    let b = config.before_label_lines in
    let a = config.after_label_lines in
    let c = config.start_context_lines in
    let d = config.end_context_lines in
    let ls = range_with_len 0 n in
    omega (
      arith,
      count-le (shows config s e) (shows_in config s e) ls (shows-in config s e),
      count-or (is_in s (s + 1)) (λ l. is_in e (e + 1) l || (is_in (s - b) s l
          || (is_in (e + 1) (e + a + 1) l || (is_in (s + 1) (s + c + 1) l || is_in (e - d) e l))))
          ls,
      count-or (is_in e (e + 1)) (λ l. is_in (s - b) s l
          || (is_in (e + 1) (e + a + 1) l || (is_in (s + 1) (s + c + 1) l || is_in (e - d) e l)))
          ls,
      count-or (is_in (s - b) s) (λ l. is_in (e + 1) (e + a + 1) l
          || (is_in (s + 1) (s + c + 1) l || is_in (e - d) e l)) ls,
      count-or (is_in (e + 1) (e + a + 1)) (λ l. is_in (s + 1) (s + c + 1) l || is_in (e - d) e l)
          ls,
      count-or (is_in (s + 1) (s + c + 1)) (is_in (e - d) e) ls,
      count-is_in s (s + 1) 0 n,
      count-is_in e (e + 1) 0 n,
      count-is_in (s - b) s 0 n,
      count-is_in (e + 1) (e + a + 1) 0 n,
      count-is_in (s + 1) (s + c + 1) 0 n,
      count-is_in (e - d) e 0 n,
    )

-- ---- what all labels show

count-any : (config : Config) (f : FileModel) (labels : List LabelModel) (n : ℕ)
    → count_by (λ l. list_any (λ x. shows config (first_line f x) (last_line f x) l) labels)
    (range_with_len 0 n) ≤ sum_by (λ _. max_shown_lines config) labels
count-any config f [] n = omega (arith, count-none (λ l. false) (range_with_len 0 n) (λ l. refl))
count-any config f (x ∷ xs) n =
    omega (
      arith,
      count-or (shows config (first_line f x) (last_line f x))
          (λ l. list_any (λ x. shows config (first_line f x) (last_line f x) l) xs)
          (range_with_len 0 n),
      count-shows config (first_line f x) (last_line f x) n,
      count-any config f xs n,
      sum_by-cons (λ _. max_shown_lines config) x xs,
    )

count-shown : (config : Config) (s : LabeledFileModel) (n : ℕ)
    → count_by (is_shown config s.file s.labels) (range_with_len 0 n) ≤ sum_by
    (λ _. max_shown_lines config) s.labels
count-shown config s n =
    omega (
      arith,
      count-le (is_shown config s.file s.labels)
          (λ l. list_any (λ x. shows config (first_line s.file x) (last_line s.file x) l)
          s.labels)
          (range_with_len 0 n)
          (λ l h. (and_parts (nat_lt l (line_count s.file)) (list_any (λ x. shows config
          (first_line s.file x) (last_line s.file x) l) s.labels) h).1),
      count-any config s.file s.labels n,
    )

-- ---- the lines that are filled in

module _ (shown : ℕ → Bool) where
  -- the line before is shown
  abbrev pub is_after : ℕ → Bool
  is_after l = nat_lt 0 l && shown (l - 1)

  count-after : (a n : ℕ)
      → count_by is_after (range_with_len (a + 1) n) ≤ count_by shown (range_with_len a n)
  count-after a zero = omega arith
  count-after a (suc n) =
      let back : a + 1 - 1 ≡ a = omega arith in
      let one = one-le (is_after (a + 1)) (shown a)
      (λ h. rw back at (and_parts (nat_lt 0 (a + 1)) (shown (a + 1 - 1)) h).1) in
      omega (
        arith,
        one,
        count-after (a + 1) n,
        count-cons is_after (a + 1) (range_with_len (a + 1 + 1) n),
        count-cons shown a (range_with_len (a + 1) n),
      )

  count-longer : (a n : ℕ)
      → count_by shown (range_with_len a n) ≤ count_by shown (range_with_len a (suc n))
  count-longer a zero = omega arith
  count-longer a (suc n) =
      omega (
        arith,
        count-longer (a + 1) n,
        count-cons shown a (range_with_len (a + 1) n),
        count-cons shown a (range_with_len (a + 1) (suc n)),
      )

  count-all-after : (n : ℕ)
      → count_by is_after (range_with_len 0 n) ≤ count_by shown (range_with_len 0 n)
  count-all-after zero = omega arith
  count-all-after (suc n) =
      let none : nat_lt 0 0 ≡ false = grind (arith, nat_tests) in
      let e = ap {B = ℕ} (λ b. cond (b && shown (0 - 1)) 1 0) none in
      omega (
        arith,
        e,
        count-after 0 n,
        count-longer 0 n,
        count-cons is_after 0 (range_with_len 1 n),
      )

  abbrev pub fills : ℕ → Bool
  fills l = nat_lt 0 l && shown (l - 1) && shown (l + 1)

  count-drawn : (n : ℕ)
      → count_by (λ l. shown l || fills l) (range_with_len 0 n) ≤ 2 * count_by shown
      (range_with_len 0 n)
  count-drawn n =
      omega (
        arith,
        count-or shown fills (range_with_len 0 n),
        count-le fills is_after (range_with_len 0 n)
            (λ l h. (and_parts (nat_lt 0 l && shown (l - 1)) (shown (l + 1)) h).0),
        count-all-after n,
      )

-- ---- source rows

none_if : (b : Bool) (row : Row) → is_source_row row ≡ false
    → count_by is_source_row (if b then row ∷ [] else []) ≡ 0
none_if true row h = simp h
none_if false row h = refl

no_source_break : (s : LabeledFileModel) (previous : Option ℕ) (l : ℕ)
    → count_by is_source_row (breaks_before s previous l) ≡ 0
no_source_break s None l = refl
no_source_break s (Some c) l = none_if (has_break_between c l) (BreakRow (line_at s l).lanes) refl

no_source_caret : (line : Line) (labels : List LabelModel)
    → count_by is_source_row (caret_rows line labels) ≡ 0
no_source_caret line [] = refl
no_source_caret line (x ∷ xs) = refl

no_source_hanging : (line : Line) (labels : List LabelModel)
    → count_by is_source_row (pointer_and_hanging_rows line labels) ≡ 0
no_source_hanging line [] = refl
no_source_hanging line (x ∷ xs) =
    let more = reverse (x ∷ xs) in
    omega (
      arith,
      count-cons is_source_row (PointerRow line) (map (HangingRow line) more),
      count-map-none is_source_row (HangingRow line) more (λ y. refl),
    )

one_source : (line : Line) → count_by is_source_row (rows_of line) ≡ 1
one_source line =
    omega (
      arith,
      count-append is_source_row ((SourceRow line ∷ caret_rows line line.labels)
          ++ pointer_and_hanging_rows line (hanging_labels line.labels))
          (underline_rows line),
      count-append is_source_row (SourceRow line ∷ caret_rows line line.labels)
          (pointer_and_hanging_rows line (hanging_labels line.labels)),
      count-cons is_source_row (SourceRow line) (caret_rows line line.labels),
      no_source_caret line line.labels,
      no_source_hanging line (hanging_labels line.labels),
      count-map-none is_source_row (UnderlineRow line)
          (filter (λ (m : LaneMark). has_underline (leading_whitespace line.text) m.multi_label)
          line.lanes.lane_marks)
          (λ m. refl),
    )

count-rows_of_drawn : (s : LabeledFileModel) (previous : Option ℕ) (ls : List ℕ)
    → count_by is_source_row (rows_of_drawn s previous ls) ≡ length ls
count-rows_of_drawn s previous [] = refl
count-rows_of_drawn s previous (l ∷ ls) =
    omega (
      arith,
      count-append is_source_row (breaks_before s previous l ++ rows_of (line_at s l))
          (rows_of_drawn s (Some l) ls),
      count-append is_source_row (breaks_before s previous l) (rows_of (line_at s l)),
      no_source_break s previous l,
      one_source (line_at s l),
      count-rows_of_drawn s (Some l) ls,
    )

pub source_rows_few : (config : Config) (locus : Locus) (followed : Bool) (s : LabeledFileModel)
    → SourceRowsAreFew config s (snippet config locus s ++ empty_row_after followed s)
source_rows_few config locus followed s =
    omega (
      arith,
      count-append is_source_row (snippet config locus s) (empty_row_after followed s),
      none_if followed (EmptyRow (empty_lanes s)) refl,
      count-rows_of_drawn s None (drawn_lines config s.file s.labels),
      length-filter (is_drawn config s.file s.labels) (range_with_len 0 (line_count s.file)),
      count-drawn (is_shown config s.file s.labels) (line_count s.file),
      count-shown config s (line_count s.file),
    )
