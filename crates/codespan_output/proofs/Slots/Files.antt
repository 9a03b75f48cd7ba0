-- For `messages_appear_once`: sums over the rows of files, for the slots of each label's message.
use Rattle.codespan_core.proofs.Std.{◌≡◌, ℕ, zero, suc, ◌+◌, ◌<◌, ◌≤◌, Bool}
use Rattle.codespan_core.proofs.Std.{true, false, cond, ◌||◌, ◌==◌, nat_lt, nat_le, List}
use Rattle.codespan_core.proofs.Std.{[], ◌∷◌, ◌++◌, map, filter, Option, Some, None}
use Rattle.codespan_core.proofs.Std.{length, refl, ap, ◌∙◌, arith, sum_by, list_any}
use Rattle.codespan_core.proofs.Std.{range_with_len, nat_tests, sum_by-cons, sum_by-append}
use Rattle.codespan_core.proofs.Std.{count_by-le-length}
use Rattle.std.specs.Str.Lines.{lines}
use Rattle.codespan_core.specs.FileModel.{FileModel, line_count, line_of}
use Rattle.codespan_core.specs.Labels.{LabelModel, first_line, last_line}
use Rattle.codespan_output.specs.Types.{Config}
use Rattle.codespan_output.specs.{shows, is_drawn, drawn_lines, HeaderText, Locus, HeaderRow}
use Rattle.codespan_output.specs.{SnippetStartRow, EmptyRow, BreakRow, FirstNoteRow, LaterNoteRow}
use Rattle.codespan_output.specs.{FinalRow, rows_of, LabeledFileModel, empty_lanes, line_at}
use Rattle.codespan_output.specs.{rows_of_drawn, snippet, empty_row_after, snippets, note_line_rows}
use Rattle.codespan_output.specs.{note_rows, rich_rows}
use Rattle.codespan_output.proofs.DrawnLines.Filled.{breaks_before}
use Rattle.codespan_output.proofs.Slots.Rows.{row_slots}
use Rattle.codespan_output.proofs.Slots.Lines.{sum-zero, sum-map, sum-filter_free}
use Rattle.codespan_output.proofs.Slots.Lines.{sum-flat_map_zero, sum-swap, label_slots, on_line}
use Rattle.codespan_output.proofs.Slots.Lines.{labels_on_line}
use Rattle.codespan_output.specs.Private.{has_any, has_break_between}

-- ---- the lines of a file

none_below : (v last a n : ℕ) → last < a
    → sum_by (λ l. cond (last == l) v 0) (range_with_len a n) ≡ 0
none_below v last a zero h = refl
none_below v last a (suc n) h =
    let no : (last == a) ≡ false = grind (arith, nat_tests) in
    let e = ap {B = ℕ} (λ b. cond b v 0) no in
    omega (
      arith,
      e,
      none_below v last (a + 1) n (omega arith),
      sum_by-cons (λ l. cond (last == l) v 0) a (range_with_len (a + 1) n),
    )

once_in : (v last a n : ℕ) → a ≤ last → last < a + n
    → sum_by (λ l. cond (last == l) v 0) (range_with_len a n) ≡ v
once_in v last a zero low high = absurd (omega arith)
once_in v last a (suc n) low high = by_test (once_in v last (a + 1) n) (last == a) refl
  where
    by_test : (a + 1 ≤ last → last < a + 1 + n
        → sum_by (λ l. cond (last == l) v 0) (range_with_len (a + 1) n) ≡ v)
        → (b : Bool) → (last == a) ≡ b
        → sum_by (λ l. cond (last == l) v 0) (a ∷ range_with_len (a + 1) n) ≡ v
    by_test rest true is =
        let same : last ≡ a = grind (arith, nat_tests) in
        let e = ap {B = ℕ} (λ b. cond b v 0) is in
        omega (
          arith,
          e,
          none_below v last (a + 1) n (omega arith),
          sum_by-cons (λ l. cond (last == l) v 0) a (range_with_len (a + 1) n),
        )
    by_test rest false is =
        let other : (last ≡ a → ⊥) = (λ q. grind (arith, nat_tests)) in
        let e = ap {B = ℕ} (λ b. cond b v 0) is in
        omega (
          arith,
          e,
          rest (omega arith) (omega arith),
          sum_by-cons (λ l. cond (last == l) v 0) a (range_with_len (a + 1) n),
        )

once_among : (v last n : ℕ) (p : ℕ → Bool) → p last ≡ true → last < n
    → sum_by (λ l. cond (last == l) v 0) (filter p (range_with_len 0 n)) ≡ v
once_among v last n p here below =
    sum-filter_free (λ l. cond (last == l) v 0) p left_out (range_with_len 0 n)
    ∙ once_in v last 0 n (omega arith) (omega arith)
  where
    left_out : (l : ℕ) → p l ≡ false → cond (last == l) v 0 ≡ 0
    left_out l out = by_test (last == l) refl
      where
        by_test : (b : Bool) → (last == l) ≡ b → cond b v 0 ≡ 0
        by_test true is = let same : last ≡ l = grind (arith, nat_tests) in
            let e : p last ≡ p l = ap p same in cc
        by_test false is = refl

last_below : (f : FileModel) (x : LabelModel) → 0 < line_count f → last_line f x < line_count f
unfolding line_of
last_below f x some = omega (arith, count_by-le-length (λ s. nat_le s x.end) f.starts)

pub or_left : (a b : Bool) → a ≡ true → (a || b) ≡ true
or_left true b h = refl
or_left false b h = cc

pub or_right : (a b : Bool) → b ≡ true → (a || b) ≡ true
or_right true b h = refl
or_right false b h = h

all_drawn : (k : ℕ) (config : Config) (f : FileModel) → 0 < line_count f
    → (p : ℕ → Bool) (xs : List LabelModel)
    → ((l : ℕ) → l < line_count f
    → list_any (λ x. shows config (first_line f x) (last_line f x) l) xs ≡ true
    → p l ≡ true)
    → sum_by (λ x. sum_by (λ l. on_line k f l x) (filter p (range_with_len 0 (line_count f))))
    xs ≡ sum_by (label_slots k) xs
all_drawn k config f some p [] h = refl
all_drawn k config f some p (x ∷ xs) h =
    let below = last_below f x some in
    let ends : shows config (first_line f x) (last_line f x) (last_line f x) ≡ true =
    grind (arith, nat_tests) in
    let here = h (last_line f x) below
    (or_left _
    (list_any (λ y. shows config (first_line f y) (last_line f y) (last_line f x)) xs) ends) in
    omega (
      arith,
      once_among (label_slots k x) (last_line f x) (line_count f) p here below,
      all_drawn k config f some p xs
          (λ l low any. h l low
          (or_right (shows config (first_line f x) (last_line f x) l) _ any)),
      sum_by-cons
          (λ x. sum_by (λ l. on_line k f l x) (filter p (range_with_len 0 (line_count f))))
          x xs,
      sum_by-cons (label_slots k) x xs,
    )

-- ---- the rows of a file

break_sum : (k : ℕ) (s : LabeledFileModel) (previous : Option ℕ) (l : ℕ)
    → sum_by (row_slots k) (breaks_before s previous l) ≡ 0
break_sum k s None l = refl
break_sum k s (Some c) l = by_test (has_break_between c l)
  where
    by_test : (b : Bool) → sum_by (row_slots k) (cond b (BreakRow (line_at s l).lanes ∷ []) [])
        ≡ 0
    by_test true = refl
    by_test false = refl

pub lines_sum : (k : ℕ) (s : LabeledFileModel) (previous : Option ℕ) (ls : List ℕ)
    → sum_by (row_slots k) (rows_of_drawn s previous ls) ≡ sum_by
    (λ l. sum_by (on_line k s.file l) s.labels) ls
lines_sum k s previous [] = refl
lines_sum k s previous (l ∷ ls) =
    omega (
      arith,
      sum_by-append (row_slots k) (breaks_before s previous l ++ rows_of (line_at s l))
          (rows_of_drawn s (Some l) ls),
      sum_by-append (row_slots k) (breaks_before s previous l) (rows_of (line_at s l)),
      break_sum k s previous l,
      labels_on_line k s l,
      lines_sum k s (Some l) ls,
      sum_by-cons (λ l. sum_by (on_line k s.file l) s.labels) l ls,
    )

shown_drawn : (config : Config) (f : FileModel) (labels : List LabelModel) (l : ℕ)
    → l < line_count f
    → list_any (λ x. shows config (first_line f x) (last_line f x) l) labels ≡ true
    → is_drawn config f labels l ≡ true
shown_drawn config f labels l low any =
    let inside : nat_lt l (line_count f) ≡ true = grind (arith, nat_tests) in
    simp (inside, any)

-- the slots of the rows of a file's lines
abbrev pub file_slots : ℕ → Config → LabeledFileModel → ℕ
file_slots k config s =
    sum_by (row_slots k) (rows_of_drawn s None (drawn_lines config s.file s.labels))

-- those of its snippet are as many, whatever the locus
start_sum : (k : ℕ) (config : Config) (locus : Locus) (s : LabeledFileModel)
    → sum_by (row_slots k) (snippet config locus s) ≡ file_slots k config s
start_sum k config locus s =
    omega (
      arith,
      sum_by-append (row_slots k) (SnippetStartRow locus ∷ EmptyRow (empty_lanes s) ∷ [])
          (rows_of_drawn s None (drawn_lines config s.file s.labels)),
      sum_by-cons (row_slots k) (SnippetStartRow locus) (EmptyRow (empty_lanes s) ∷ []),
      sum_by-cons (row_slots k) (EmptyRow (empty_lanes s)) [],
    )

pub snippet_sum : (k : ℕ) (config : Config) (s : LabeledFileModel) → 0 < line_count s.file
    → file_slots k config s ≡ sum_by (label_slots k) s.labels
snippet_sum k config s some =
    let ls = drawn_lines config s.file s.labels in
    omega (
      arith,
      lines_sum k s None ls,
      sum-swap (λ l x. on_line k s.file l x) ls s.labels,
      all_drawn k config s.file some (is_drawn config s.file s.labels) s.labels
          (shown_drawn config s.file s.labels),
    )

after_sum : (k : ℕ) (followed : Bool) (s : LabeledFileModel)
    → sum_by (row_slots k) (empty_row_after followed s) ≡ 0
after_sum k true s = refl
after_sum k false s = refl

-- ---- the rows of all files

snippets_sum : (k : ℕ) (config : Config) (has_notes : Bool) (ps : List Locus)
    (ss : List LabeledFileModel)
    → length ps ≡ length ss
    → sum_by (row_slots k) (snippets config has_notes ps ss) ≡ sum_by (file_slots k config) ss
snippets_sum k config has_notes [] [] h = refl
snippets_sum k config has_notes [] (s ∷ ss) h = absurd (omega (arith, h))
snippets_sum k config has_notes (p ∷ ps) [] h = absurd (omega (arith, h))
snippets_sum k config has_notes (p ∷ ps) (s ∷ ss) h =
    let followed = has_any ss || has_notes in
    omega (
      arith,
      sum_by-append (row_slots k) (snippet config p s ++ empty_row_after followed s)
          (snippets config has_notes ps ss),
      sum_by-append (row_slots k) (snippet config p s) (empty_row_after followed s),
      start_sum k config p s,
      after_sum k followed s,
      snippets_sum k config has_notes ps ss (omega (arith, h)),
      sum_by-cons (file_slots k config) s ss,
    )

piece_sum : (k : ℕ) (ps : List (List ℕ)) → sum_by (row_slots k) (note_line_rows ps) ≡ 0
piece_sum k [] = refl
piece_sum k (p ∷ ps) =
    omega (
      arith,
      sum_by-cons (row_slots k) (FirstNoteRow p) (map LaterNoteRow ps),
      sum-map (row_slots k) LaterNoteRow ps,
      sum-zero {X = List ℕ} (λ _. 0) (λ _. refl) ps,
    )

pub rich_sum : (k : ℕ) (config : Config) (header_text : HeaderText) (ps : List Locus)
    (ss : List LabeledFileModel) (notes : List (List ℕ))
    → length ps ≡ length ss
    → sum_by (row_slots k) (rich_rows config header_text ps ss notes)
    ≡ sum_by (file_slots k config) ss
rich_sum k config header_text ps ss notes h =
    let inner = snippets config (has_any notes) ps ss in
    omega (
      arith,
      sum_by-append (row_slots k) ((HeaderRow None header_text ∷ inner) ++ note_rows notes)
          (FinalRow ∷ []),
      sum_by-append (row_slots k) (HeaderRow None header_text ∷ inner) (note_rows notes),
      sum_by-cons (row_slots k) (HeaderRow None header_text) inner,
      sum_by-cons (row_slots k) FinalRow [],
      snippets_sum k config (has_any notes) ps ss h,
      sum-flat_map_zero (row_slots k) (λ note. note_line_rows (lines note))
          (λ note. piece_sum k (lines note)) notes,
    )
