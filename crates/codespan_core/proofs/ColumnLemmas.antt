-- For the clause `value` of `column_index`, and of `column_number`, `location` and their defaults.
use Rattle.codespan_core.proofs.Std.{nat_tests, lt-ltb, map-id, drop_more, sum_by-cons, ◌≡◌}
use Rattle.codespan_core.proofs.Std.{ℕ, zero, suc, ◌+◌, ◌-◌, ◌<◌, ◌≤◌, Bool}
use Rattle.codespan_core.proofs.Std.{true, false, cond, List, length, get_or, take, drop, refl, ap}
use Rattle.codespan_core.proofs.Std.{arith, count_by, range_with_len, IsCharBoundary}
use Rattle.std.proofs.lemmas.Bool.{false_from_ne_true}
use Rattle.std.proofs.lemmas.List.FromFn.{sum_by-map-range_with_len_more}
use Rattle.std.specs.declared.ops.Range.{Range}
use Rattle.codespan_core.specs.declared.files.Location.{Location}
use Rattle.codespan_core.specs.FileModel.{FileModel}
use Rattle.codespan_core.specs.{line_of, IsLineRange, column_index_on, location_of, begins_char}
use Rattle.codespan_core.specs.{is_char_boundary, column_index_of}
use Rattle.codespan_core.specs.Lemmas.Lines.{ne-eqb}

-- the test is true of a boundary
pub is_char_boundary_yes : (text : List ℕ) (i : ℕ) → IsCharBoundary text i
    → is_char_boundary text i ≡ true
is_char_boundary_yes text i b = grind (arith, nat_tests, b)

-- and only of a boundary
boundary_from_test : (text : List ℕ) (i : ℕ) → is_char_boundary text i ≡ true
    → IsCharBoundary text i
boundary_from_test text i e = grind (arith, nat_tests, e)

-- so it is false of any other index
pub is_char_boundary_no : (text : List ℕ) (i : ℕ) → ¬ (IsCharBoundary text i)
    → is_char_boundary text i ≡ false
is_char_boundary_no text i b =
    false_from_ne_true (is_char_boundary text i) (λ e. b (boundary_from_test text i e))

-- a count over one more index
count_range_more : (p : ℕ → Bool) (a n : ℕ)
    → count_by p (range_with_len a (n + 1))
    ≡ count_by p (range_with_len a n) + cond (p (a + n)) 1 0
count_range_more p a n =
    simp (map-id {A = ℕ}) at
    (sum_by-map-range_with_len_more (λ x. cond (p x) 1 0) (λ x. x) a n (a + n) refl)

-- the step of a count over the indices after `start`
pub count_range_step : (p : ℕ → Bool) (start i : ℕ) → start ≤ i
    → count_by p (range_with_len (start + 1) (i + 1 - start)) ≡ count_by p
    (range_with_len (start + 1) (i - start)) + cond (p (i + 1)) 1 0
count_range_step p start i h =
    let e : i + 1 - start ≡ (i - start) + 1 = omega arith in
    let f : start + 1 + (i - start) ≡ i + 1 = omega arith in
    rw e (rw f at (count_range_more p (start + 1) (i - start)))

-- a count over n indices and then m more
pub count_range_add : (p : ℕ → Bool) (a n m : ℕ)
    → count_by p (range_with_len a (n + m)) ≡ count_by p (range_with_len a n) + count_by p
    (range_with_len (a + n) m)
count_range_add p a zero m =
    let e : a + 0 ≡ a = omega arith in
    let f : 0 + m ≡ m = omega arith in
    rw (e, f) (omega arith)
count_range_add p a (suc n) m =
    let e : a + suc n ≡ a + 1 + n = omega arith in
    let f : suc n + m ≡ suc (n + m) = omega arith in
    let rest = count_range_add p (a + 1) n m in
    rw (e, f) (
    omega (
      arith,
      sum_by-cons (λ x. cond (p x) 1 0) a (range_with_len (a + 1) (n + m)),
      sum_by-cons (λ x. cond (p x) 1 0) a (range_with_len (a + 1) n),
      rest,
    )
    )

-- before the end of the text, a boundary is a byte that begins a character
boundary_is_begin : (text : List ℕ) (i : ℕ) → i < length text
    → is_char_boundary text i ≡ begins_char (get_or text i 0)
boundary_is_begin text i h =
    let inside = ne-eqb i (length text) (λ e. absurd (omega arith)) in
    rw (inside, lt-ltb i (length text) h) refl

-- the boundaries at n indices before the end, as bytes
pub count_begins : (text : List ℕ) (a n : ℕ) → a + n ≤ length text
    → count_by (is_char_boundary text) (range_with_len a n) ≡ count_by begins_char
    (take n (drop a text))
count_begins text a zero h = refl
count_begins text a (suc n) h =
    rw (drop_more text a 0 (omega arith)) (
    omega (
      arith,
      sum_by-cons (λ x. cond (is_char_boundary text x) 1 0) a (range_with_len (a + 1) n),
      sum_by-cons (λ x. cond (begins_char x) 1 0) (get_or text a 0) (take n (drop (a + 1) text)),
      ap (λ b. cond {A = ℕ} b 1 0) (boundary_is_begin text a (omega arith)),
      count_begins text (a + 1) n (omega arith),
    )
    )

-- the step of such a count over a block of 16 bytes
pub count_block_step : (text : List ℕ) (start i : ℕ) → start ≤ i
    → i + 1 + 16 ≤ length text
    → count_by (is_char_boundary text) (range_with_len (start + 1) (i + 16 - start)) ≡ count_by
    (is_char_boundary text) (range_with_len (start + 1) (i - start)) + count_by begins_char
    (take 16 (drop (i + 1) text))
count_block_step text start i low room =
    let e : i + 16 - start ≡ (i - start) + 16 = omega arith in
    let f : start + 1 + (i - start) ≡ i + 1 = omega arith in
    rw e (
    omega (
      arith,
      rw f at (count_range_add (is_char_boundary text) (start + 1) (i - start) 16),
      count_begins text (i + 1) 16 room,
    )
    )

pub ruleset column_steps = (is_char_boundary_yes, is_char_boundary_no, count_range_step)

-- a column that is counted in the text of a file, between the ends of a line, is that of the line
pub column_in_line : (f : FileModel) (i byte : ℕ) (text : List ℕ) (r : Range ℕ) (n : ℕ)
    → n ≡ column_index_of text r.start r.end byte → text ≡ f.text → IsLineRange f i r
    → n + 1 ≡ column_index_on f i byte + 1
column_in_line f i byte text r n counted same line =
    rw (counted, same, line.start_is, line.end_is) refl

-- the numbers of the byte's line and of its column there are the location of the byte
pub location_in_file : (f : FileModel) (byte i n m : ℕ) → i ≡ line_of f.starts byte
    → n ≡ f.line_number i → m ≡ f.column_number i byte
    → ◌≡◌ {A = Location} (record { line_number = n; column_number = m })
    (location_of f byte)
location_in_file f byte i n m line number column = rw (number, column, line) refl
