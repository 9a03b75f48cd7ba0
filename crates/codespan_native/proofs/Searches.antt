-- What the binary searches of lines and locations find, for `StatedText::line_index` and
-- `NativeFile::stated_location`, and the locations of which `locations_ascend` looks at one.
use Rattle.std.proofs.Common.{◌≡◌, ◌≢◌, ℕ, zero, suc, ◌+◌, ◌-◌, ◌<◌}
use Rattle.std.proofs.Common.{◌≤◌, Bool, true, false, List, [], ◌∷◌, length, Some, None}
use Rattle.std.proofs.Common.{Result, Ok, Err, drop, get_or, refl, sym, ap, ◌∙◌, arith, inl}
use Rattle.std.proofs.Common.{inr, lt-ltb, le-leb, eq-eqb}
use Rattle.std.specs.Prelude.{◌&&◌, ◌==◌, nat_lt, nat_le, slice_index, MatchResult}
use Rattle.std.specs.Ordering.{nat_cmp, ordering_index}
use Rattle.std.proofs.lemmas.Cmp.{ranked}
use Rattle.std.proofs.lemmas.Bool.Decides.{eqb_tells, nat_tests}
use Rattle.std.specs.List.{slice_index_or}
use Rattle.std.specs.List.Sorted.{IsBinarySearchResult, IsNonDecreasingBy, IsPartitionedBy}
use Rattle.std.specs.List.Sorted.{IsPartitionPoint, IsSearchInRange}
use Rattle.std.proofs.lemmas.Bool.{and_parts, cases_lt}
use Rattle.std.proofs.lemmas.List.{drop_more, length-map}
use Rattle.std.proofs.lemmas.List.Sorted.{IsNonDecreasingBy-from_default, IsPartitionedBy-leb}
use Rattle.codespan_base.specs.declared.files.Location.{Location}
use Rattle.codespan_base.specs.FileModel.{line_of}
use Rattle.codespan_base.specs.Lemmas.Lines.{count_split}
use Rattle.codespan_base.specs.Lines.{is_char_boundary}
use Rattle.codespan_native.specs.declared.raw.RawLine.{RawLine}
use Rattle.codespan_native.specs.declared.raw.RawLocation.{RawLocation}
use Rattle.codespan_native.specs.StatedLines.{are_next_lines, bytes_ascend_from, location_at}
use Rattle.codespan_native.specs.StatedLines.{locations_ascend, starts_of}

-- ---- lines

abbrev no_line : RawLine
no_line = record { start = 0; end = 0; number = 0 }

module _ (first : ℕ) where
  -- where a line starts
  start_at : (lines : List RawLine) (i : ℕ) (d : RawLine) → i < length lines
      → slice_index (starts_of first lines) i ≡ (slice_index_or lines i d).start - first
  start_at [] i d h = absurd (omega (arith, h))
  start_at (l ∷ ls) zero d h = refl
  start_at (l ∷ ls) (suc i) d h = start_at ls i d (omega (arith, h))

  module _ (lines : List RawLine) (ascending : (i : ℕ) → i + 1 < length (starts_of first lines)
      → slice_index (starts_of first lines) i < slice_index (starts_of first lines) (i + 1)) where
    -- a later line starts later
    climb : (i n : ℕ) → i + n < length (starts_of first lines)
        → slice_index (starts_of first lines) i ≤ slice_index (starts_of first lines) (i + n)
    climb i zero h = let e : i + 0 ≡ i = omega arith in rw e (omega arith)
    climb i (suc n) h =
        let low = climb i n (omega (arith, h)) in
        let e : i + n + 1 ≡ i + suc n = omega arith in
        let step = rw e at (ascending (i + n) (omega (arith, h))) in
        omega (arith, low, step)

    rises : IsNonDecreasingBy (λ (l : RawLine). l.start - first) lines
    rises =
        IsNonDecreasingBy-from_default (λ (l : RawLine). l.start - first) lines (no_line)
        (λ i j le in_range.
        let e : i + (j - i) ≡ j = omega (arith, le) in
        let up = rw e at
        (climb i (j - i)
        (rw (length-map lines (λ (l : RawLine). l.start - first)) (omega (arith, le, in_range))))
        in
        let a = start_at lines i no_line (omega (arith, le, in_range)) in
        let b = start_at lines j no_line in_range in
        omega (arith, up, a, b))

    -- lines start at the byte or before it, and then after it
    pub parted : (byte : ℕ) → IsPartitionedBy (λ l. nat_le (l.start - first) byte) lines
    parted byte = IsPartitionedBy-leb (λ (l : RawLine). l.start - first) lines byte rises

  -- those at the byte or before it are counted
  pub line_found : (lines : List RawLine) (byte n : ℕ) → n ≤ length lines
      → 0 < length lines → slice_index (starts_of first lines) 0 ≡ 0
      → IsPartitionPoint (λ l. nat_le (l.start - first) byte ≡ true)
      (λ l. nat_le (l.start - first) byte ≡ false) lines n
      → (1 ≤ n) × (n - 1 ≡ line_of (starts_of first lines) byte)
  unfolding line_of
  line_found lines byte n within some first_start point =
      let counted = count_split byte (starts_of first lines) n
      (rw (length-map lines (λ (l : RawLine). l.start - first)) within)
      (λ k h. let at = start_at lines k no_line (omega (arith, h, within)) in
      let test = point.0 k no_line (omega arith) h in grind (arith, nat_tests, at, test))
      (λ k h below. let in_lines : k < length lines =
      rw (length-map lines (λ (l : RawLine). l.start - first)) at below in
      let at = start_at lines k no_line in_lines in
      let test = point.1 k no_line h in_lines in grind (arith, nat_tests, at, test)) in
      let some_started : 1 ≤ n = elim (cases_lt 0 n) [
        | inl p ↦ p
        | inr p ↦
            let at = start_at lines 0 no_line some in
            let test = point.1 0 no_line (omega (arith, p)) some in
            absurd (grind (arith, nat_tests, at, test, first_start))
      ] in
      (some_started, ap (λ c. c - 1) (sym counted))

-- ---- locations

abbrev pub no_location : RawLocation
no_location = record { byte = 0; line_number = 0; column_number = 0 }

-- the location as the files of Rust have it
abbrev pub location_of : RawLocation → Location
location_of l = record { line_number = l.line_number; column_number = l.column_number }

-- numbers that differ are not equal by the test
ne-eqb : (a b : ℕ) → a ≢ b → (a == b) ≡ false
ne-eqb a b n = elim (eqb_tells a b) [ inl p ↦ absurd (n p.1) | inr p ↦ p.0 ]

module _ (first : ℕ) where
  abbrev pub byte_at : List RawLocation → ℕ → ℕ
  byte_at locations i = (slice_index_or locations i no_location).byte - first

  -- locations that ascend from a byte on lie after it, and ascend
  after : (byte : ℕ) (ls : List RawLocation) → bytes_ascend_from first byte ls ≡ true
      → (k : ℕ) → k < length ls → byte < byte_at ls k
  after byte [] e k h = absurd (omega (arith, h))
  after byte (l ∷ ls) e zero h =
      let a = and_parts (nat_lt byte (l.byte - first)) _ e in grind (arith, nat_tests, a.0)
  after byte (l ∷ ls) e (suc k) h =
      let a = and_parts (nat_lt byte (l.byte - first)) _ e in
      let here : byte < l.byte - first = grind (arith, nat_tests, a.0) in
      let later = after (l.byte - first) ls a.1 k (omega (arith, h)) in
      omega (arith, here, later)

  rest_ascends : (byte : ℕ) (ls : List RawLocation) → bytes_ascend_from first byte ls ≡ true
      → locations_ascend first ls ≡ true
  rest_ascends byte [] e = refl
  rest_ascends byte (l ∷ ls) e = (and_parts (nat_lt byte (l.byte - first)) _ e).1

  -- a location before another is of a lower byte
  sorted : (ls : List RawLocation) → locations_ascend first ls ≡ true → (i j : ℕ) → i < j
      → j < length ls
      → byte_at ls i < byte_at ls j
  sorted [] e i j h k = absurd (omega (arith, k))
  sorted (l ∷ ls) e i zero h k = absurd (omega (arith, h))
  sorted (l ∷ ls) e zero (suc j) h k = after (l.byte - first) ls e j (omega (arith, k))
  sorted (l ∷ ls) e (suc i) (suc j) h k =
      sorted ls (rest_ascends (l.byte - first) ls e) i j (omega (arith, h)) (omega (arith, k))

  -- the comparisons with a byte rise
  comparisons_rise : (ls : List RawLocation) → locations_ascend first ls ≡ true → (byte : ℕ)
      → IsNonDecreasingBy (λ l. ordering_index (nat_cmp (l.byte - first) byte)) ls
  comparisons_rise ls e byte =
      IsNonDecreasingBy-from_default
      (λ (l : RawLocation). ordering_index (nat_cmp (l.byte - first) byte)) ls no_location
      (λ i j le in_range.
      let up : byte_at ls i ≤ byte_at ls j =
      grind (arith, sorted ls e i j, λ (same : i ≡ j). ap (byte_at ls) same) in
      grind (arith, nat_tests, up))

  -- the location of a byte is the one that is found
  found_at : (ls : List RawLocation) → locations_ascend first ls ≡ true → (byte i : ℕ)
      → i < length ls
      → byte_at ls i ≡ byte
      → location_at first ls byte ≡ Some (location_of (slice_index_or ls i no_location))
  found_at [] e byte i h same = absurd (omega (arith, h))
  found_at (l ∷ ls) e byte zero h same = rw (eq-eqb (l.byte - first) byte same) refl
  found_at (l ∷ ls) e byte (suc i) h same =
      let before : l.byte - first < byte_at ls i =
      after (l.byte - first) ls e i (omega (arith, h)) in
      rw (ne-eqb (l.byte - first) byte (λ equal. absurd (omega (arith, before, same, equal))))
      (found_at ls (rest_ascends (l.byte - first) ls e) byte i (omega (arith, h)) same)

  -- there is none where no location is of the byte
  found_none : (ls : List RawLocation) (byte : ℕ)
      → ((k : ℕ) → k < length ls → byte_at ls k ≢ byte)
      → location_at first ls byte ≡ None
  found_none [] byte others = refl
  found_none (l ∷ ls) byte others =
      rw (ne-eqb (l.byte - first) byte (others 0 (omega arith)))
      (found_none ls byte (λ k h. others (suc k) (omega (arith, h))))

  -- what a search by the bytes finds
  pub location_found : (ls : List RawLocation) → locations_ascend first ls ≡ true
      → (byte : ℕ)
      → (r : Result ℕ ℕ) → IsSearchInRange r (length ls)
      → IsBinarySearchResult (λ l. nat_cmp (l.byte - first) byte) ls r
      → MatchResult r
      (λ i. location_at first ls byte ≡ Some (location_of (slice_index_or ls i no_location)))
      (λ _. location_at first ls byte ≡ None)
  location_found ls e byte (Ok i) within equal =
      found_at ls e byte i within (ranked _ byte _ (sym (equal no_location)))
  location_found ls e byte (Err i) within splits =
      let halves = splits (comparisons_rise ls e byte) in
      found_none ls byte (λ k h. elim (cases_lt k i) [
        | inl p ↦ let less = ranked _ byte _ (sym (halves.0 k no_location (omega arith) p)) in
            λ same. absurd (omega (arith, less, same))
        | inr p ↦ let more = ranked _ byte _ (sym (halves.1 k no_location p h)) in
            λ same. absurd (omega (arith, more, same))
      ])

-- a location after the last one, so that the others decide
pub locations_ascend-more : (first : ℕ) (locations : List RawLocation) (i : ℕ) (d : RawLocation)
    (byte next : ℕ) (whole : Bool)
    → i < length locations → next ≡ (get_or locations i d).byte - first → byte < next
    → bytes_ascend_from first byte (drop i locations) ≡ whole
    → bytes_ascend_from first next (drop (i + 1) locations) ≡ whole
locations_ascend-more first locations i d byte next whole inside is later before =
    let test : nat_lt byte next ≡ true = grind (arith, nat_tests) in
    let more = λ (n : ℕ). nat_lt byte n && bytes_ascend_from first n (drop (i + 1) locations) in
    ap (λ (t : Bool). t && bytes_ascend_from first next (drop (i + 1) locations)) (sym test)
    ∙ ap more is ∙ ap (bytes_ascend_from first byte) (sym (drop_more locations i d inside))
    ∙ before

-- a line that follows the last one, so that the others decide
pub are_next_lines-more : (text : List ℕ) (first : ℕ) (lines : List RawLine) (i : ℕ)
    (d : RawLine)
    (start end next_start next_end : ℕ) (whole : Bool) → i < length lines
    → next_start ≡ (get_or lines i d).start - first
    → next_end ≡ (get_or lines i d).end - first
    → start < next_start → end ≤ next_start → next_start ≤ next_end
    → true ≡ is_char_boundary text next_start → true ≡ is_char_boundary text next_end
    → are_next_lines text first start end (drop i lines) ≡ whole
    → are_next_lines text first next_start next_end (drop (i + 1) lines) ≡ whole
are_next_lines-more text first lines i d start end next_start next_end whole inside starts ends
    after apart in_order starts_char ends_char before =
    rw (
      drop_more lines i d inside,
      ← starts,
      ← ends,
      lt-ltb start next_start after,
      le-leb end next_start apart,
      le-leb next_start next_end in_order,
      ← starts_char,
      ← ends_char,
    ) at before
