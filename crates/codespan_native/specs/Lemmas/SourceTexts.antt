-- Texts cut at newlines, and texts cut into lines for which `are_lines` holds, make lawful files.
use Rattle.std.proofs.Common.{◌≡◌, ℕ, zero, suc, ◌+◌, ◌-◌, ◌^◌, ◌<◌}
use Rattle.std.proofs.Common.{◌≤◌, true, List, [], ◌∷◌, length, refl, arith, Option}
use Rattle.std.proofs.Common.{eqb}
use Rattle.std.specs.Prelude.{nat_lt, nat_le, slice_index, Some}
use Rattle.std.proofs.lemmas.Bool.{and_parts}
use Rattle.std.proofs.lemmas.Bool.Decides.{nat_tests}
use Rattle.std.specs.Str.{IsUtf8, IsCharBoundary}
use Rattle.std.proofs.lemmas.Str.{IsCharBoundary-start}
use Rattle.std.proofs.lemmas.List.{length-map}
use Rattle.codespan_base.specs.declared.files.Location.{Location}
use Rattle.codespan_base.specs.FileModel.{FileModel}
use Rattle.codespan_base.specs.LawfulFiles.{IsLawful}
use Rattle.codespan_base.specs.Lines.{is_char_boundary}
use Rattle.codespan_base.specs.SimpleModel.{simple_file}
use Rattle.codespan_base.specs.Lemmas.Simple.{renumbered_lawful, simple_lawful}
use Rattle.codespan_native.specs.declared.raw.RawLine.{RawLine}
use Rattle.codespan_native.specs.StatedLines.{are_lines, are_next_lines, ends_of, starts_of}
use Rattle.codespan_native.specs.SourceTexts.{native_file_model, stated_text, newline_text}

-- a text cut at newlines makes a lawful file
pub newline_lawful : (name text : List ℕ) (first_line : ℕ) (stated : ℕ → Option Location)
    → IsUtf8 text → length text < 2 ^ 64
    → IsLawful (native_file_model
    (record { text = newline_text name text first_line; stated_location = stated }))
newline_lawful name text first_line stated u fits =
    let f : FileModel =
    native_file_model (record {
      text = newline_text name text first_line;
      stated_location = stated;
    }) in
    renumbered_lawful (simple_file (Some name) text) f.line_number f.column_number f.location
    (simple_lawful (Some name) text u fits)

-- where `is_char_boundary` holds there is a boundary
boundary : (text : List ℕ) (i : ℕ) → is_char_boundary text i ≡ true
    → IsCharBoundary text i
boundary text i e = grind (arith, nat_tests, e)

module _ (text : List ℕ) (first_byte : ℕ) where
  -- lines one after another
  record Chain (ls : List RawLine) : Type 0 where
    pub ascending : (i : ℕ) → i + 1 < length (starts_of first_byte ls)
        → slice_index (starts_of first_byte ls) i < slice_index (starts_of first_byte ls) (i + 1)
    pub starts_on_boundaries : (i : ℕ) → i < length (starts_of first_byte ls)
        → IsCharBoundary text (slice_index (starts_of first_byte ls) i)
    pub ends_on_boundaries : (i : ℕ) → i < length (starts_of first_byte ls)
        → IsCharBoundary text (slice_index (ends_of first_byte ls) i)
    pub ends_after_start : (i : ℕ) → i < length (starts_of first_byte ls)
        → slice_index (starts_of first_byte ls) i ≤ slice_index (ends_of first_byte ls) i
    pub ends_before_next : (i : ℕ) → i + 1 < length (starts_of first_byte ls)
        → slice_index (ends_of first_byte ls) i ≤ slice_index (starts_of first_byte ls) (i + 1)

  -- what `are_next_lines` says of the first of some lines, and of those after it
  record Step (start end : ℕ) (l : RawLine) (ls : List RawLine) : Type 0 where
    pub later : start < l.start - first_byte
    pub apart : end ≤ l.start - first_byte
    pub inside : l.start - first_byte ≤ l.end - first_byte
    pub start_cut : IsCharBoundary text (l.start - first_byte)
    pub end_cut : IsCharBoundary text (l.end - first_byte)
    pub rest : are_next_lines text first_byte (l.start - first_byte) (l.end - first_byte) ls
        ≡ true

  step : (start end : ℕ) (l : RawLine) (ls : List RawLine)
      → are_next_lines text first_byte start end (l ∷ ls) ≡ true → Step start end l ls
  step start end l ls e =
      let a = and_parts (nat_lt start (l.start - first_byte)) _ e in
      let b = and_parts (nat_le end (l.start - first_byte)) _ a.1 in
      let c = and_parts (nat_le (l.start - first_byte) (l.end - first_byte)) _ b.1 in
      let d = and_parts (is_char_boundary text (l.start - first_byte)) _ c.1 in
      let f = and_parts (is_char_boundary text (l.end - first_byte)) _ d.1 in
      record {
        later = grind (arith, nat_tests, a.0);
        apart = grind (arith, nat_tests, b.0);
        inside = grind (arith, nat_tests, c.0);
        start_cut = boundary text (l.start - first_byte) d.0;
        end_cut = boundary text (l.end - first_byte) f.0;
        rest = f.1;
      }

  -- one line is a chain
  chain_one : (l : RawLine) → IsCharBoundary text (l.start - first_byte)
      → IsCharBoundary text (l.end - first_byte) → l.start - first_byte ≤ l.end - first_byte
      → Chain (l ∷ [])
  chain_one l s e h = record {
    ascending = λ i p. absurd (omega (arith, p));
    starts_on_boundaries = start_on_boundary;
    ends_on_boundaries = end_on_boundary;
    ends_after_start = end_after_start;
    ends_before_next = λ i p. absurd (omega (arith, p));
  }
    where
      start_on_boundary : (i : ℕ) → i < 1
          → IsCharBoundary text (slice_index ((l.start - first_byte) ∷ []) i)
      start_on_boundary zero p = s
      start_on_boundary (suc i) p = absurd (omega (arith, p))

      end_on_boundary : (i : ℕ) → i < 1
          → IsCharBoundary text (slice_index ((l.end - first_byte) ∷ []) i)
      end_on_boundary zero p = e
      end_on_boundary (suc i) p = absurd (omega (arith, p))

      end_after_start : (i : ℕ) → i < 1
          → slice_index ((l.start - first_byte) ∷ []) i ≤ slice_index
          ((l.end - first_byte) ∷ []) i
      end_after_start zero p = h
      end_after_start (suc i) p = absurd (omega (arith, p))

  -- a line before a chain that follows it
  chain_more : (l m : RawLine) (ms : List RawLine) → IsCharBoundary text (l.start - first_byte)
      → IsCharBoundary text (l.end - first_byte) → l.start - first_byte ≤ l.end - first_byte
      → l.start - first_byte < m.start - first_byte
      → l.end - first_byte ≤ m.start - first_byte
      → Chain (m ∷ ms) → Chain (l ∷ m ∷ ms)
  chain_more l m ms s e h later apart c = record {
    ascending = ascending;
    starts_on_boundaries = starts_on_boundaries;
    ends_on_boundaries = ends_on_boundaries;
    ends_after_start = ends_after_start;
    ends_before_next = ends_before_next;
  }
    where
      ascending : (i : ℕ) → i + 1 < length (starts_of first_byte (l ∷ m ∷ ms))
          → slice_index (starts_of first_byte (l ∷ m ∷ ms)) i
          < slice_index (starts_of first_byte (l ∷ m ∷ ms)) (i + 1)
      ascending zero p = later
      ascending (suc k) p =
          let q : suc k + 1 ≡ suc (k + 1) = omega arith in rw q (c.ascending k (omega (arith, p)))

      starts_on_boundaries : (i : ℕ) → i < length (starts_of first_byte (l ∷ m ∷ ms))
          → IsCharBoundary text (slice_index (starts_of first_byte (l ∷ m ∷ ms)) i)
      starts_on_boundaries zero p = s
      starts_on_boundaries (suc k) p = c.starts_on_boundaries k (omega (arith, p))

      ends_on_boundaries : (i : ℕ) → i < length (starts_of first_byte (l ∷ m ∷ ms))
          → IsCharBoundary text (slice_index (ends_of first_byte (l ∷ m ∷ ms)) i)
      ends_on_boundaries zero p = e
      ends_on_boundaries (suc k) p = c.ends_on_boundaries k (omega (arith, p))

      ends_after_start : (i : ℕ) → i < length (starts_of first_byte (l ∷ m ∷ ms))
          → slice_index (starts_of first_byte (l ∷ m ∷ ms)) i
          ≤ slice_index (ends_of first_byte (l ∷ m ∷ ms)) i
      ends_after_start zero p = h
      ends_after_start (suc k) p = c.ends_after_start k (omega (arith, p))

      ends_before_next : (i : ℕ) → i + 1 < length (starts_of first_byte (l ∷ m ∷ ms))
          → slice_index (ends_of first_byte (l ∷ m ∷ ms)) i
          ≤ slice_index (starts_of first_byte (l ∷ m ∷ ms)) (i + 1)
      ends_before_next zero p = apart
      ends_before_next (suc k) p =
          let q : suc k + 1 ≡ suc (k + 1) = omega arith in
          rw q (c.ends_before_next k (omega (arith, p)))

  -- lines for which `are_next_lines` holds are a chain
  chain : (l : RawLine) (ls : List RawLine) → IsCharBoundary text (l.start - first_byte)
      → IsCharBoundary text (l.end - first_byte) → l.start - first_byte ≤ l.end - first_byte
      → are_next_lines text first_byte (l.start - first_byte) (l.end - first_byte) ls ≡ true
      → Chain (l ∷ ls)
  chain l [] s e h t = chain_one l s e h
  chain l (m ∷ ms) s e h t =
      let x = step (l.start - first_byte) (l.end - first_byte) m ms t in
      chain_more l m ms s e h x.later x.apart (chain m ms x.start_cut x.end_cut x.inside x.rest)

-- a text cut into lines for which `are_lines` holds makes a lawful file
pub stated_lawful : (name text : List ℕ) (first_byte : ℕ) (lines : List RawLine)
    (stated : ℕ → Option Location) → IsUtf8 text → length text < 2 ^ 64
    → are_lines text first_byte lines ≡ true
    → IsLawful (native_file_model
    (record { text = stated_text name text first_byte lines; stated_location = stated }))
stated_lawful name text first_byte [] stated u fits t = absurd (cc)
stated_lawful name text first_byte (l ∷ ls) stated u fits t =
    let a = and_parts (eqb (l.start - first_byte) 0) _ t in
    let b = and_parts (is_char_boundary text (l.end - first_byte)) _ a.1 in
    let zero_start : l.start - first_byte ≡ 0 = grind (arith, nat_tests, a.0) in
    let c = chain text first_byte l ls (rw zero_start (IsCharBoundary-start text u))
    (boundary text (l.end - first_byte) b.0) (omega (arith, zero_start)) b.1 in
    record {
      is_utf8 = u;
      fits = fits;
      has_line = omega arith;
      first = zero_start;
      ascending = c.ascending;
      starts_on_boundaries = c.starts_on_boundaries;
      ends_on_boundaries = c.ends_on_boundaries;
      ends_after_start = c.ends_after_start;
      ends_before_next = c.ends_before_next;
      same_length = simp length-map refl;
      missing_name = λ e. absurd (cc);
      missing_text = λ e. absurd (cc);
    }
