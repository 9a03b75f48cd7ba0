-- The laws of positions, for the clauses of `laws`.
use Rattle.std.proofs.Common.{◌≡◌, ℕ, ◌+◌, ◌-◌, ◌<◌, ◌≤◌, List, ◌∷◌}
use Rattle.std.proofs.Common.{◌++◌, length, take, drop, ap, sym, ◌∙◌, refl, subst, arith}
use Rattle.std.proofs.Common.{inl, inr, length-append, length-take, length-drop}
use Rattle.std.specs.Prelude.{Some, None, slice_range, encode_utf8, encode_utf8_all}
use Rattle.std.proofs.lemmas.Bool.{cases_order, cases_eq}
use Rattle.std.proofs.lemmas.List.{take-append-drop, take-take, drop-take, drop-drop}
use Rattle.std.proofs.lemmas.Str.{IsUtf8-between, chars-append, chars_past_char, encodes-chars}
use Rattle.std.proofs.lemmas.Str.{length-encode, len_utf8_bounds}
use Rattle.std.specs.Str.{chars, IsUtf8, IsCharBoundary}
use Rattle.codespan_base.specs.FileModel.{FileModel, line_count, line_of, line_start, line_text}
use Rattle.codespan_base.specs.LawfulFiles.{IsLawful, line_end}
use Rattle.codespan_base.specs.Lemmas.Lines.{line_of_below, line_of-rises}
use Rattle.codespan_base.specs.declared.files.Error.TheVariants.{InvalidCharBoundary}
use Rattle.codespan_lsp.specs.Units.{total_units, code_units, prefix_within}
use Rattle.codespan_lsp.specs.Positions.{units_before, position_of, IsByteAt, character_failure}
use Rattle.codespan_lsp.specs.PositionLaws.{IsOnLine, RoundTrip, IsEarlierPosition, IsInside}
use Rattle.codespan_lsp.specs.PositionLaws.{PositionsReturn, PositionsAscend, ErrorsHaveNoByte}
use Rattle.codespan_lsp.specs.PositionLaws.{InsideIsNoBoundary}
use Rattle.codespan_lsp.specs.declared.encoding.PositionEncoding.{PositionEncoding}
use Rattle.codespan_lsp.specs.declared.positions.Position.{Position}
use Rattle.codespan_lsp.proofs.UnitLemmas.{code_units-append, code_units-some}
use Rattle.codespan_lsp.proofs.LineLemmas.{line_of-start}
use Rattle.codespan_lsp.proofs.PrefixLemmas.{prefix-exact, prefix-inside}
use Rattle.codespan_lsp.proofs.CutLemmas.{prefix-is-at}
use Rattle.codespan_lsp.proofs.ErrorLemmas.{character_failure-none, character_failure-past}
use Rattle.codespan_lsp.proofs.ErrorLemmas.{character_failure-inside}
use Rattle.std.proofs.lemmas.Grind.{common_steps}

-- a part of a text in two
slice-parts : (text : List ℕ) (start a b : ℕ) → start ≤ a → a ≤ b
    → slice_range text start b ≡ slice_range text start a ++ slice_range text a b
slice-parts text start a b low high =
    let xs : List ℕ = drop start text in
    let m : ℕ = a - start in
    let k : ℕ = b - a in
    let size : b - start ≡ m + k = omega arith in
    let at : start + m ≡ a = omega arith in
    let front : take m (take (m + k) xs) ≡ take m xs = take-take m (m + k) xs (omega arith) in
    let back : drop m (take (m + k) xs) ≡ take k (drop a text) =
    drop-take m k xs ∙ ap (take k) (drop-drop m start text ∙ ap (λ n. drop n text) at) in
    ap (λ n. take n xs) size
    ∙ (sym (take-append-drop m (take (m + k) xs))
    ∙ (ap (λ ys. ys ++ drop m (take (m + k) xs)) front ∙ ap (λ zs. take m xs ++ zs) back))

-- and its length
slice-length : (text : List ℕ) (a b : ℕ) → b ≤ length text
    → length (slice_range text a b) ≡ b - a
slice-length text a b h = omega (arith, h, length-take (b - a) (drop a text), length-drop a text)

module _ (encoding : PositionEncoding) (f : FileModel) (law : IsLawful f) where
  -- a later byte of a line has more code units before it
  units-rise : (i a b : ℕ) → i < line_count f → line_start f i ≤ a → a < b
      → IsCharBoundary f.text a → IsCharBoundary f.text b
      → units_before encoding f i a < units_before encoding f i b
  units-rise i a b exists low less at_a at_b =
      let start : ℕ = line_start f i in
      let front : IsUtf8 (slice_range f.text start a) =
      IsUtf8-between f.text start a law.is_utf8 low (law.starts_on_boundaries i exists) at_a in
      let between : IsUtf8 (slice_range f.text a b) =
      IsUtf8-between f.text a b law.is_utf8 (omega arith) at_a at_b in
      let size : length (slice_range f.text a b) ≡ b - a = slice-length f.text a b at_b.0 in
      let some =
      code_units-some encoding (slice_range f.text a b) between (omega (arith, size, less)) in
      let sum : code_units encoding (slice_range f.text start b)
      ≡ code_units encoding (slice_range f.text start a)
      + code_units encoding (slice_range f.text a b) =
      ap (code_units encoding) (slice-parts f.text start a b low (omega arith))
      ∙ code_units-append encoding (slice_range f.text start a) (slice_range f.text a b)
      front in
      omega (arith, some, sum)

  -- only one byte is at a position
  unique : (p : Position) (a b : ℕ) → IsByteAt encoding f p a → IsByteAt encoding f p b
      → a ≡ b
  unique p a b at_a at_b =
      elim (cases_order a b) [
        | inl same ↦ same
        | inr apart ↦ elim apart [
          | inl less ↦ absurd (omega (
            arith,
            at_a.units,
            at_b.units,
            units-rise p.line a b at_a.line_exists at_a.from_start
                less at_a.boundary at_b.boundary,
          ))
          | inr more ↦ absurd (omega (
            arith,
            at_a.units,
            at_b.units,
            units-rise p.line b a at_b.line_exists at_b.from_start
                more at_b.boundary at_a.boundary,
          ))
        ]
      ]

  -- a byte of a line is at its position
  at-own : (byte : ℕ) → IsOnLine f byte
      → IsByteAt encoding f (position_of encoding f byte) byte
  at-own byte on = record {
    line_exists = line_of_below f.starts byte law.has_line;
    from_start = line_of-start f law byte;
    to_end = on.to_end;
    boundary = on.boundary;
    units = refl;
  }

  returns : (byte : ℕ) → IsOnLine f byte → RoundTrip encoding f byte
  returns byte on = record {
    is_at = at-own byte on;
    unique = λ other at. unique (position_of encoding f byte) other byte at (at-own byte on);
  }

  ascends : (a b : ℕ) → IsOnLine f a → IsOnLine f b → a < b
      → IsEarlierPosition (position_of encoding f a) (position_of encoding f b)
  ascends a b on_a on_b less =
      let i : ℕ = line_of f.starts a in
      let j : ℕ = line_of f.starts b in
      elim (cases_order i j) [
        | inl same ↦ inr (
          same,
          subst (λ k. units_before encoding f i a < units_before encoding f k b) same
              (units-rise i a b (line_of_below f.starts a law.has_line) (line_of-start f law a) less
              on_a.boundary on_b.boundary),
        )
        | inr apart ↦ elim apart [
          | inl early ↦ inl early
          | inr late ↦ absurd (omega (arith, late, line_of-rises f.starts a b (omega arith)))
        ]
      ]

  -- a line's characters are those before a byte and those after it
  chars-parts : (i byte : ℕ) → i < line_count f → line_start f i ≤ byte
      → byte ≤ line_end f i
      → IsCharBoundary f.text byte
      → chars (line_text f i) ≡ chars (slice_range f.text (line_start f i) byte) ++ chars
      (slice_range f.text byte (line_end f i))
  chars-parts i byte exists low high at =
      let front : IsUtf8 (slice_range f.text (line_start f i) byte) =
      IsUtf8-between f.text (line_start f i) byte law.is_utf8 low
      (law.starts_on_boundaries i exists) at in
      ap chars (slice-parts f.text (line_start f i) byte (line_end f i) low high)
      ∙ chars-append (slice_range f.text (line_start f i) byte)
      (slice_range f.text byte (line_end f i)) front

  line-utf8 : (i : ℕ) → i < line_count f → IsUtf8 (line_text f i)
  line-utf8 i exists =
      IsUtf8-between f.text (line_start f i) (line_end f i) law.is_utf8
      (law.ends_after_start i exists) (law.starts_on_boundaries i exists)
      (law.ends_on_boundaries i exists)

  -- where a byte is at a position there is no error
  none-at : (p : Position) (byte : ℕ) → IsByteAt encoding f p byte
      → character_failure encoding (line_start f p.line) (line_text f p.line) p.character ≡ None
  none-at p byte at =
      let front : List ℕ = chars (slice_range f.text (line_start f p.line) byte) in
      let back : List ℕ = chars (slice_range f.text byte (line_end f p.line)) in
      let parts = chars-parts p.line byte at.line_exists at.from_start at.to_end at.boundary in
      let prefix : prefix_within encoding p.character (chars (line_text f p.line)) ≡ front =
      ap (prefix_within encoding p.character) parts
      ∙ prefix-exact encoding p.character front back at.units in
      character_failure-none encoding (line_text f p.line) p.character
      (line-utf8 p.line at.line_exists) (line_start f p.line)
      (ap (total_units encoding) prefix ∙ at.units)

  -- and where there is none a byte is
  at-none : (p : Position) → p.line < line_count f
      → character_failure encoding (line_start f p.line) (line_text f p.line) p.character ≡ None
      → (byte : ℕ) × IsByteAt encoding f p byte
  at-none p exists none =
      grind (
        arith,
        common_steps,
        line-utf8,
        cases_eq,
        prefix-is-at,
        character_failure-past,
        character_failure-inside,
      )

  inside : (p : Position) (byte c : ℕ) → IsInside encoding f p byte c
      → character_failure encoding (line_start f p.line) (line_text f p.line) p.character
      ≡ Some (InvalidCharBoundary byte)
  inside p byte c is =
      let n : ℕ = p.character in
      let line : List ℕ = line_text f p.line in
      let start : ℕ = line_start f p.line in
      let end : ℕ = line_end f p.line in
      let text : List ℕ = slice_range f.text start byte in
      let rest : List ℕ = is.starts.0 in
      let after_utf8 : IsUtf8 (slice_range f.text byte end) =
      IsUtf8-between f.text byte end law.is_utf8 is.to_end is.boundary
      (law.ends_on_boundaries p.line is.line_exists) in
      let front_utf8 : IsUtf8 text = IsUtf8-between f.text start byte law.is_utf8 is.from_start
      (law.starts_on_boundaries p.line is.line_exists) is.boundary in
      let parts : chars line ≡ chars text ++ c ∷ chars rest =
      chars-parts p.line byte is.line_exists is.from_start is.to_end is.boundary
      ∙ ap (λ xs. chars text ++ xs)
      (chars_past_char (slice_range f.text byte end) rest c after_utf8 is.starts.1) in
      let prefix : prefix_within encoding n (chars line) ≡ chars text =
      ap (prefix_within encoding n) parts
      ∙ prefix-inside encoding n (chars text) c (chars rest) (omega (arith, is.after))
      is.before in
      let bytes : length (encode_utf8_all (prefix_within encoding n (chars line)))
      ≡ byte - start =
      ap (λ cs. length (encode_utf8_all cs)) prefix
      ∙ (ap length (encodes-chars text front_utf8)
      ∙ slice-length f.text start byte is.boundary.0) in
      let size : length line ≡ end - start =
      slice-length f.text start end (law.ends_on_boundaries p.line is.line_exists).0 in
      let left : length (slice_range f.text byte end) ≡ end - byte =
      slice-length f.text byte end (law.ends_on_boundaries p.line is.line_exists).0 in
      let wide : 0 < length (slice_range f.text byte end) = omega (
        arith,
        ap length is.starts.1,
        length-append (encode_utf8 c) rest,
        length-encode c,
        (len_utf8_bounds c).0,
      ) in
      let units : total_units encoding (prefix_within encoding n (chars line))
      ≡ units_before encoding f p.line byte =
      ap (total_units encoding) prefix in
      let found = character_failure-inside encoding line n (line-utf8 p.line is.line_exists) start
      (λ same. omega (arith, same, units, is.after))
      (λ same. omega (arith, same, bytes, size, left, wide, is.from_start)) in
      let here : start + length (encode_utf8_all (prefix_within encoding n (chars line))) ≡ byte =
      omega (arith, bytes, is.from_start) in
      found ∙ ap (λ k. Some (InvalidCharBoundary k)) here

pub positions-return : PositionsReturn
positions-return encoding f byte law on = returns encoding f law byte on

pub positions-ascend : PositionsAscend
positions-ascend encoding f a b law on_a on_b less = ascends encoding f law a b on_a on_b less

pub errors-have-no-byte : ErrorsHaveNoByte
errors-have-no-byte encoding f p law exists = grind (arith, common_steps, at-none, none-at)

pub inside-is-no-boundary : InsideIsNoBoundary
inside-is-no-boundary encoding f p byte c law is = inside encoding f law p byte c is
