-- Facts on a line cut after a prefix, for the value of `position_to_byte_index` and for the laws.
use Rattle.std.proofs.Common.{◌≡◌, ℕ, ◌+◌, ◌-◌, ◌<◌, ◌≤◌, List, ◌++◌}
use Rattle.std.proofs.Common.{length, take, drop, Result, Ok, Err, ap, sym, ◌∙◌, refl}
use Rattle.std.proofs.Common.{arith, append_assoc, length-append, length-take}
use Rattle.std.specs.Prelude.{encode_utf8_all, slice_range, IfOk}
use Rattle.std.proofs.lemmas.List.{take_at, take-append-drop, drop-drop}
use Rattle.std.proofs.lemmas.Str.{chars-encodes, encodes-append, encodes-chars, scalars-chars}
use Rattle.std.proofs.lemmas.Str.{IsUtf8-append, IsUtf8-drop, IsUtf8-between}
use Rattle.std.proofs.lemmas.Str.{IsCharBoundary-at_seam, IsCharBoundary-from_rest}
use Rattle.std.specs.Str.{chars, IsUtf8, IsCharBoundary}
use Rattle.codespan_base.specs.FileModel.{FileModel, line_count, line_start, line_text}
use Rattle.codespan_base.specs.LawfulFiles.{IsLawful, line_end}
use Rattle.codespan_base.specs.declared.files.Error.{Error}
use Rattle.codespan_lsp.specs.Positions.{IsByteAt}
use Rattle.codespan_lsp.specs.declared.positions.Position.{Position}
use Rattle.codespan_lsp.specs.Units.{total_units, code_units, prefix_within}
use Rattle.codespan_lsp.specs.declared.encoding.PositionEncoding.{PositionEncoding}
use Rattle.codespan_lsp.proofs.PrefixLemmas.{Cut, prefix-cut}
use Rattle.std.proofs.lemmas.Grind.{common_steps}

-- what a line's prefix of whole characters is in the text
pub record IsPrefixAt (encoding : PositionEncoding) (text : List ℕ) (start end n : ℕ) : Type 0
  where
    pub within : start + length
        (encode_utf8_all (prefix_within encoding n (chars (slice_range text start end)))) ≤ end
    pub boundary : IsCharBoundary text
        (start
        + length (encode_utf8_all (prefix_within encoding n (chars (slice_range text start end)))))
    pub units : code_units encoding
        (slice_range text start
        (start
        + length (encode_utf8_all (prefix_within encoding n (chars (slice_range text start end))))))
        ≡ total_units encoding (prefix_within encoding n (chars (slice_range text start end)))

-- what follows a byte is the line's rest and the text after it
rest-is : (text : List ℕ) (start end : ℕ) → start ≤ end
    → drop start text ≡ slice_range text start end ++ drop end text
rest-is text start end order =
    let after : start + (end - start) ≡ end = omega arith in
    let parts = take-append-drop (end - start) (drop start text) in
    let tail : drop (end - start) (drop start text) ≡ drop end text =
    drop-drop (end - start) start text ∙ ap (λ k. drop k text) after in
    sym parts ∙ ap (λ xs. take (end - start) (drop start text) ++ xs) tail

pub prefix-is_prefix_at : (encoding : PositionEncoding) (text : List ℕ) (start end n : ℕ)
    → IsUtf8 text
    → start ≤ end → IsCharBoundary text start → IsCharBoundary text end
    → IsPrefixAt encoding text start end n
prefix-is_prefix_at encoding text start end n utf8 order from to =
    let line : List ℕ = slice_range text start end in
    let front : List ℕ = prefix_within encoding n (chars line) in
    let line_utf8 : IsUtf8 line = IsUtf8-between text start end utf8 order from to in
    let cut : Cut (chars line) front =
    prefix-cut encoding n (chars line) (scalars-chars line line_utf8) in
    let line_is : line ≡ encode_utf8_all front ++ encode_utf8_all cut.back =
    sym (encodes-chars line line_utf8)
    ∙ (ap encode_utf8_all cut.whole_is ∙ encodes-append front cut.back) in
    let all_is : drop start text ≡ encode_utf8_all front
    ++ (encode_utf8_all cut.back ++ drop end text) =
    rest-is text start end order
    ∙ (ap (λ xs. xs ++ drop end text) line_is
    ∙ append_assoc (encode_utf8_all front) (encode_utf8_all cut.back) (drop end text)) in
    let back_utf8 : IsUtf8 (encode_utf8_all cut.back ++ drop end text) =
    IsUtf8-append (encode_utf8_all cut.back) (drop end text) (cut.back, (cut.back_chars, refl))
    (IsUtf8-drop text end utf8 to) in
    let seam : IsCharBoundary (drop start text) (length (encode_utf8_all front)) =
    IsCharBoundary-at_seam (drop start text) (encode_utf8_all front)
    (encode_utf8_all cut.back ++ drop end text) all_is back_utf8 in
    let same : start + length (encode_utf8_all front) - start ≡ length (encode_utf8_all front) =
    omega arith in
    let taken : slice_range text start (start + length (encode_utf8_all front))
    ≡ encode_utf8_all front =
    ap (λ k. take k (drop start text)) same
    ∙ (ap (take (length (encode_utf8_all front))) all_is
    ∙ take_at (encode_utf8_all front) (encode_utf8_all cut.back ++ drop end text)
    (length (encode_utf8_all front)) refl) in
    let size : length line ≤ end - start =
    omega (arith, length-take (end - start) (drop start text)) in
    record {
      within =
          omega (
            arith,
            size,
            order,
            ap length line_is,
            length-append (encode_utf8_all front) (encode_utf8_all cut.back),
          );
      boundary = IsCharBoundary-from_rest text start (length (encode_utf8_all front)) from.0 seam;
      units =
          ap (code_units encoding) taken
          ∙ ap (total_units encoding) (chars-encodes front cut.front_chars);
    }

module _ (encoding : PositionEncoding) (f : FileModel) (law : IsLawful f) (p : Position)
    (exists : p.line < line_count f) where
  -- the prefix of so many code units ends at the byte of a position
  pub prefix-is-at : total_units encoding
      (prefix_within encoding p.character (chars (line_text f p.line))) ≡ p.character
      → IsByteAt encoding f p
      (line_start f p.line
      + length (encode_utf8_all (prefix_within encoding p.character (chars (line_text f p.line)))))
  prefix-is-at units =
      let is_prefix_at : IsPrefixAt encoding f.text (line_start f p.line) (line_end f p.line)
      p.character =
      prefix-is_prefix_at encoding f.text (line_start f p.line) (line_end f p.line) p.character
      law.is_utf8
      (law.ends_after_start p.line exists) (law.starts_on_boundaries p.line exists)
      (law.ends_on_boundaries p.line exists) in
      record {
        line_exists = exists;
        from_start = omega arith;
        to_end = is_prefix_at.within;
        boundary = is_prefix_at.boundary;
        units = is_prefix_at.units ∙ units;
      }

  -- and so does what is returned for it
  pub returned-is-at : (start : ℕ) (line : List ℕ) → start ≡ line_start f p.line
      → line ≡ line_text f p.line
      → (r : Result ℕ Error)
      → IfOk r
      (λ byte. byte ≡ start
      + length (encode_utf8_all (prefix_within encoding p.character (chars line))))
      → IfOk r
      (λ byte. total_units encoding (prefix_within encoding p.character (chars line))
      ≡ p.character)
      → IfOk r (IsByteAt encoding f p)
  returned-is-at start line start_is line_is (Ok byte) at units =
      grind (arith, common_steps, prefix-is-at)
  returned-is-at start line start_is line_is (Err e) at units = tt
