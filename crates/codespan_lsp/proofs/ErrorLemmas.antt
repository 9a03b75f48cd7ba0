-- The error of a character of a line, case by case, for the clauses of `byte_of_character`.
use Rattle.std.proofs.Common.{◌≡◌, ℕ, ◌+◌, List, length, ap, sym, ◌∙◌}
use Rattle.std.proofs.Common.{arith, length-append}
use Rattle.std.specs.Prelude.{encode_utf8_all, Some, None}
use Rattle.std.proofs.lemmas.Bool.{cases_lt, lt-ltb, le-ltb, eq-eqb, ne_eqb}
use Rattle.std.proofs.lemmas.List.Sums.{sum_by-append}
use Rattle.std.proofs.lemmas.Str.{encodes-append, encodes-chars, scalars-chars}
use Rattle.std.specs.Str.{chars, IsUtf8}
use Rattle.codespan_base.specs.declared.files.Error.TheVariants.{ColumnTooLarge}
use Rattle.codespan_base.specs.declared.files.Error.TheVariants.{InvalidCharBoundary}
use Rattle.codespan_lsp.specs.Units.{char_units, total_units, code_units, prefix_within}
use Rattle.codespan_lsp.specs.Positions.{character_failure}
use Rattle.codespan_lsp.specs.declared.encoding.PositionEncoding.{PositionEncoding}
use Rattle.codespan_lsp.proofs.UnitLemmas.{total_units-le}
use Rattle.codespan_lsp.proofs.PrefixLemmas.{Cut, prefix-cut, prefix-le, prefix-whole}
use Rattle.std.proofs.lemmas.Grind.{common_steps}

module _ (encoding : PositionEncoding) (line : List ℕ) (n : ℕ) (utf8 : IsUtf8 line) where
  -- the line has the code units and the bytes of the prefix, and those of what follows it
  record Parts : Type 0 where
    pub back : List ℕ
    pub units : code_units encoding line ≡ total_units encoding
        (prefix_within encoding n (chars line)) + total_units encoding back
    pub bytes : length line ≡ length
        (encode_utf8_all (prefix_within encoding n (chars line))) + length (encode_utf8_all back)

  parts : Parts
  parts =
      let front : List ℕ = prefix_within encoding n (chars line) in
      let cut : Cut (chars line) front =
      prefix-cut encoding n (chars line) (scalars-chars line utf8) in
      record {
        back = cut.back;
        units =
            ap (total_units encoding) cut.whole_is
            ∙ sum_by-append (char_units encoding) front cut.back;
        bytes =
            ap length
            (sym (encodes-chars line utf8)
            ∙ (ap encode_utf8_all cut.whole_is ∙ encodes-append front cut.back))
            ∙ length-append (encode_utf8_all front) (encode_utf8_all cut.back);
      }

  -- no error where the prefix has all the code units
  pub character_failure-none : (start : ℕ)
      → total_units encoding (prefix_within encoding n (chars line)) ≡ n
      → character_failure encoding start line n ≡ None
  character_failure-none start h = grind (arith, common_steps, le-ltb, parts, eq-eqb)

  -- past the line's end the prefix is the line
  pub character_failure-past : (start : ℕ)
      → ¬ (total_units encoding (prefix_within encoding n (chars line)) ≡ n)
      → length (encode_utf8_all (prefix_within encoding n (chars line))) ≡ length line
      → character_failure encoding start line n
      ≡ Some (ColumnTooLarge n (total_units encoding (prefix_within encoding n (chars line))))
  character_failure-past start apart whole =
      grind (arith, common_steps, prefix-le, total_units-le, parts, lt-ltb)

  -- elsewhere it ends before the character that the code units end in
  pub character_failure-inside : (start : ℕ)
      → ¬ (total_units encoding (prefix_within encoding n (chars line)) ≡ n)
      → ¬ (length (encode_utf8_all (prefix_within encoding n (chars line))) ≡ length line)
      → character_failure encoding start line n
      ≡ Some
      (InvalidCharBoundary
      (start + length (encode_utf8_all (prefix_within encoding n (chars line)))))
  character_failure-inside start apart part =
      grind (arith, common_steps, cases_lt, prefix-whole, encodes-chars, le-ltb, ne_eqb)
