-- A file that has a line for each index, made for tests.
use Rattle.std.proofs.Common.{◌≡◌, ℕ, ◌+◌, ◌-◌, ◌^◌, ◌<◌, ◌≤◌, true}
use Rattle.std.proofs.Common.{List, length, get_or, replicate, Option, Some, None, refl, arith}
use Rattle.std.proofs.Common.{⊎_elim}
use Rattle.std.specs.Prelude.{slice_index, nat_lt, if◌then◌else◌}
use Rattle.std.specs.List.{range_with_len}
use Rattle.std.specs.Str.{IsCharBoundary, IsUtf8}
use Rattle.std.proofs.lemmas.Bool.{cases_lt}
use Rattle.std.proofs.lemmas.List.{get_or-replicate, length-replicate}
use Rattle.std.proofs.lemmas.List.FromFn.{get_or-range_with_len, length-range_with_len}
use Rattle.std.proofs.lemmas.List.Elements.{All-replicate}
use Rattle.std.proofs.lemmas.Str.{IsCharBoundary-before_ascii, IsUtf8-from_ascii}
use Rattle.std.proofs.lemmas.Str.Ascii.{IsAscii-from_all}
use Rattle.codespan_base.specs.declared.files.Error.{Error}
use Rattle.codespan_base.specs.declared.files.Error.TheVariants.{FileMissing, LineTooLarge}
use Rattle.codespan_base.specs.FileModel.{FileModel, Lookup, line_of}
use Rattle.codespan_base.specs.LawfulFiles.{IsLawful, FailsPastLastLine}
use Rattle.codespan_base.specs.FileModel.Lookup.{Source, LineRange}
use Rattle.codespan_base.specs.Lemmas.Lines.{count_split}
use Rattle.codespan_base.specs.Lemmas.Simple.{past_last_line_is}

-- the greatest index
unfoldable pub greatest : ℕ
greatest = 2 ^ 64 - 1

-- a text of newlines, as long as one can be
unfoldable pub longest_text : List ℕ
longest_text = replicate greatest 10

-- a line starts at each of its bytes, and one at its end
unfoldable pub longest_starts : List ℕ
longest_starts = range_with_len 0 (greatest + 1)

-- its lines are empty, and have their indices as numbers
abbrev pub longest_file : List ℕ → FileModel
longest_file name = record {
  exists = true;
  name = Some name;
  text = longest_text;
  starts = longest_starts;
  ends = longest_starts;
  line_number = λ i. i;
  column_number = λ i byte. 1;
  location = λ byte. record { line_number = byte; column_number = 1 };
}

-- the source fails, and lines past all indices
abbrev pub longest_failure : Lookup → Option Error
longest_failure Source = Some FileMissing
longest_failure (LineRange i) =
    if nat_lt i (2 ^ 64) then None else Some (LineTooLarge i (2 ^ 64 - 1))
longest_failure _ = None

greatest_is : greatest ≡ 2 ^ 64 - 1
unfolding greatest
greatest_is = refl

text_len : length longest_text ≡ greatest
unfolding longest_text
text_len = length-replicate greatest 10

-- the text is UTF-8
text_is : IsUtf8 longest_text
unfolding longest_text
text_is =
    IsUtf8-from_ascii (replicate greatest 10)
    (IsAscii-from_all (replicate greatest 10)
    (All-replicate (λ (b : ℕ). b < 128) greatest 10 (omega arith)))

text_at : (i : ℕ) → i < greatest → get_or longest_text i 0 ≡ 10
unfolding longest_text
text_at i h = get_or-replicate greatest i 10 0 h

starts_are : length longest_starts ≡ greatest + 1
unfolding longest_starts
starts_are = length-range_with_len 0 (greatest + 1)

pub starts_len : length longest_starts ≡ 2 ^ 64
starts_len = omega (arith, starts_are, greatest_is)

pub start_at : (i : ℕ) → i < 2 ^ 64 → slice_index longest_starts i ≡ i
unfolding longest_starts
start_at i h =
    omega (arith, get_or-range_with_len 0 (greatest + 1) i 0 (omega (arith, h, greatest_is)))

-- each index of the text is a boundary
cut_at : (i : ℕ) → i < length longest_starts
    → IsCharBoundary longest_text (slice_index longest_starts i)
cut_at i h =
    let inside : i < 2 ^ 64 = omega (arith, h, starts_len) in
    rw (start_at i inside)
    (⊎_elim (λ (k : i < greatest). IsCharBoundary-before_ascii longest_text i
    (omega (arith, k, text_len)) (omega (arith, text_at i k)))
    (λ (k : greatest ≤ i). (
      omega (arith, inside, text_len, greatest_is),
      λ l. absurd (omega (arith, k, l, text_len)),
    ))
    (cases_lt i greatest))

-- a byte's line has the byte's index
pub line_of_byte : (byte : ℕ) → byte < 2 ^ 64 → line_of longest_starts byte ≡ byte
unfolding line_of
line_of_byte byte h =
    omega (
      arith,
      count_split byte longest_starts (byte + 1) (omega (arith, h, starts_len))
          (λ k low. omega (arith, start_at k (omega (arith, low, h))))
          (λ k high inside. omega (arith, high, start_at k (omega (arith, inside, starts_len)))),
    )

pub longest_lawful : (name : List ℕ) → IsLawful (longest_file name)
longest_lawful name = record {
  is_utf8 = text_is;
  fits = omega (arith, text_len, greatest_is);
  has_line = omega (arith, starts_len);
  first = start_at 0 (omega arith);
  ascending = λ i h. omega (
    arith,
    start_at i (omega (arith, h, starts_len)),
    start_at (i + 1) (omega (arith, h, starts_len)),
  );
  starts_on_boundaries = cut_at;
  ends_on_boundaries = cut_at;
  ends_after_start = λ i h. omega arith;
  ends_before_next = λ i h. omega (
    arith,
    start_at i (omega (arith, h, starts_len)),
    start_at (i + 1) (omega (arith, h, starts_len)),
  );
  same_length = refl;
  missing_name = λ e. absurd (cc);
  missing_text = λ e. absurd (cc);
}

pub longest_past_last_line : (name : List ℕ) (i : ℕ)
    → FailsPastLastLine (longest_file name) i (longest_failure (LineRange i))
longest_past_last_line name i there = rw starts_len (past_last_line_is (2 ^ 64) i)

pub ruleset longest_lines = (line_of_byte, start_at, starts_len)
