-- The characters of borders with which the rows of an output can be told apart.
use Rattle.std.specs.Prelude.{◌≡◌, ℕ, ◌==◌, Bool, true, false, if◌then◌else◌, List, []}
use Rattle.std.specs.Prelude.{◌∷◌}
use Rattle.std.specs.List.{AllByRecursion}
use Rattle.std.specs.Char.{encode_utf8}
use Rattle.std.specs.Str.{byte}
use Rattle.codespan_core.specs.SnippetStarts.{start_text}
use Rattle.codespan_output.specs.Types.{Chars}
use Rattle.codespan_suggestions.specs.ReadOutput.{is_gutter}

-- a text has no newline
abbrev pub IsOneRow : List ℕ → Type 0
IsOneRow = AllByRecursion (λ b. (b == byte "\n") ≡ false)

-- a text does not begin with a digit or a space
abbrev pub EndsGutter : List ℕ → Type 0
EndsGutter [] = Unit {0}
EndsGutter (b ∷ bs) = is_gutter b ≡ false

-- two texts differ in a byte that both have
abbrev pub are_apart : List ℕ → List ℕ → Bool
are_apart [] cs = false
are_apart (b ∷ bs) [] = false
are_apart (b ∷ bs) (c ∷ cs) = if b == c then are_apart bs cs else true

-- a character of a border is no newline, digit or space, and is not what a file's start begins with
pub record IsReadableBorder (start : List ℕ) (c : ℕ) : Type 0 where
  pub one_row : IsOneRow (encode_utf8 c)
  pub ends_gutter : EndsGutter (encode_utf8 c)
  pub apart : are_apart start (encode_utf8 c) ≡ true

-- the start of a file, the border and the break can be told apart
pub record AreReadable (chars : Chars) : Type 0 where
  pub start_row : IsOneRow (start_text chars.snippet_start)
  pub start : EndsGutter (start_text chars.snippet_start)
  pub border : IsReadableBorder (start_text chars.snippet_start) chars.source_border_left
  pub break : IsReadableBorder (start_text chars.snippet_start) chars.source_border_left_break
  pub distinct : are_apart (encode_utf8 chars.source_border_left)
      (encode_utf8 chars.source_border_left_break) ≡ true
