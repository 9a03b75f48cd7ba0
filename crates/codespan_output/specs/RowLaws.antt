-- The laws of every row.
use Rattle.std.specs.Prelude.{◌≡◌, Bool, true, false, [], ◌∷◌, IsTrue, ℕ, not, List}
use Rattle.std.specs.Prelude.{count_by}
use Rattle.codespan_output.specs.Types.{Chars}
use Rattle.codespan_core.specs.Streams.{Stream, Byte, Mark, Slot, text_of}
use Rattle.codespan_core.specs.declared.term.config.style_mark.StyleMark.{StyleMark}
use Rattle.codespan_core.specs.declared.term.config.style_mark.StyleMark.TheVariants.{Reset}
use Rattle.codespan_core.specs.SnippetStarts.{start_text}
use Rattle.codespan_output.specs.Rows.{RowContext, Row}
use Rattle.codespan_output.specs.RowStreams.{stream_of}
use Rattle.std.specs.Int.{is_in_range}

-- the byte is a continuation byte of UTF-8
abbrev pub is_continuation : ℕ → Bool
is_continuation b = is_in_range 128 191 b

-- how many characters a text has: each has one byte that is not a continuation byte
abbrev pub character_count : List ℕ → ℕ
character_count bs = count_by (λ b. not (is_continuation b)) bs

-- how many characters a row has
abbrev pub row_length : Stream → ℕ
row_length s = character_count (text_of s)

-- a configuration with other characters, whose text before a locus has as many characters, changes
-- no row's number of characters
abbrev pub CharsChangeNoRowLength : Type 0
CharsChangeNoRowLength = (context : RowContext) (chars : Chars) (row : Row)
    → character_count (start_text chars.snippet_start)
    ≡ character_count (start_text context.chars.snippet_start)
    → row_length (stream_of (record context { chars = chars }) row)
    ≡ row_length (stream_of context row)

-- the style mark is a reset
abbrev pub is_reset : StyleMark → Bool
is_reset Reset = true
is_reset _ = false

-- the last style mark of a stream, if it has one, is a reset; `closed` is the value for one that
-- has none
abbrev pub ends_reset : Bool → Stream → Bool
ends_reset closed [] = closed
ends_reset closed (Mark m ∷ s) = ends_reset (is_reset m) s
ends_reset closed (Byte b ∷ s) = ends_reset closed s
ends_reset closed (Slot k ∷ s) = ends_reset closed s

-- the last style mark of a row, if it has one, is a reset
abbrev pub RowsEndReset : Type 0
RowsEndReset = (context : RowContext) (row : Row)
    → IsTrue (ends_reset true (stream_of context row))
