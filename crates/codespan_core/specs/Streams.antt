-- What is written to a writer: bytes, style marks, and, where a law speaks of them, slots that
-- stand for labels' messages.
use Rattle.std.specs.Prelude.{ℕ, List, [], ◌∷◌, ◌++◌, map, replicate, codes}
use Rattle.std.specs.List.{repeat}
use Rattle.std.specs.Char.{encode_utf8}
use Rattle.std.specs.Str.{byte}
use Rattle.codespan_core.specs.declared.term.config.style_mark.StyleMark.{StyleMark}

-- bytes, style marks, and slots, each of which names a label by its index in the diagnostic's list
pub data Item : Type 0 where
  Byte : ℕ → Item
  Mark : StyleMark → Item
  Slot : ℕ → Item

-- what is written of a row, or of a whole output
abbrev pub Stream : Type 0
Stream = List Item

-- a text as a stream
unfoldable pub byte_stream : List ℕ → Stream
byte_stream bs = map Byte bs

-- one style mark as a stream
unfoldable pub style_mark : StyleMark → Stream
style_mark m = Mark m ∷ []

-- that many spaces
unfoldable pub spaces : ℕ → Stream
spaces n = byte_stream (replicate n (byte " "))

-- one space
abbrev pub space : Stream
space = byte_stream (codes " ")

-- the end of a row
abbrev pub newline : Stream
newline = byte_stream (codes "\n")

-- one character, by its code
abbrev pub glyph : ℕ → Stream
glyph c = byte_stream (encode_utf8 c)

-- that many of one character
unfoldable pub repeated : ℕ → ℕ → Stream
repeated n c = repeat n (glyph c)

-- fixed bytes for each style mark
abbrev pub Spelling : Type 0
Spelling = StyleMark → List ℕ

-- the bytes of a stream, each style mark spelled as these bytes, and slots as nothing
abbrev pub spelled : Spelling → Stream → List ℕ
spelled spelling [] = []
spelled spelling (Byte b ∷ s) = b ∷ spelled spelling s
spelled spelling (Mark m ∷ s) = spelling m ++ spelled spelling s
spelled spelling (Slot k ∷ s) = spelled spelling s

-- every style mark is spelled as nothing
abbrev pub plain_spelling : Spelling
plain_spelling _ = []

-- the text of a stream: its bytes
abbrev pub text_of : Stream → List ℕ
text_of [] = []
text_of (Byte b ∷ s) = b ∷ text_of s
text_of (_ ∷ s) = text_of s

-- the stream with each slot filled by its label's message
abbrev pub with_messages : (ℕ → List ℕ) → Stream → Stream
with_messages message [] = []
with_messages message (Slot k ∷ s) = map Byte (message k) ++ with_messages message s
with_messages message (item ∷ s) = item ∷ with_messages message s
