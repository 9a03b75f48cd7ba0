-- The laws of colors: they change no text.
use Rattle.std.specs.Prelude.{◌≡◌, ℕ, Bool, true, false, List, [], ◌∷◌, ◌++◌, map}
use Rattle.std.specs.Prelude.{filter}
use Rattle.codespan_base.specs.declared.term.config.styles.Styles.{Styles}
use Rattle.codespan_base.specs.Streams.{Stream, Spelling, Byte, Mark, Slot, spelled, text_of}
use Rattle.codespan_base.specs.StyleSpellings.{spelling_by}

-- a byte that a writer writes: of the text, or of a style mark's spelling
pub record WrittenByte : Type 0 where
  pub is_text : Bool
  pub byte : ℕ

-- what a writer of this spelling writes, byte by byte
abbrev pub written_bytes : Spelling → Stream → List WrittenByte
written_bytes spelling [] = []
written_bytes spelling (Byte b ∷ s) = record { is_text = true; byte = b } ∷ written_bytes
    spelling s
written_bytes spelling (Mark m ∷ s) =
    map (λ b. record { is_text = false; byte = b }) (spelling m) ++ written_bytes spelling s
written_bytes spelling (Slot k ∷ s) = written_bytes spelling s

-- however style marks are spelled, the bytes without those of the style marks are the plain text
pub record ColorsChangeNoText (spelling : Spelling) (s : Stream) : Type 0 where
  pub all : map (λ (x : WrittenByte). x.byte) (written_bytes spelling s) ≡ spelled spelling s
  pub text : map (λ (x : WrittenByte). x.byte)
      (filter (λ (x : WrittenByte). x.is_text) (written_bytes spelling s))
      ≡ text_of s

-- a writer without colors writes the plain text, whatever the styles
abbrev pub NoColorIsPlain : Styles → Stream → Type 0
NoColorIsPlain styles s = spelled (spelling_by styles (λ spec. []) []) s ≡ text_of s
