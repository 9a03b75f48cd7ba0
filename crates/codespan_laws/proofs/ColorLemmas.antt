-- For `colors_change_no_text`: bytes of text among bytes of style marks.
use Rattle.std.proofs.Common.{◌≡◌, ℕ, false, List, [], ◌∷◌, ◌++◌, map, filter}
use Rattle.std.proofs.Common.{refl, ap, ap₂, ◌∙◌}
use Rattle.std.proofs.lemmas.List.{map-append}
use Rattle.codespan_base.specs.declared.term.config.styles.Styles.{Styles}
use Rattle.codespan_base.specs.Streams.{Stream, Spelling, Byte, Mark, Slot, spelled, text_of}
use Rattle.codespan_base.specs.declared.term.config.style_mark.StyleMark.{StyleMark}
use Rattle.codespan_base.specs.declared.term.config.style_mark.StyleMark.TheVariants.{Header}
use Rattle.codespan_base.specs.declared.term.config.style_mark.StyleMark.TheVariants.{HeaderMessage}
use Rattle.codespan_base.specs.declared.term.config.style_mark.StyleMark.TheVariants.{LineNumber}
use Rattle.codespan_base.specs.declared.term.config.style_mark.StyleMark.TheVariants.{NoteBullet}
use Rattle.codespan_base.specs.declared.term.config.style_mark.StyleMark.TheVariants.{SourceBorder}
use Rattle.codespan_base.specs.declared.term.config.style_mark.StyleMark.TheVariants.{Label, Reset}
use Rattle.codespan_base.specs.StyleSpellings.{spelling_by}
use Rattle.codespan_laws.specs.ColorLaws.{ColorsChangeNoText, NoColorIsPlain, WrittenByte}
use Rattle.codespan_laws.specs.ColorLaws.{written_bytes}

-- the byte that is written
abbrev byte_of : WrittenByte → ℕ
byte_of x = x.byte

-- a byte of a style mark
abbrev of_style_mark : ℕ → WrittenByte
of_style_mark b = record { is_text = false; byte = b }

-- the bytes of a style mark are its spelling
style_mark_bytes : (bs : List ℕ) → map byte_of (map of_style_mark bs) ≡ bs
style_mark_bytes [] = refl
style_mark_bytes (b ∷ bs) = ap (λ (l : List ℕ). b ∷ l) (style_mark_bytes bs)

-- and none of them is text
no_text : (bs : List ℕ) (rest : List WrittenByte)
    → filter (λ (x : WrittenByte). x.is_text) (map of_style_mark bs ++ rest) ≡ filter
    (λ (x : WrittenByte). x.is_text) rest
no_text [] rest = refl
no_text (b ∷ bs) rest = no_text bs rest

all_written : (spelling : Spelling) (s : Stream)
    → map byte_of (written_bytes spelling s) ≡ spelled spelling s
all_written spelling [] = refl
all_written spelling (Byte b ∷ s) = ap (λ (l : List ℕ). b ∷ l) (all_written spelling s)
all_written spelling (Mark m ∷ s) =
    map-append byte_of (map of_style_mark (spelling m)) (written_bytes spelling s)
    ∙ ap₂ (λ (k l : List ℕ). k ++ l) (style_mark_bytes (spelling m)) (all_written spelling s)
all_written spelling (Slot k ∷ s) = all_written spelling s

text_written : (spelling : Spelling) (s : Stream)
    → map byte_of (filter (λ (x : WrittenByte). x.is_text) (written_bytes spelling s))
    ≡ text_of s
text_written spelling [] = refl
text_written spelling (Byte b ∷ s) = ap (λ (l : List ℕ). b ∷ l) (text_written spelling s)
text_written spelling (Mark m ∷ s) =
    ap (map byte_of) (no_text (spelling m) (written_bytes spelling s)) ∙ text_written spelling s
text_written spelling (Slot k ∷ s) = text_written spelling s

pub colors_change_no_text : (spelling : Spelling) (s : Stream) → ColorsChangeNoText spelling s
colors_change_no_text spelling s =
    record { all = all_written spelling s; text = text_written spelling s }

-- a writer without colors spells each style mark as nothing
nothing : (styles : Styles) (m : StyleMark) → spelling_by styles (λ spec. []) [] m ≡ []
nothing styles (Header severity) = refl
nothing styles HeaderMessage = refl
nothing styles LineNumber = refl
nothing styles NoteBullet = refl
nothing styles SourceBorder = refl
nothing styles (Label severity style) = refl
nothing styles Reset = refl

pub no_color_is_plain : (styles : Styles) (s : Stream) → NoColorIsPlain styles s
no_color_is_plain styles [] = refl
no_color_is_plain styles (Byte b ∷ s) = ap (λ (l : List ℕ). b ∷ l)
    (no_color_is_plain styles s)
no_color_is_plain styles (Mark m ∷ s) =
    ap (λ (l : List ℕ). l ++ spelled (spelling_by styles (λ spec. []) []) s) (nothing styles m)
    ∙ no_color_is_plain styles s
no_color_is_plain styles (Slot k ∷ s) = no_color_is_plain styles s
