-- The law of UTF-8: the bytes of an output are UTF-8, and no style mark is inside a character.
use Rattle.std.specs.Prelude.{ℕ, List, [], ◌∷◌, ◌++◌, IfSome}
use Rattle.std.specs.Char.{IsScalar}
use Rattle.std.specs.Str.{IsUtf8}
use Rattle.codespan_output.specs.Types.{Diagnostic, Config, DisplayStyle, Chars}
use Rattle.codespan_core.specs.SnippetStarts.{start_text}
use Rattle.codespan_core.specs.FileModel.{FileDatabase}
use Rattle.codespan_core.specs.LawfulFiles.{IsLawful}
use Rattle.codespan_core.specs.Streams.{Stream, Byte, Mark, Slot, text_of}
use Rattle.codespan_output.specs.OutputStreams.{NamesAreUtf8, output}
use Rattle.codespan_output.specs.Picture.{picture}
use Rattle.codespan_output.specs.Rows.{Locus}

-- the stream, with these bytes before it, is UTF-8 up to its first style mark, between each two,
-- and after its last one
abbrev pub AreUtf8After : List ℕ → Stream → Type 0
AreUtf8After text [] = IsUtf8 text
AreUtf8After text (Byte b ∷ s) = AreUtf8After (text ++ b ∷ []) s
AreUtf8After text (Mark m ∷ s) = IsUtf8 text × AreUtf8After [] s
AreUtf8After text (Slot k ∷ s) = AreUtf8After text s

-- the bytes of the stream are UTF-8, and no style mark is inside a character
pub record StreamIsUtf8 (s : Stream) : Type 0 where
  pub utf8 : IsUtf8 (text_of s)
  pub between_style_marks : AreUtf8After [] s

-- each character is a Unicode scalar value, and the text before a locus is UTF-8
pub record CharsAreScalars (chars : Chars) : Type 0 where
  pub snippet_start : IsUtf8 (start_text chars.snippet_start)
  pub source_border_left : IsScalar chars.source_border_left
  pub source_border_left_break : IsScalar chars.source_border_left_break
  pub note_bullet : IsScalar chars.note_bullet
  pub single_primary_caret : IsScalar chars.single_primary_caret
  pub single_secondary_caret : IsScalar chars.single_secondary_caret
  pub multi_primary_caret_start : IsScalar chars.multi_primary_caret_start
  pub multi_primary_caret_end : IsScalar chars.multi_primary_caret_end
  pub multi_secondary_caret_start : IsScalar chars.multi_secondary_caret_start
  pub multi_secondary_caret_end : IsScalar chars.multi_secondary_caret_end
  pub multi_top_left : IsScalar chars.multi_top_left
  pub multi_top : IsScalar chars.multi_top
  pub multi_bottom_left : IsScalar chars.multi_bottom_left
  pub multi_bottom : IsScalar chars.multi_bottom
  pub multi_left : IsScalar chars.multi_left
  pub pointer_left : IsScalar chars.pointer_left

module _ {Id : Type 0} (display_style : DisplayStyle) (renderer_config view_config : Config)
    (files : FileDatabase Id) (d : Diagnostic Id) where
  -- the output with any loci is UTF-8 where the characters of the configuration are Unicode
  -- scalar values, its files are lawful, and the names of the loci are UTF-8
  abbrev pub OutputIsUtf8 : Type 0
  OutputIsUtf8 = CharsAreScalars renderer_config.chars → ((id : Id) → IsLawful (files.file id))
      → (loci : List Locus) → NamesAreUtf8 loci
      → StreamIsUtf8 (output display_style renderer_config view_config files d loci)

  -- so is the picture, where the stated names are UTF-8
  abbrev pub PictureIsUtf8 : Type 0
  PictureIsUtf8 = CharsAreScalars renderer_config.chars → ((id : Id) → IsLawful (files.file id))
      → ((id : Id) → IfSome (files.file id).name IsUtf8)
      → StreamIsUtf8 (picture display_style renderer_config view_config files d)
