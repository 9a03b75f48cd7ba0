-- Valid parts of the arguments, as their conversions require them.
use Rattle.std.specs.Prelude.{◌≡◌, ◌≤◌, All}
use Rattle.std.specs.Char.{InScalarRange}
use Rattle.std.specs.Str.{IsUtf8}
use Rattle.codespan_native.specs.declared.raw.RawChars.{RawChars}
use Rattle.codespan_native.specs.declared.raw.RawConfig.{RawConfig}
use Rattle.codespan_native.specs.declared.raw.RawDiagnostic.{RawDiagnostic}
use Rattle.codespan_native.specs.declared.raw.RawFile.{RawFile}
use Rattle.codespan_native.specs.Validity.{HasValidMessage, HasValidName, HasValidSource}
use Rattle.codespan_native.specs.Validity.{HasValidLines, HasValidLocations, IsValidText}

-- the caller's characters
pub record AreCustomChars (c : RawChars) : Type 0 where
  pub snippet_start : IsUtf8 c.snippet_start.now
  pub source_border_left : InScalarRange c.source_border_left
  pub source_border_left_break : InScalarRange c.source_border_left_break
  pub note_bullet : InScalarRange c.note_bullet
  pub single_primary_caret : InScalarRange c.single_primary_caret
  pub single_secondary_caret : InScalarRange c.single_secondary_caret
  pub multi_primary_caret_start : InScalarRange c.multi_primary_caret_start
  pub multi_primary_caret_end : InScalarRange c.multi_primary_caret_end
  pub multi_secondary_caret_start : InScalarRange c.multi_secondary_caret_start
  pub multi_secondary_caret_end : InScalarRange c.multi_secondary_caret_end
  pub multi_top_left : InScalarRange c.multi_top_left
  pub multi_top : InScalarRange c.multi_top
  pub multi_bottom_left : InScalarRange c.multi_bottom_left
  pub multi_bottom : InScalarRange c.multi_bottom
  pub multi_left : InScalarRange c.multi_left
  pub pointer_left : InScalarRange c.pointer_left

-- the choice of characters, and the caller's where they are chosen
pub record AreValidChars (c : RawConfig) : Type 0 where
  pub choice : c.characters ≤ 2
  pub custom : c.characters ≡ 2 → AreCustomChars c.chars

-- a file
pub record IsValidFile (f : RawFile) : Type 0 where
  pub name : HasValidName f
  pub source : HasValidSource f
  pub lines : HasValidLines f
  pub locations : HasValidLocations f

-- the diagnostic
pub record IsValidDiagnostic (d : RawDiagnostic) : Type 0 where
  pub code : IsUtf8 d.code.now
  pub message : IsUtf8 d.message.now
  pub labels : All HasValidMessage d.labels.now
  pub notes : All IsValidText d.notes.now
