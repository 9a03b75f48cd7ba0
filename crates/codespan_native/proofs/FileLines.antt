-- Bytes of files have lines, for `NativeFile::location`.
use Rattle.std.proofs.Common.{◌≡◌, ◌<◌, ℕ, suc, length, None, refl, arith}
use Rattle.std.proofs.lemmas.Bool.{le-leb}
use Rattle.codespan_base.specs.FileModel.{line_of}
use Rattle.codespan_base.specs.Lemmas.Lines.{line_of_below}
use Rattle.codespan_native.specs.declared.native_file.NativeFile.{NativeFile}
use Rattle.codespan_native.specs.Lemmas.NativeFiles.{text_is_lawful}
use Rattle.codespan_native.specs.SourceModel.{native_file_view}
use Rattle.codespan_native.specs.SourceTexts.{source_line_failure}
use Rattle.codespan_native.specs.StatedLines.{location_at}

-- the line of a byte exists
pub byte_has_line : (f : NativeFile) (byte : ℕ)
    → source_line_failure (native_file_view f).text.starts
    (line_of (native_file_view f).text.starts byte) ≡ None
byte_has_line f byte =
    let starts = (native_file_view f).text.starts in
    let law = text_is_lawful f.text (location_at f.first_byte f.locations.now) in
    let h : line_of starts byte < length starts = line_of_below starts byte law.has_line in
    rw (le-leb (suc (line_of starts byte)) (length starts) (omega (arith, h))) refl
