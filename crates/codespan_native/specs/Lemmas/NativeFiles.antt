-- The files of `NativeFiles` are lawful, and the lookup of a line's range fails past the last line.
use Rattle.std.proofs.lemmas.Str.{IsUtf8-had}
use Rattle.std.specs.Prelude.{ℕ, List, length, slice_get, Option}
use Rattle.codespan_base.specs.declared.files.Location.{Location}
use Rattle.codespan_base.specs.FileModel.Lookup.{LineRange}
use Rattle.codespan_base.specs.LawfulFiles.{IsLawful, FailsPastLastLine}
use Rattle.codespan_base.specs.Lemmas.Simple.{past_last_line_is, text_fits, text_is_utf8}
use Rattle.codespan_base.specs.Lemmas.Missing.{past_last_line_or, database_lawful}
use Rattle.codespan_native.specs.declared.native_file.stated.StatedText.{StatedText}
use Rattle.codespan_native.specs.declared.native_file.text.SourceText.{SourceText}
use Rattle.codespan_native.specs.declared.native_file.text.SourceText.TheVariants.{Newline, Stated}
use Rattle.codespan_native.specs.declared.native_files.NativeFiles.{NativeFiles}
use Rattle.codespan_native.specs.Lemmas.SourceTexts.{newline_lawful, stated_lawful}
use Rattle.codespan_native.specs.SourceModel.{source_text_view, native_file_view, native_file_views}
use Rattle.codespan_native.specs.SourceModel.{stated_view}
use Rattle.codespan_native.specs.SourceTexts.{NativeFileView, native_database, native_failure}
use Rattle.codespan_native.specs.SourceTexts.{native_file_model}
use Rattle.codespan_native.specs.StatedLines.{location_at}

-- a text of stated lines makes a lawful file, whatever its locations are
pub stated_is_lawful : (t : StatedText) (stated : ℕ → Option Location)
    → IsLawful (native_file_model (record { text = stated_view t; stated_location = stated }))
stated_is_lawful t stated =
    stated_lawful _ _ t.first_byte t.lines.now stated (IsUtf8-had _ t.utf8) t.fits t.cut

-- a text makes a lawful file
pub text_is_lawful : (t : SourceText) (stated : ℕ → Option Location)
    → IsLawful
    (native_file_model (record { text = source_text_view t; stated_location = stated }))
text_is_lawful (Newline t) stated =
    newline_lawful _ _ t.first_line stated (text_is_utf8 t.file) (text_fits t.file)
text_is_lawful (Stated t) stated = stated_is_lawful t stated

-- a database is lawful
pub database_is_lawful : (files : NativeFiles) (id : ℕ)
    → IsLawful ((native_database (native_file_views files)).file id)
database_is_lawful files id =
    database_lawful native_file_view native_file_model files.files.items id
    (λ f. text_is_lawful f.text (location_at f.first_byte f.locations.now))

-- the lookup of a line's range fails past the last line
pub database_fails_past_last_line : (views : List NativeFileView) (id i : ℕ)
    → FailsPastLastLine ((native_database views).file id) i
    ((native_database views).failure id (LineRange i))
database_fails_past_last_line views id i =
    past_last_line_or native_file_model native_failure i (slice_get views id)
    (λ view there. past_last_line_is (length view.text.starts) i)
