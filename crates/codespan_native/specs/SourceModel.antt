-- What contracts see of the Rust values of the files that a caller of C passes.
use Rattle.std.specs.Prelude.{List, map}
use Rattle.codespan_base.specs.SimpleFileViews.{name_of, source_of as simple_source_of}
use Rattle.codespan_native.specs.declared.native_file.stated.StatedText.{StatedText}
use Rattle.codespan_native.specs.declared.native_file.newline.NewlineText.{NewlineText}
use Rattle.codespan_native.specs.declared.native_file.NativeFile.{NativeFile}
use Rattle.codespan_native.specs.declared.native_file.text.SourceText.{SourceText}
use Rattle.codespan_native.specs.declared.native_file.text.SourceText.TheVariants.{Newline, Stated}
use Rattle.codespan_native.specs.declared.native_files.NativeFiles.{NativeFiles}
use Rattle.codespan_native.specs.StatedLines.{location_at}
use Rattle.codespan_native.specs.SourceTexts.{SourceTextView, NativeFileView, stated_text}
use Rattle.codespan_native.specs.SourceTexts.{newline_text}

-- a text cut at newlines
abbrev pub newline_view : NewlineText → SourceTextView
newline_view t = newline_text (name_of t.file).now (simple_source_of t.file).now t.first_line

-- a text of stated lines
abbrev pub stated_view : StatedText → SourceTextView
stated_view t = stated_text t.name.now t.source.now t.first_byte t.lines.now

-- either
abbrev pub source_text_view : SourceText → SourceTextView
source_text_view (Newline t) = newline_view t
source_text_view (Stated t) = stated_view t

-- a file
abbrev pub native_file_view : NativeFile → NativeFileView
native_file_view f = record {
  text = source_text_view f.text;
  stated_location = location_at f.first_byte f.locations.now;
}

-- the files of a database
abbrev pub native_file_views : NativeFiles → List NativeFileView
native_file_views files = map native_file_view files.files.items
