use Rattle.std.proofs.Common.{◌≡◌, map, take}
use Rattle.codespan_native.specs.Converted.{converted_file}
use Rattle.codespan_native.specs.SourceModel.{native_file_views}
use Rattle.codespan_native.proofs.convert.files.convert_files.Given as goal

-- the files so far
abbrev pub invariant-loop-file : goal.invariant-loop-file
invariant-loop-file l = native_file_views l.files ≡ map converted_file (take l.file-index l.raw)
