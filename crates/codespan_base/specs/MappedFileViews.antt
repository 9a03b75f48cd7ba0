-- What contracts see of a `MappedFile`: its name, its source, its file, its errors and its set line
-- numbers.
use Rattle.std.specs.Prelude.{ℕ, List, Option}
use Rattle.std.specs.declared.convert.AsStr.{Ghosts}
use Rattle.codespan_core.specs.declared.files.error.Error.{Error}
use Rattle.codespan_base.specs.declared.files.mapped.MappedFile.{MappedFile}
use Rattle.codespan_core.specs.FileModel.{FileModel, Lookup}
use Rattle.codespan_core.specs.SimpleFileViews.{name_of, source_of, file_text_of}
use Rattle.codespan_base.specs.SetLineNumbers.{set_number_views}
use Rattle.codespan_base.specs.MappedModel.{mapped_file, mapped_failure}

module _ {Name Source : Type 0} {texts : Ghosts Source} where
  -- the name of a `MappedFile`
  abbrev pub mapped_name_of : MappedFile Name Source texts → Name
  mapped_name_of file = name_of file.file

  -- the source of a `MappedFile`
  abbrev pub mapped_source_of : MappedFile Name Source texts → Source
  mapped_source_of file = source_of file.file

  -- the text of a `MappedFile`
  abbrev pub mapped_text_of : MappedFile Name Source texts → List ℕ
  mapped_text_of file = file_text_of file.file

  -- the line indices whose numbers are set in a `MappedFile`, ascending, each with its number
  abbrev pub set_numbers_of : MappedFile Name Source texts → List (ℕ × ℕ)
  set_numbers_of file = set_number_views file.numbers.items

  -- the file that the lookups of a `MappedFile` describe, where `displayed` is what names display
  abbrev pub mapped_file_of : (Name → Option (List ℕ)) → MappedFile Name Source texts
      → FileModel
  mapped_file_of displayed file =
      mapped_file (displayed (mapped_name_of file)) (mapped_text_of file) (set_numbers_of file)

  -- what a lookup of a `MappedFile` fails with
  abbrev pub mapped_failure_of : MappedFile Name Source texts → Lookup → Option Error
  mapped_failure_of file lookup = mapped_failure (mapped_text_of file) (set_numbers_of file) lookup
