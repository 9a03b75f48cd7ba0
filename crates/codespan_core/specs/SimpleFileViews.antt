-- What contracts see of a `SimpleFile`: its name, its source, its text and its file.
use Rattle.std.specs.Prelude.{ℕ, List, Option}
use Rattle.std.specs.declared.convert.AsStr.{Ghosts}
use Rattle.codespan_core.specs.declared.files.simple.SimpleFile.{SimpleFile}
use Rattle.codespan_core.specs.FileModel.{FileModel}
use Rattle.codespan_core.specs.SimpleModel.{simple_file}

module _ {Name Source : Type 0} {texts : Ghosts Source} where
  -- the name of a `SimpleFile`
  abbrev pub name_of : SimpleFile Name Source texts → Name
  name_of file = file.name

  -- the source of a `SimpleFile`
  abbrev pub source_of : SimpleFile Name Source texts → Source
  source_of file = file.source

  -- the text of a `SimpleFile`
  abbrev pub file_text_of : SimpleFile Name Source texts → List ℕ
  file_text_of file = texts.text file.source

  -- the file that the lookups of a `SimpleFile` describe, where `displayed` is what names display
  abbrev pub file_of : (Name → Option (List ℕ)) → SimpleFile Name Source texts → FileModel
  file_of displayed file = simple_file (displayed (name_of file)) (file_text_of file)
