-- What contracts see of a `SimpleFiles`: its names and sources, its files, and its errors.
use Rattle.std.specs.Prelude.{ℕ, List, map, Option}
use Rattle.std.specs.declared.convert.AsStr.{Ghosts}
use Rattle.codespan_core.specs.declared.files.Error.{Error}
use Rattle.codespan_base.specs.declared.files.database.SimpleFiles.{SimpleFiles}
use Rattle.codespan_core.specs.FileModel.{FileModel, Lookup}
use Rattle.codespan_core.specs.SimpleModel.{database_file, database_failure}
use Rattle.codespan_core.specs.SimpleFileViews.{name_of, source_of}

module _ {Name Source : Type 0} {texts : Ghosts Source} where
  -- the names and sources of the files, in the order of their ids
  abbrev pub entries : SimpleFiles Name Source texts → List (Name × Source)
  entries database = map (λ file. (name_of file, source_of file)) database.files.items

  -- the file of an id, where `displayed` is what names display
  abbrev pub database_file_of : (Name → Option (List ℕ)) → SimpleFiles Name Source texts
      → ℕ
      → FileModel
  database_file_of displayed database id =
      database_file displayed texts.text (entries database) id

  -- what a lookup of an id fails with
  abbrev pub database_failure_of : SimpleFiles Name Source texts → ℕ → Lookup → Option Error
  database_failure_of database id lookup = database_failure texts.text (entries database) id lookup
