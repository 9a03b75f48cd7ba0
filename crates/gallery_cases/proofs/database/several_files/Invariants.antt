use Rattle.std.proofs.Common.{◌≡◌, map, take}
use Rattle.codespan_base.specs.SimpleFilesViews.{entries}
use Rattle.gallery_cases.specs.Cases.{file_view}
use Rattle.gallery_cases.specs.Database.{borrowed_view}
use Rattle.gallery_cases.proofs.database.several_files.Given as goal

abbrev pub invariant-loop-file : goal.invariant-loop-file
invariant-loop-file l =
    map borrowed_view (entries l.database) ≡ map file_view (take l.file-index l.files)
