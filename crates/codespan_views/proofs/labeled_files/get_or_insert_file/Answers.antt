use Rattle.codespan_core.proofs.Std.{◌≡◌, arith, common_steps, map-append}
use Rattle.codespan_views.specs.Private.{ids_view, index_of_file}
use Rattle.codespan_views.proofs.Files.Indices.{file-added, file-unchanged}
use Rattle.codespan_views.proofs.labeled_files.get_or_insert_file.Given.{Over}
use Rattle.codespan_views.proofs.labeled_files.get_or_insert_file.Goals.{After-len}
use Rattle.codespan_views.proofs.labeled_files.get_or_insert_file.Goals as goal

-- the index that was found
found : (g : Over) (c : After-len g)
    → c.find_file-index.result ≡ index_of_file g.FileId.PartialEq.eq
    (ids_view c.args.files.now.items) c.args.id
found g c = grind (arith, common_steps)

-- the file is one more
pub returns-in_ok-push-clause-files : goal.returns-in_ok-push-clause-files
returns-in_ok-push-clause-files g c = grind (arith, common_steps, map-append, file-added, found)

-- it is one of those that are there
pub returns-else-index-len-clause-files : goal.returns-else-index-len-clause-files
returns-else-index-len-clause-files g c = grind (arith, common_steps, file-unchanged, found)
