use Rattle.codespan_views.proofs.Files.LociFound.{LociFound}
use Rattle.codespan_views.proofs.collected.find_loci.Given as goal

-- the files before this one have their loci
abbrev pub invariant-loop-index : goal.invariant-loop-index
invariant-loop-index g l =
    LociFound (g.F.Files.database l.files).file (g.F.Files.database l.files).failure
    l.fn.labeled_files.items l.labeled_files.items l.index
