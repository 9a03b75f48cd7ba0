use Rattle.codespan_core.proofs.Std.{arith, rules}
use Rattle.codespan_views.proofs.Files.Lengths.{file-between}
use Rattle.codespan_views.proofs.annotation.count_in_file.Goals as goal

pub returns-then-annotations-file_index-clause-value
    : goal.returns-then-annotations-file_index-clause-value
returns-then-annotations-file_index-clause-value g c =
    file-between c.args.file_index c.args.annotations.now c.index-annotations-0.result
    c.index-annotations-len.result c.index-annotations-0.is c.index-annotations-len.is
    (omega arith)
    (search rules) (search rules) c.requires
