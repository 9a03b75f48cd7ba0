use Rattle.codespan_core.proofs.Std.{refl, err_from_is_err_and, map}
use Rattle.codespan_core.specs.Streams.{newline}
use Rattle.codespan_suggestions.specs.Private.FileViews.{settings_view, file_view}
use Rattle.codespan_suggestions.proofs.RowLoops.{then-writes, first-fails, second-fails, rich-parts}
use Rattle.codespan_suggestions.proofs.rows.write_rich.Goals as goal

pub returns-in_err-write_header : goal.returns-in_err-write_header
returns-in_err-write_header g c =
    let p = err_from_is_err_and c.from_residual.result c.from_residual.ensures.1 in
    rw p.1 (first-fails _ _ _ _ _ c.in_err-write_header.ensures refl)

pub returns-in_err-write_files : goal.returns-in_err-write_files
returns-in_err-write_files g c =
    let p = err_from_is_err_and c.from_residual-in_err-write_files.result
    c.from_residual-in_err-write_files.ensures.1 in
    rw p.1 (second-fails _ _ _ _ newline _ _ c.in_ok-write_header.ensures
    c.in_err-write_files.ensures
    (rich-parts (settings_view c.args.settings) (map file_view c.args.files.now)))

pub returns : goal.returns
returns g c =
    then-writes _ _ _ _ _ _ _ c.in_ok-write_header.ensures
    (then-writes _ _ _ _ _ _ _ c.in_ok-write_files.ensures c.put_all.ensures refl)
    (rich-parts (settings_view c.args.settings) (map file_view c.args.files.now))
