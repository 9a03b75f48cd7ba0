use Rattle.codespan_core.proofs.Std.{err_from_is_err_and, append_assoc}
use Rattle.codespan_core.specs.Streams.{newline}
use Rattle.codespan_output.specs.Arguments.{locus_view}
use Rattle.codespan_output.specs.RowParts.{outer_gutter}
use Rattle.codespan_output.specs.RowStreams.{snippet_start_row}
use Rattle.codespan_suggestions.proofs.RowLoops.{then-writes, first-fails}
use Rattle.codespan_suggestions.proofs.row.write_start.Goals as goal

pub returns-in_err-outer_gutter : goal.returns-in_err-outer_gutter
returns-in_err-outer_gutter g c =
    let p = err_from_is_err_and c.from_residual.result c.from_residual.ensures.1 in
    rw p.1
    (first-fails _ _ _ _ _ c.in_err-outer_gutter.ensures
    (append_assoc (outer_gutter c.args.settings.padding)
    (snippet_start_row c.args.settings.chars.now c.args.settings.padding
    (locus_view c.args.locus.now)) newline))

pub returns : goal.returns
returns g c = then-writes _ _ _ _ _ _ _ c.in_ok-outer_gutter.ensures c.write_snippet_start.ensures
    (append_assoc (outer_gutter c.args.settings.padding)
    (snippet_start_row c.args.settings.chars.now c.args.settings.padding
    (locus_view c.args.locus.now)) newline)
