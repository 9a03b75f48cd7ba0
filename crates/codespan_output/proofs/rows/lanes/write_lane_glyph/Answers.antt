use Rattle.codespan_output.specs.{label_glyph}
use Rattle.codespan_core.proofs.Chains.{failed-before, failed, writes-last}
use Rattle.codespan_output.proofs.rows.lanes.write_lane_glyph.Goals as goal

pub returns-in_err-write_crossing_characters : goal.returns-in_err-write_crossing_characters
unfolding label_glyph
returns-in_err-write_crossing_characters g c =
    failed _ _ _ _ _ c.from_residual.ensures.1
    (failed-before _ c.in_err-write_crossing_characters.ensures)

pub returns : goal.returns
unfolding label_glyph
returns g c = writes-last _ _ _ _ _ c.in_ok-write_crossing_characters.ensures c.write_glyph.ensures
