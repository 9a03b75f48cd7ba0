use Rattle.std.proofs.Common.{◌≡◌, map, take}
use Rattle.codespan_styled.specs.Glyphs.{glyphs_of}
use Rattle.codespan_styled.specs.Runs.{run_view}
use Rattle.codespan_styled.proofs.svg.glyph.glyphs.Given as goal

abbrev pub invariant-loop-run : goal.invariant-loop-run
invariant-loop-run l = l.glyphs.items
    ≡ glyphs_of l.styles (map run_view (take l.run-index l.runs))
