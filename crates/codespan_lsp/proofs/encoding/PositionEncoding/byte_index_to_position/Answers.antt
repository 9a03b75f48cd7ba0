use Rattle.std.proofs.Common.{ap, arith, rules}
use Rattle.codespan_base.specs.FileModel.{line_start}
use Rattle.codespan_lsp.proofs.LineLemmas.{line_of-start}
use Rattle.codespan_lsp.proofs.encoding.PositionEncoding.byte_index_to_position.Goals as goal

-- a byte's line starts at the byte or before it
pub units_before-requires-clause-byte : goal.units_before-requires-clause-byte
units_before-requires-clause-byte g c =
    let f = (g.F.Files.database c.args.files.now).file c.args.id in
    let low = line_of-start f
    ((g.met.F.Files c.lifetimes (search rules)).lawful c.args.files.now c.args.id)
    c.args.byte_index in
    omega (
      arith,
      low,
      c.in_ok-line.ensures.value.start_is,
      ap (λ i. line_start f i) c.in_ok-line_index.ensures.value,
    )
