use Rattle.std.proofs.Common.{◌∙◌, ◌++◌, ◌∷◌, [], ap, sym, map, take, arith}
use Rattle.std.proofs.lemmas.List.{map_more}
use Rattle.codespan_native.specs.Converted.{converted_file}
use Rattle.codespan_native.specs.SourceModel.{native_file_view}
use Rattle.codespan_native.proofs.convert.files.convert_files.Goals as goal

pub loop-file-preserved : goal.loop-file-preserved
loop-file-preserved c =
    c.in_ok-add.ensures
    ∙ ap (λ xs. xs ++ native_file_view c.in_ok-file_of.field-0 ∷ []) c.loop-file.invariant
    ∙ ap (λ s. map converted_file (take c.loop-file.file-index c.args.raw.now) ++ s ∷ [])
    c.in_ok-file_of.ensures
    ∙ sym (map_more converted_file c.args.raw.now c.loop-file.file-index _ (omega arith))
