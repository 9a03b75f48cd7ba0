use Rattle.std.proofs.Common.{◌∙◌, ◌++◌, ◌∷◌, [], ap}
use Rattle.codespan_native.specs.SourceModel.{native_file_view}
use Rattle.codespan_native.proofs.convert.files.convert_file.Goals as goal

-- the file is added to no files
pub returns : goal.returns
returns c =
    c.in_ok-add.ensures
    ∙ ap (λ xs. xs ++ native_file_view c.in_ok-file_of.field-0 ∷ []) c.new-files.ensures
    ∙ ap (λ s. s ∷ []) c.in_ok-file_of.ensures
