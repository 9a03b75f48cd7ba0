use Rattle.std.proofs.Common.{◌∙◌}
use Rattle.codespan_native.proofs.Views.{source_is}
use Rattle.codespan_native.proofs.convert.files.file_of.Goals as goal

pub returns : goal.returns
returns c =
    source_is _ _ (c.new.ensures.text ∙ c.in_ok-text.ensures) c.new.ensures.stated
